-- Which instruction of a head a term clashes with at once. No public clause cites this module.
use Rattle.std.specs.Prelude.{◌≢◌, ◌⊎◌, length}
use Rattle.ml_term.specs.Tree.{Tree, integer, atom, compound, list_of}
use Rattle.ml_compile.specs.declared.instr.Instr.{Instr}
use Rattle.ml_compile.specs.declared.instr.Instr.TheVariants.{GetInt, GetAtom, GetCmp}

-- The term is no variable, and of another kind, value, name or arity than what the instruction
-- matches.
abbrev pub Clashes : Tree → Instr → Type 0
Clashes (integer y) (GetInt z) = y ≢ z
Clashes (integer y) (GetAtom f) = Unit {0}
Clashes (integer y) (GetCmp f n s) = Unit {0}
Clashes (atom f) (GetInt z) = Unit {0}
Clashes (atom f) (GetAtom g) = f ≢ g
Clashes (atom f) (GetCmp g n s) = Unit {0}
Clashes (compound f ts) (GetInt z) = Unit {0}
Clashes (compound f ts) (GetAtom g) = Unit {0}
Clashes (compound f ts) (GetCmp g n s) = (f ≢ g) ⊎ (length (list_of ts) ≢ n)
Clashes t x = ⊥
