-- How a term of a head, by its first instruction, meets the term of a cell. No public clause cites
-- this module.
use Rattle.std.specs.Prelude.{◌≡◌, ℕ, List, length}
use Rattle.ml_term.specs.Tree.{Tree, integer, atom, compound, trees_of}
use Rattle.ml_heap.specs.Changes.{arguments_of}
use Rattle.ml_compile.specs.declared.instr.Instr.{Instr}
use Rattle.ml_compile.specs.declared.instr.Instr.TheVariants.{GetInt, GetAtom, GetCmp}
use Rattle.ml_match.specs.declared.mode.Mode.{Mode}
use Rattle.ml_match.specs.declared.mode.Mode.TheVariants as mode
use Rattle.ml_match.specs.inside.Clashes.{Clashes}

-- a term is a compound of a name and so many arguments
pub record IsCompound (f : List ℕ) (n : ℕ) (t : Tree) : Type 0 where
  pub is : t ≡ compound f (trees_of (arguments_of t))
  pub many : length (arguments_of t) ≡ n

-- the term has the kind, value, name and arity of what the instruction matches
abbrev pub Agrees : Tree → Instr → Type 0
Agrees t (GetInt z) = t ≡ integer z
Agrees t (GetAtom f) = t ≡ atom f
Agrees t (GetCmp f n s) = IsCompound f n t
Agrees t x = ⊥

-- The mode tells of a clash only where there is one, and reads only where both agree.
abbrev pub IsMode : Tree → Instr → Mode → Type 0
IsMode t x mode.Clash = Clashes t x
IsMode t x mode.Read = Agrees t x
IsMode t x mode.Write = Unit {0}

-- how many instructions a term takes, by its first one
abbrev pub size_by : Instr → ℕ
size_by (GetCmp f n s) = s
size_by x = 1

-- how many arguments it has
abbrev pub arity_by : Instr → ℕ
arity_by (GetCmp f n s) = n
arity_by x = 0
