-- What the compiler's functions append to code. No public clause cites this module.
use Rattle.std.specs.Prelude.{◌≡◌, ℕ, ◌+◌, Bool, false, List, ◌++◌, length}
use Rattle.std.specs.Str.{bytes_eq}
use mathlib.Core.List.{IsPrefix}
use Rattle.ml_term.specs.Tree.{Tree, compound, no_trees, tree, trees_of, nodes_of}
use Rattle.ml_search.specs.Bodies.{Body}
use Rattle.ml_compile.specs.declared.instr.Instr.{Instr}
use Rattle.ml_compile.specs.Spells.{Builds, Matches, Spells, IsBlock}

-- new code behind the old builds some terms
pub record Built (old : List Instr) (ts : List Tree) (new : List Instr) : Type 0 where
  pub begins : IsPrefix old new
  pub builds : (us : List Tree) → Builds new (length old) (length new) us (us ++ ts)

-- new code behind the old matches some terms, an instruction a node
pub record Matched (old : List Instr) (met : ℕ) (ts : List Tree) (after : ℕ)
    (new : List Instr) : Type 0 where
  pub begins : IsPrefix old new
  pub count : length new ≡ length old + nodes_of (trees_of ts)
  pub matches : Matches new (length old) (length new) met ts after

-- new code behind the old spells a body
pub record Spelled (old : List Instr) (b : Body) (new : List Instr) : Type 0 where
  pub begins : IsPrefix old new
  pub spells : Spells new (length old) b (length new)

-- new code behind the old is a block of a body
pub record Blocked (old : List Instr) (b : Body) (new : List Instr) : Type 0 where
  pub begins : IsPrefix old new
  pub block : IsBlock new (length old) b

-- whether a term is a compound of this name and two arguments
abbrev pub is_pair : List ℕ → Tree → Bool
is_pair g (compound f (tree t (tree u no_trees))) = bytes_eq f g
is_pair g t = false
