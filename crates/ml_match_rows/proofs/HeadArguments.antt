-- Heads and calls: as many arguments as a head has, and cells that stay when a clause is entered.
use Rattle.std.proofs.Common.{◌≡◌, ◌≤◌, ℕ, List, refl}
use Rattle.std.specs.Prelude.{Option, Some, None}
use Rattle.ml_compile.specs.declared.instr.Instr.{Instr}
use Rattle.ml_heap.specs.Changes.{Changes, cell_count}
use Rattle.ml_match.specs.Entered.{EnteringGives}
use Rattle.ml_search.specs.Program.{Clause, arity_of}
use Rattle.ml_term.specs.Keys.{arguments}
use Rattle.ml_term.specs.Tree.{Tree, arity, variable, integer, atom, compound}
use Rattle.ml_term.specs.Unify.{Equation}

pub arity_is : (t : Tree) → arity_of t ≡ arity (arguments t)
arity_is (variable n) = refl
arity_is (integer z) = refl
arity_is (atom f) = refl
arity_is (compound f ts) = refl

pub cells_stay : (code : List Instr) (h h' : Changes) (slots : List ℕ) (env : ℕ) (c : Clause) (es : List Equation) (found : Option ℕ) (place : ℕ)
    → EnteringGives code h h' slots env c es found → found ≡ Some place → cell_count h ≤ cell_count h'
cells_stay code h h' slots env c es None place g e = absurd (cc e)
cells_stay code h h' slots env c es (Some p) place g e = g.carried.cells
