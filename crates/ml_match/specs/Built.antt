-- What the arguments of a goal are when they have been built.
use Rattle.std.specs.Prelude.{◌≡◌, ℕ, List, ◌++◌, map}
use Rattle.ml_term.specs.Tree.{Tree}
use Rattle.ml_term.specs.declared.declaration.Pred.{Pred}
use Rattle.ml_heap.specs.Changes.{Changes, cell_count, stands_for, AreCells}
use Rattle.ml_compile.specs.declared.instr.Instr.{Instr}
use Rattle.ml_compile.specs.declared.instr.Instr.TheVariants.{Call}
use Rattle.ml_compile.specs.Spells.{StandsAt}

-- a call stands at a place
abbrev pub IsCallAt : List Instr → ℕ → Type 0
IsCallAt code q = (g : Pred) × StandsAt code q (Call g)

-- some cells behind others stand for some trees, one for one
pub record HasBuilt (h : Changes) (before after : List ℕ) (ts : List Tree) : Type 0 where
  pub made : List ℕ
  pub cells : after ≡ before ++ made
  pub inside : AreCells (cell_count h) made
  pub stand : map (stands_for h) made ≡ ts
