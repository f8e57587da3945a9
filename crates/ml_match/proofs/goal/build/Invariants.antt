-- The cells behind those that were there are the terms so far.
use Rattle.std.proofs.Common.{◌≡◌, ℕ, List, []}
use mathlib.Core.List.{IsPrefix}
use Rattle.ml_term.specs.Tree.{Tree}
use Rattle.ml_heap.specs.Changes.{Grows, variable_count}
use Rattle.ml_compile.specs.Spells.{Builds}
use Rattle.ml_match.specs.Slots.{HaveSlots}
use Rattle.ml_match.specs.Built.{IsCallAt}
use Rattle.ml_match.specs.inside.Building.{IsBuilding}
use Rattle.ml_match.proofs.goal.build.Given as goal

abbrev pub invariant-loop-at : goal.invariant-loop-at
invariant-loop-at l = record {
  building : (q : ℕ) (ts : List Tree) → Builds l.code l.place q [] ts → IsCallAt l.code q → HaveSlots l.fn.heap l.slots l.env ts
      → IsBuilding l.fn.heap l.slots l.env l.code l.fn.cells.items q ts l.at l.heap l.cells.items;
  front : IsPrefix l.fn.cells.items l.cells.items;
  grown : Grows l.fn.heap l.heap;
  counted : variable_count l.heap ≡ variable_count l.fn.heap;
}
