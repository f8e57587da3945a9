-- So many variables have been made, and each stands alone.
use Rattle.std.proofs.Common.{◌≡◌, ◌+◌, ◌<◌, ℕ, length}
use mathlib.Core.List.{IsPrefix}
use Rattle.ml_heap.specs.Changes.{Grows, variable_count}
use Rattle.ml_match.specs.inside.Matching.{HasNewSlot}
use Rattle.ml_match.proofs.variables.create_variables.Given as goal

abbrev pub invariant-loop : goal.invariant-loop
invariant-loop l = record {
  many : length l.slots.items ≡ length l.fn.slots.items + l.counter;
  made : (n : ℕ) → n < l.counter → HasNewSlot l.heap l.slots.items (length l.fn.slots.items + n) (variable_count l.fn.heap + n);
  counted : variable_count l.heap ≡ variable_count l.fn.heap + l.counter;
  front : IsPrefix l.fn.slots.items l.slots.items;
  grown : Grows l.fn.heap l.heap;
}
