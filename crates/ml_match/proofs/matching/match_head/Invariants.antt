-- Whatever head it was at the first place, it is matched so far.
use Rattle.std.proofs.Common.{◌≡◌, ◌≤◌, ◌-◌, ℕ, List, length}
use mathlib.Core.List.{IsPrefix}
use Rattle.ml_term.specs.Unify.{Equation}
use Rattle.ml_heap.specs.Changes.{Changes, KeepsMarks, variable_count}
use Rattle.ml_match.specs.inside.Running.{IsRunning}
use Rattle.ml_match.proofs.matching.match_head.Given as goal

abbrev pub invariant-loop-cell : goal.invariant-loop-cell
invariant-loop-cell l = record {
  running : (es : List Equation) (old : Changes) (next wide q : ℕ) → IsRunning l.code es old next wide l.env q 1 l.fn.heap l.fn.slots l.fn.todo.items
      → IsRunning l.code es old next wide l.env q l.at l.heap l.slots l.todo.items;
  front : (before : List ℕ) → length before ≤ l.env → IsPrefix before l.fn.slots → IsPrefix before l.slots;
  many : length l.slots ≡ length l.fn.slots;
  counted : variable_count l.heap ≡ variable_count l.fn.heap;
  marks : KeepsMarks l.fn.heap l.heap;
}

abbrev pub decreases-loop-cell : goal.decreases-loop-cell
decreases-loop-cell l = length l.code - l.at
