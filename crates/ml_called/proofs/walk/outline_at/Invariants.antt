-- What waits makes of the step at hand the outline of the whole term.
use Rattle.std.proofs.Common.{◌≡◌, ◌+◌, [], length}
use Rattle.ml_heap.specs.Changes.{stands_for}
use Rattle.ml_called.specs.inside.Outlines.{IsWalking, Begins, outline_behind, work_of_step, work_of_frames}
use Rattle.ml_called.proofs.walk.outline_at.Given as goal

abbrev pub invariant-loop-step : goal.invariant-loop-step
invariant-loop-step l = record {
  walking : IsWalking l.heap l.fn.slots.items (outline_behind [] (stands_for l.heap l.fn.at)) l.frames.items l.slots.items l.step;
  env : l.env ≡ length l.fn.slots.items;
  begins : Begins l.fn.slots.items l.slots.items;
}

abbrev pub decreases-loop-step : goal.decreases-loop-step
decreases-loop-step l = work_of_step l.heap l.step + work_of_frames l.heap l.frames.items
