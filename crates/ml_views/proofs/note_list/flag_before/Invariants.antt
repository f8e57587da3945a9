use Rattle.std.proofs.Common.{◌≡◌, ◌≤◌, length, take}
use Rattle.ml_views.specs.UndoLog.{flag_at}
use Rattle.ml_views.proofs.note_list.flag_before.Given as goal

abbrev pub invariant-loop-left : goal.invariant-loop-left
invariant-loop-left l = (l.left ≤ length l.notes) × (flag_at l.stamp l.committed l.notes ≡ flag_at l.stamp l.committed (take l.left l.notes))

abbrev pub decreases-loop-left : goal.decreases-loop-left
decreases-loop-left l = l.left
