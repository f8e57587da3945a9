use Rattle.std.proofs.Common.{◌≡◌, ◌≤◌, ◌+◌, ◌-◌, length, vec_len}
use Rattle.std.specs.Prelude.{max}
use Rattle.ml_views.specs.inside.Layout.{undo_log}
use Rattle.ml_views.proofs.undo.add_files.Given as goal

abbrev pub invariant-loop-alloc : goal.invariant-loop-alloc
invariant-loop-alloc l = (undo_log l.files.items ≡ undo_log l.initial.files.items) × (length l.files.items ≤ max (length l.initial.files.items) (l.at + 1))

abbrev pub decreases-loop-alloc : goal.decreases-loop-alloc
decreases-loop-alloc l = l.at + 1 - vec_len l.files
