use Rattle.std.proofs.Common.{◌≡◌, ℕ, ◌<◌, get_or}
use Rattle.std.specs.FinMap.{empty}
use Rattle.ml_views.specs.inside.Layout.{FileLog}
use Rattle.ml_views.proofs.undo.first_noted.Given as goal

abbrev pub invariant-loop-at : goal.invariant-loop-at
invariant-loop-at l = (k : ℕ) (d : FileLog) → k < l.at → get_or l.files k d ≡ empty
