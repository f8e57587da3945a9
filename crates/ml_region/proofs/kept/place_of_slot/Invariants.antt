use Rattle.std.proofs.Common.{◌≢◌, ℕ, ◌<◌}
use Rattle.ml_region.specs.Listing.{slot_at}
use Rattle.ml_region.specs.inside.Kept.{kept_entries}
use Rattle.ml_region.proofs.kept.place_of_slot.Given as goal

abbrev pub invariant-loop-place : goal.invariant-loop-place
invariant-loop-place l = (k : ℕ) → k < l.place → slot_at (kept_entries l.kept) k ≢ l.slot
