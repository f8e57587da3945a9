use Rattle.std.proofs.Common.{◌≢◌, ℕ, ◌<◌}
use Rattle.ml_region.specs.Listing.{prefix_at}
use Rattle.ml_region_rows.proofs.region_rows.is_new_prefix.Given as goal

abbrev pub invariant-loop-i : goal.invariant-loop-i
invariant-loop-i l = (k : ℕ) → k < l.i → prefix_at l.dir.entries k ≢ l.list.bits
