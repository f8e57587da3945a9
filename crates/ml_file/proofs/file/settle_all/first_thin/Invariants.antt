use Rattle.std.proofs.Common.{◌≡◌, ℕ, ◌<◌, false}
use Rattle.ml_region.specs.Regions.{region_at}
use Rattle.ml_split.specs.RegionSplits.{is_thin}
use Rattle.ml_file.proofs.file.settle_all.first_thin.Given as goal

abbrev pub invariant-loop-i : goal.invariant-loop-i
invariant-loop-i g l = (k : ℕ) → k < l.i → is_thin (region_at l.regions.regions k) ≡ false
