use Rattle.std.proofs.Common.{◌≢◌, ℕ, ◌<◌}
use Rattle.ml_region.specs.Regions.{region_at}
use Rattle.ml_region_rows.proofs.region_rows.is_new.Given as goal

abbrev pub invariant-loop-m : goal.invariant-loop-m
invariant-loop-m l = (m : ℕ) → m < l.m → (region_at l.regions.regions m).prefix ≢ l.prefix.bits
