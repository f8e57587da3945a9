use Rattle.std.proofs.Common.{◌≡◌, ℕ, ◌<◌}
use Rattle.ml_region.specs.Prefixes.{bits_at}
use Rattle.ml_region.specs.Regions.{keys_of}
use Rattle.ml_lookup.proofs.homes.with_key.Given as goal

abbrev pub invariant-loop-item : goal.invariant-loop-item
invariant-loop-item l = (k : ℕ) → k < l.item-index → bits_at (keys_of l.items) k ≡ l.key.bits → ⊥
