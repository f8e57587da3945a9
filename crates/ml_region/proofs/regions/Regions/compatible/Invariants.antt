use Rattle.std.proofs.Common.{◌≡◌, ◌≤◌, ◌-◌, map, take}
use Rattle.std.specs.List.{filter}
use Rattle.ml_bits.specs.BitList.{BitList}
use Rattle.ml_term.specs.Patterns.{may_hold}
use Rattle.ml_region.specs.Regions.{region_prefixes}
use Rattle.ml_region.proofs.regions.Regions.compatible.Given as goal

abbrev pub invariant-each : goal.invariant-each
invariant-each g l =
    (l.i ≤ l.len) × (map (λ (b : BitList). b.bits) l.found.items ≡ filter (may_hold l.p) (take l.i (region_prefixes l.self.regions)))

abbrev pub decreases-each : goal.decreases-each
decreases-each g l = l.len - l.i
