use Rattle.std.proofs.Common.{◌-◌, ◌+◌}
use Rattle.ml_split.proofs.KeyCounts.{total_bits}
use Rattle.ml_split.proofs.PartingKeys.{IsOnTheWay}
use Rattle.ml_split.proofs.place.split_place.Given as goal

abbrev pub invariant-on : goal.invariant-on
invariant-on g l = IsOnTheWay (g.K.Keys.keys l.keys) l.prefix.bits l.guide l.bits

abbrev pub decreases-on : goal.decreases-on
decreases-on g l = total_bits (g.K.Keys.keys l.keys) + 1 - l.bits
