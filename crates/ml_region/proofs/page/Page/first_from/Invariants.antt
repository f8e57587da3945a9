use Rattle.std.proofs.Common.{◌-◌}
use Rattle.ml_region.specs.Regions.{keys_of}
use Rattle.ml_region.proofs.PageSearch.{Narrowing}
use Rattle.ml_region.proofs.page.Page.first_from.Given as goal

abbrev pub invariant-halves : goal.invariant-halves
invariant-halves l = Narrowing (keys_of l.self-inside.items.items) l.key.bits l.low l.high

abbrev pub decreases-halves : goal.decreases-halves
decreases-halves l = l.high - l.low
