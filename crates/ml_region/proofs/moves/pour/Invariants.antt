use Rattle.std.proofs.Common.{length}
use Rattle.ml_region.specs.inside.Stored.{page_at}
use Rattle.ml_region.proofs.PouredItems.{Pouring}
use Rattle.ml_region.proofs.moves.pour.Given as goal

abbrev pub invariant-each : goal.invariant-each
invariant-each l = Pouring l.initial.pages l.from l.to l.pages

abbrev pub decreases-each : goal.decreases-each
decreases-each l = length (page_at l.pages l.from)
