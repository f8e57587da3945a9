use Rattle.ml_region.proofs.MovedItems.{Moving}
use Rattle.ml_region.proofs.moves.move_below.Given as goal

abbrev pub invariant-each : goal.invariant-each
invariant-each l = Moving l.initial.pages l.from l.to l.prefix.bits l.pages l.j l.left

abbrev pub decreases-each : goal.decreases-each
decreases-each l = l.left
