use Rattle.ml_file.proofs.RegionSettling.{thins}
use Rattle.ml_file.proofs.SettleSteps.{IsSettling}
use Rattle.ml_file.proofs.file.settle_all.settle_regions.Given as goal

abbrev pub invariant-settling : goal.invariant-settling
invariant-settling g l = IsSettling l.fn.regions.regions l.fn.regions.room l.regions.regions l.regions.room l.from

abbrev pub decreases-settling : goal.decreases-settling
decreases-settling g l = thins l.regions.regions
