use Rattle.ml_file.specs.SettledUnless.{Answers}
use Rattle.ml_file.proofs.FreeSettling.{IsSettling}
use Rattle.ml_file.proofs.RegionSettling.{thins}
use Rattle.ml_file.proofs.file.settle_unless.settle_free.Given as goal

abbrev pub invariant-settling : goal.invariant-settling
invariant-settling g l = IsSettling (λ h. Answers g.F.Fn l.held h) l.fn.regions.regions l.fn.regions.room l.regions.regions l.regions.room

abbrev pub decreases-settling : goal.decreases-settling
decreases-settling g l = thins l.regions.regions
