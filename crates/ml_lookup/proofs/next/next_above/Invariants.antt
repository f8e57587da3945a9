use Rattle.std.proofs.Common.{length}
use Rattle.ml_region.specs.Regions.{region_at}
use Rattle.ml_term.specs.Seen.{seen}
use Rattle.ml_lookup.proofs.Climbing.{IsClimbing}
use Rattle.ml_lookup.proofs.next.next_above.Given as goal

abbrev pub invariant-above : goal.invariant-above
invariant-above l = IsClimbing l.file.decl.kind (seen l.head) l.after l.file.regions l.i l.best

abbrev pub decreases-above : goal.decreases-above
decreases-above l = length (region_at l.file.regions l.i).prefix
