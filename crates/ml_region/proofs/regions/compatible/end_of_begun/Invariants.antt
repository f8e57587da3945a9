use Rattle.std.proofs.Common.{◌-◌}
use Rattle.ml_region.specs.Listing.{prefixes_of}
use Rattle.ml_region.proofs.PrefixesBelow.{Spanning}
use Rattle.ml_region.proofs.regions.compatible.end_of_begun.Given as goal

abbrev pub invariant-halves : goal.invariant-halves
invariant-halves g l = Spanning (prefixes_of (g.D.Directory.listing l.dir).entries) l.i l.low l.high

abbrev pub decreases-halves : goal.decreases-halves
decreases-halves g l = l.high - l.low
