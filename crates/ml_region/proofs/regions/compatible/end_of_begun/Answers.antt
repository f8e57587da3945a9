use Rattle.std.proofs.Common.{arith}
use Rattle.ml_region.specs.Listing.{prefixes_of}
use Rattle.ml_region.proofs.PrefixesBelow.{spanned}
use Rattle.ml_region.proofs.regions.compatible.end_of_begun.Goals as goal

pub returns : goal.returns
returns g c =
    spanned (prefixes_of (g.D.Directory.listing c.args.dir.now).entries) c.args.i c.halves.low c.halves.high c.requires.listing.rising
    (omega arith) c.halves.invariant
