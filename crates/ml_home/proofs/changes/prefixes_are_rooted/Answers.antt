use Rattle.ml_home.proofs.RegionPrefixes.{rooted}
use Rattle.ml_home.proofs.changes.prefixes_are_rooted.Goals as goal

pub returns : goal.returns
returns c = rooted
