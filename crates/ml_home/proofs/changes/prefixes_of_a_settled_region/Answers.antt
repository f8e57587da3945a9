use Rattle.ml_home.proofs.RegionPrefixes.{settled_prefixes}
use Rattle.ml_home.proofs.changes.prefixes_of_a_settled_region.Goals as goal

pub returns : goal.returns
returns c = settled_prefixes
