use Rattle.ml_home.proofs.PrefixHomes.{new_above, only_above}
use Rattle.ml_home.proofs.laws.parents_after_a_new_prefix.Goals as goal

pub returns : goal.returns
returns c = record { new = new_above; only = only_above }
