use Rattle.ml_home.proofs.PrefixHomes.{only_behind, stays_behind, taken_above}
use Rattle.ml_home.proofs.laws.homes_after_a_prefix_goes.Goals as goal

pub returns : goal.returns
returns c = record { taken = taken_above; stays = stays_behind; only = only_behind }
