use Rattle.ml_home.proofs.PrefixHomes.{only_at, stays_at, taken}
use Rattle.ml_home.proofs.laws.homes_after_a_new_prefix.Goals as goal

pub returns : goal.returns
returns c = record { taken = taken; stays = stays_at; only = only_at }
