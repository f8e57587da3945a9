use Rattle.ml_home.proofs.PrefixHomes.{above_at, home_at, home_holds, home_of, one_home}
use Rattle.ml_home.proofs.laws.each_key_has_one_home.Goals as goal

pub returns : goal.returns
returns c = record { some = home_of; one = one_home; owner = home_at; parent = above_at; fits = home_holds }
