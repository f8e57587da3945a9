use Rattle.ml_key.proofs.BitBeginnings.{same_beginnings}
use Rattle.ml_key.proofs.key_laws.beginnings_are_the_same.Goals as goal

pub returns : goal.returns
returns c = same_beginnings
