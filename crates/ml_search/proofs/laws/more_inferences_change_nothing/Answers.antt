use Rattle.ml_search.proofs.MoreInferences.{more_inferences}
use Rattle.ml_search.proofs.laws.more_inferences_change_nothing.Goals as goal

pub returns : goal.returns
returns c = more_inferences
