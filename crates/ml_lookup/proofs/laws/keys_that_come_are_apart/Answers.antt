use Rattle.ml_file.proofs.ComingItems.{apart_new}
use Rattle.ml_lookup.proofs.laws.keys_that_come_are_apart.Goals as goal

pub returns : goal.returns
returns c = apart_new
