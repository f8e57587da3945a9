use Rattle.ml_file.proofs.ItemCounts.{as_many, settled_many}
use Rattle.ml_file.proofs.DifferingItems.{items_differ}
use Rattle.ml_file.proofs.laws.items_stand_once.Goals as goal

pub returns : goal.returns
returns c = record { once = items_differ; count = as_many c.args.kind; few = settled_many }
