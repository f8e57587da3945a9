use Rattle.ml_file.proofs.ItemOrders.{one_list}
use Rattle.ml_file.proofs.laws.items_have_one_list.Goals as goal

pub returns : goal.returns
returns c = one_list c.args.kind
