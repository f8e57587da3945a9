use Rattle.ml_isolation.proofs.OneOrder.{one_in_order, tuples_are_one}
use Rattle.ml_isolation.proofs.lists.lists_in_one_order_are_one.Goals as goal

pub returns-clause-terms : goal.returns-clause-terms
returns-clause-terms c cmp total = one_in_order cmp total

pub returns-clause-items : goal.returns-clause-items
returns-clause-items c cmp total = one_in_order cmp total

pub returns-clause-tuples : goal.returns-clause-tuples
returns-clause-tuples c = tuples_are_one
