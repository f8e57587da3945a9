use Rattle.ml_search.proofs.PrintedOrders.{print_shows_order, beginning_shows}
use Rattle.ml_search.proofs.laws.a_print_shows_its_order.Goals as goal

pub returns-clause-order : goal.returns-clause-order
returns-clause-order c = print_shows_order

pub returns-clause-beginning : goal.returns-clause-beginning
returns-clause-beginning c = beginning_shows
