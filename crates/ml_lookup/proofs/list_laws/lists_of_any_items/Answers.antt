use Rattle.ml_file.proofs.ListSteps.{list_with, list_without}
use Rattle.ml_lookup.proofs.PartLists.{part_list}
use Rattle.ml_lookup.proofs.list_laws.lists_of_any_items.Goals as goal

pub returns-clause-comes : goal.returns-clause-comes
returns-clause-comes c before after list item = list_with c.args.kind before item after list

pub returns-clause-goes : goal.returns-clause-goes
returns-clause-goes c before after list item = list_without c.args.kind before item after list

pub returns-clause-part : goal.returns-clause-part
returns-clause-part c = part_list c.args.kind
