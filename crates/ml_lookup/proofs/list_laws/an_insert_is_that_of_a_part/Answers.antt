use Rattle.ml_lookup.proofs.PartLists.{part_beside, part_with}
use Rattle.ml_lookup.proofs.list_laws.an_insert_is_that_of_a_part.Goals as goal

pub returns-clause-inside : goal.returns-clause-inside
returns-clause-inside c = part_with c.args.kind

pub returns-clause-outside : goal.returns-clause-outside
returns-clause-outside c = part_beside c.args.kind
