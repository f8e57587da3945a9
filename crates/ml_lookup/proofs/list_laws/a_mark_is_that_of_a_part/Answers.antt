use Rattle.ml_lookup.proofs.PartLists.{part_marked, part_unmarked}
use Rattle.ml_lookup.proofs.list_laws.a_mark_is_that_of_a_part.Goals as goal

pub returns-clause-inside : goal.returns-clause-inside
returns-clause-inside c = part_marked c.args.kind

pub returns-clause-outside : goal.returns-clause-outside
returns-clause-outside c = part_unmarked c.args.kind
