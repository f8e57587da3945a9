use Rattle.ml_lookup.proofs.PartLists.{part_without}
use Rattle.ml_lookup.proofs.list_laws.a_removal_is_that_of_a_part.Goals as goal

pub returns : goal.returns
returns c = part_without c.args.kind
