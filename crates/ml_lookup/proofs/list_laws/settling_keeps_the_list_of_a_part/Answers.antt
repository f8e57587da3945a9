use Rattle.ml_lookup.proofs.PartLists.{part_settled}
use Rattle.ml_lookup.proofs.list_laws.settling_keeps_the_list_of_a_part.Goals as goal

pub returns : goal.returns
returns c = part_settled c.args.kind
