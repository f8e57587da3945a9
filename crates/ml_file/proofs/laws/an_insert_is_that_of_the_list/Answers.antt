use Rattle.ml_file.proofs.ListSteps.{added_list, unadded_list}
use Rattle.ml_file.proofs.laws.an_insert_is_that_of_the_list.Goals as goal

pub returns : goal.returns
returns c = record { after = added_list c.args.kind; before = unadded_list c.args.kind }
