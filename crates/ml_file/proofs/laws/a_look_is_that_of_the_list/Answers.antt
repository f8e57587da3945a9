use Rattle.ml_file.proofs.ListSteps.{absent_list, held_list}
use Rattle.ml_file.proofs.laws.a_look_is_that_of_the_list.Goals as goal

pub returns : goal.returns
returns c = record { held = held_list c.args.kind; absent = absent_list c.args.kind }
