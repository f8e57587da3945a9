-- There is none of another name.
use Rattle.ml_builtin.proofs.Meanings.{no_binary}
use Rattle.ml_builtin.proofs.plain.Plain.of_two.Goals as goal

pub returns-in-None : goal.returns-in-None
returns-in-None c = no_binary c.args.name.now c.in-None.ensures
