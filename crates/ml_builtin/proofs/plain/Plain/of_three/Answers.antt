-- There is none of another name.
use Rattle.ml_builtin.proofs.Meanings.{no_ternary}
use Rattle.ml_builtin.proofs.plain.Plain.of_three.Goals as goal

pub returns-in-None : goal.returns-in-None
returns-in-None c = no_ternary c.args.name.now c.in-None.ensures
