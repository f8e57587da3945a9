-- There is none of another arity.
use Rattle.ml_builtin.proofs.Meanings.{no_other}
use Rattle.ml_builtin.proofs.plain.Plain.of.Goals as goal

pub returns : goal.returns
returns c = no_other c.args.name.now c.args.arity c.if-arity-eq1.false c.if-arity-eq2.false c.if-arity-eq3.false
