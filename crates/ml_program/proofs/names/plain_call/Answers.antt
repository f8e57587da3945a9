use Rattle.ml_builtin.proofs.PlainsFound.{plain_told}
use Rattle.ml_program.proofs.names.plain_call.Goals as goal

pub returns : goal.returns
returns c = plain_told c.args.pred.now.name c.args.pred.now.arity c.of.result c.of.ensures
