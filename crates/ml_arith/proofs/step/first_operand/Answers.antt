-- Compounds of one and of two arguments alone are expressions.
use Rattle.ml_arith.proofs.Operands.{no_expression}
use Rattle.ml_arith.proofs.step.first_operand.Goals as goal

pub returns-clause-same : goal.returns-clause-same
returns-clause-same c = no_expression c.args.heap.now _ _ c.requires.compound _ c.requires.arity c.if-arity-eq1.false c.if-arity-eq2.false
