-- An operator evaluates its left argument first; another name is no expression.
use Rattle.ml_arith.proofs.Operands.{operation_value, no_operation}
use Rattle.ml_arith.proofs.step.left_operand.Goals as goal

pub returns-in-Some-clause-same : goal.returns-in-Some-clause-same
returns-in-Some-clause-same c =
    operation_value _ _ _ c.requires.compound _ _ _ c.requires.arity c.in-Some.ensures c.arg-in-Some.ensures.argument c.arg.ensures.argument

pub returns-in-None-clause-same : goal.returns-in-None-clause-same
returns-in-None-clause-same c = no_operation c.args.heap.now _ _ c.requires.compound c.requires.arity c.in-None.ensures
