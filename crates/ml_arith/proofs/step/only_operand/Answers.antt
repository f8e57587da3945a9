-- Minus evaluates its argument; another name is no expression.
use Rattle.std.proofs.Common.{sym, ◌∙◌}
use Rattle.ml_arith.proofs.Operands.{opposite_value, no_opposite}
use Rattle.ml_arith.proofs.step.only_operand.Goals as goal

pub returns-then-is_minus-clause-same : goal.returns-then-is_minus-clause-same
returns-then-is_minus-clause-same c =
    opposite_value _ _ _ c.requires.compound _ c.requires.arity (sym c.is_minus.ensures ∙ c.if-is_minus.true) c.arg.ensures.argument

pub returns-else-is_minus-clause-same : goal.returns-else-is_minus-clause-same
returns-else-is_minus-clause-same c = no_opposite c.args.heap.now _ _ c.requires.compound c.requires.arity (sym c.is_minus.ensures ∙ c.if-is_minus.false)
