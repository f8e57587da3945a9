-- The checks are made from the left.
use Rattle.std.proofs.Common.{sym, ◌∙◌}
use Rattle.ml_builtin.proofs.FaultChecks.{fault_is, no_fault}
use Rattle.ml_builtin.proofs.ArgChecks.{arg_unbound, arg_no_integer, arg_no_compound, arg_negative, arg_has_none}
use Rattle.ml_builtin.proofs.arg.arg_fault.Goals as goal

pub returns-then-is_either_variable : goal.returns-then-is_either_variable
returns-then-is_either_variable c =
    fault_is _ _ _ (arg_unbound _ _ (sym c.is_either_variable.ensures ∙ c.if-is_either_variable.true))
    c.in_ok-instantiation_error.ensures.same c.in_ok-instantiation_error.ensures.valid

pub returns-then-not-is_integer : goal.returns-then-not-is_integer
returns-then-not-is_integer c =
    fault_is _ _ _ (arg_no_integer _ _ (sym c.is_either_variable.ensures ∙ c.if-is_either_variable.false) (sym c.is_integer.ensures ∙ c.if-not-is_integer.true))
    c.in_ok-type_error.ensures.same c.in_ok-type_error.ensures.valid

pub returns-then-not-is_compound : goal.returns-then-not-is_compound
returns-then-not-is_compound c =
    fault_is _ _ _
    (arg_no_compound _ _ (sym c.is_either_variable.ensures ∙ c.if-is_either_variable.false) (sym c.is_integer.ensures ∙ c.if-not-is_integer.false)
    (sym c.is_compound.ensures ∙ c.if-not-is_compound.true))
    c.in_ok-type_error-2.ensures.same c.in_ok-type_error-2.ensures.valid

pub returns-then-is_negative : goal.returns-then-is_negative
returns-then-is_negative c =
    fault_is _ _ _
    (arg_negative _ _ (sym c.is_either_variable.ensures ∙ c.if-is_either_variable.false) (sym c.is_integer.ensures ∙ c.if-not-is_integer.false)
    (sym c.is_compound.ensures ∙ c.if-not-is_compound.false) (sym c.is_negative.ensures ∙ c.if-is_negative.true))
    c.in_ok-domain_error.ensures.same c.in_ok-domain_error.ensures.valid

pub returns : goal.returns
returns c =
    no_fault _ (arg_has_none _ _ (sym c.is_either_variable.ensures ∙ c.if-is_either_variable.false)
    (sym c.is_integer.ensures ∙ c.if-not-is_integer.false)
    (sym c.is_compound.ensures ∙ c.if-not-is_compound.false)
    (sym c.is_negative.ensures ∙ c.if-is_negative.false))
