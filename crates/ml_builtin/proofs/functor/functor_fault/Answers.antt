-- The checks are made from the left.
use Rattle.std.proofs.Common.{sym, ◌∙◌}
use Rattle.ml_builtin.proofs.FaultChecks.{fault_is, no_fault}
use Rattle.ml_builtin.proofs.FunctorChecks.{functor_unbound, functor_no_integer, functor_compound, functor_negative, functor_too_many, functor_named_by_integer, functor_has_none}
use Rattle.ml_builtin.proofs.functor.functor_fault.Goals as goal

pub returns-then-is_either_variable : goal.returns-then-is_either_variable
returns-then-is_either_variable c =
    fault_is _ _ _ (functor_unbound _ _ (sym c.is_either_variable.ensures ∙ c.if-is_either_variable.true))
    c.in_ok-instantiation_error.ensures.same c.in_ok-instantiation_error.ensures.valid

pub returns-then-not-is_integer : goal.returns-then-not-is_integer
returns-then-not-is_integer c =
    fault_is _ _ _
    (functor_no_integer _ _ (sym c.is_either_variable.ensures ∙ c.if-is_either_variable.false) (sym c.is_integer.ensures ∙ c.if-not-is_integer.true))
    c.in_ok-type_error.ensures.same c.in_ok-type_error.ensures.valid

pub returns-then-is_compound : goal.returns-then-is_compound
returns-then-is_compound c =
    fault_is _ _ _
    (functor_compound _ _ (sym c.is_either_variable.ensures ∙ c.if-is_either_variable.false) (sym c.is_integer.ensures ∙ c.if-not-is_integer.false)
    (sym c.is_compound.ensures ∙ c.if-is_compound.true))
    c.in_ok-type_error-2.ensures.same c.in_ok-type_error-2.ensures.valid

pub returns-then-is_negative : goal.returns-then-is_negative
returns-then-is_negative c =
    fault_is _ _ _
    (functor_negative _ _ (sym c.is_either_variable.ensures ∙ c.if-is_either_variable.false) (sym c.is_integer.ensures ∙ c.if-not-is_integer.false)
    (sym c.is_compound.ensures ∙ c.if-is_compound.false) (sym c.is_negative.ensures ∙ c.if-is_negative.true))
    c.in_ok-domain_error.ensures.same c.in_ok-domain_error.ensures.valid

pub returns-then-is_over : goal.returns-then-is_over
returns-then-is_over c =
    fault_is _ _ _
    (functor_too_many _ _ (sym c.is_either_variable.ensures ∙ c.if-is_either_variable.false) (sym c.is_integer.ensures ∙ c.if-not-is_integer.false)
    (sym c.is_compound.ensures ∙ c.if-is_compound.false) (sym c.is_negative.ensures ∙ c.if-is_negative.false) (sym c.is_over.ensures ∙ c.if-is_over.true))
    c.in_ok-arity_error.ensures.same c.in_ok-arity_error.ensures.valid

pub returns-then-names_by_integer : goal.returns-then-names_by_integer
returns-then-names_by_integer c =
    fault_is _ _ _
    (functor_named_by_integer _ _ (sym c.is_either_variable.ensures ∙ c.if-is_either_variable.false) (sym c.is_integer.ensures ∙ c.if-not-is_integer.false)
    (sym c.is_compound.ensures ∙ c.if-is_compound.false) (sym c.is_negative.ensures ∙ c.if-is_negative.false) (sym c.is_over.ensures ∙ c.if-is_over.false)
    (sym c.names_by_integer.ensures ∙ c.if-names_by_integer.true))
    c.in_ok-type_error-3.ensures.same c.in_ok-type_error-3.ensures.valid

pub returns : goal.returns
returns c =
    no_fault _ (functor_has_none _ _ (sym c.is_either_variable.ensures ∙ c.if-is_either_variable.false)
    (sym c.is_integer.ensures ∙ c.if-not-is_integer.false)
    (sym c.is_compound.ensures ∙ c.if-is_compound.false)
    (sym c.is_negative.ensures ∙ c.if-is_negative.false)
    (sym c.is_over.ensures ∙ c.if-is_over.false)
    (sym c.names_by_integer.ensures ∙ c.if-names_by_integer.false))
