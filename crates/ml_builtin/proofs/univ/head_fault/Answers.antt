-- The checks are made from the left.
use Rattle.std.proofs.Common.{sym, ◌∙◌}
use Rattle.ml_heap.specs.Changes.{stands_for}
use Rattle.ml_builtin.proofs.FaultChecks.{fault_is, no_fault}
use Rattle.ml_builtin.proofs.UnivChecks.{head_unbound, head_lone, head_no_atom, head_too_many, head_has_none, more, no_more_than}
use Rattle.ml_builtin.proofs.univ.head_fault.Goals as goal

pub returns-then-is_variable : goal.returns-then-is_variable
returns-then-is_variable c =
    fault_is _ _ _ (head_unbound (stands_for c.args.heap.now c.args.head) c.args.count (sym c.is_variable.ensures ∙ c.if-is_variable.true))
    c.in_ok-instantiation_error.ensures.same c.in_ok-instantiation_error.ensures.valid

pub returns-then-is_lone_compound : goal.returns-then-is_lone_compound
returns-then-is_lone_compound c =
    fault_is _ _ _
    (head_lone (stands_for c.args.heap.now c.args.head) c.args.count (sym c.is_variable.ensures ∙ c.if-is_variable.false)
    (sym c.is_lone_compound.ensures ∙ c.if-is_lone_compound.true))
    c.in_ok-type_error.ensures.same c.in_ok-type_error.ensures.valid

pub returns-then-names_by_none : goal.returns-then-names_by_none
returns-then-names_by_none c =
    fault_is _ _ _
    (head_no_atom (stands_for c.args.heap.now c.args.head) c.args.count (sym c.is_variable.ensures ∙ c.if-is_variable.false)
    (sym c.is_lone_compound.ensures ∙ c.if-is_lone_compound.false)
    (sym c.names_by_none.ensures ∙ c.if-names_by_none.true))
    c.in_ok-type_error-2.ensures.same c.in_ok-type_error-2.ensures.valid

pub returns-then-count-gt256 : goal.returns-then-count-gt256
returns-then-count-gt256 c =
    fault_is _ _ _ (head_too_many (stands_for c.args.heap.now c.args.head) c.args.count (sym c.is_variable.ensures ∙ c.if-is_variable.false)
    (sym c.is_lone_compound.ensures ∙ c.if-is_lone_compound.false)
    (sym c.names_by_none.ensures ∙ c.if-names_by_none.false) (more _ c.if-count-gt256.true))
    c.in_ok-arity_error.ensures.same c.in_ok-arity_error.ensures.valid

pub returns : goal.returns
returns c =
    no_fault _ (head_has_none (stands_for c.args.heap.now c.args.head) c.args.count (sym c.is_variable.ensures ∙ c.if-is_variable.false)
    (sym c.is_lone_compound.ensures ∙ c.if-is_lone_compound.false)
    (sym c.names_by_none.ensures ∙ c.if-names_by_none.false) (no_more_than _ c.if-count-gt256.false))
