-- The checks are made from the left; those of the first element are made where there is one.
use Rattle.std.proofs.Common.{◌≡◌, ◌<◌, sym, ap, ◌∙◌, subst, length, get_or, arith}
use Rattle.std.proofs.lemmas.List.{get_or_read}
use Rattle.ml_heap.specs.Changes.{stands_for}
use Rattle.ml_search.specs.Builtins.{first_element}
use Rattle.ml_search.specs.ListTerms.{elements, is_nil}
use Rattle.ml_search.specs.TypeTests.{is_variable}
use Rattle.ml_builtin.specs.inside.Faults.{IsFault, head_fault}
use Rattle.ml_builtin.proofs.FaultChecks.{fault_is}
use Rattle.ml_builtin.proofs.UnivChecks.{univ_unbound, univ_no_list, univ_nil, head_checks}
use Rattle.ml_builtin.proofs.Meanings.{cell_read}
use Rattle.ml_builtin.proofs.ListElements.{empty_is_nil, as_many}
use Rattle.ml_builtin.proofs.univ.univ_fault.Goals as goal

pub returns-then-is_variable : goal.returns-then-is_variable
returns-then-is_variable c =
    let l = stands_for c.args.heap.now c.args.l in
    fault_is _ _ _
    (univ_unbound l (first_element (elements l)) (length (elements l))
    (ap is_variable (sym c.requires.end) ∙ (sym c.is_variable.ensures ∙ c.if-is_variable.true)))
    c.in_ok-instantiation_error.ensures.same c.in_ok-instantiation_error.ensures.valid

pub returns-then-not-is_nil : goal.returns-then-not-is_nil
returns-then-not-is_nil c =
    let l = stands_for c.args.heap.now c.args.l in
    fault_is _ _ _
    (univ_no_list l (first_element (elements l)) (length (elements l))
    (ap is_variable (sym c.requires.end) ∙ (sym c.is_variable.ensures ∙ c.if-is_variable.false))
    (ap is_nil (sym c.requires.end) ∙ (sym c.is_nil.ensures ∙ c.if-not-is_nil.true)))
    c.in_ok-type_error.ensures.same c.in_ok-type_error.ensures.valid

pub returns-then-len-eq0 : goal.returns-then-len-eq0
returns-then-len-eq0 c =
    let l = stands_for c.args.heap.now c.args.l in
    let proper = ap is_nil (sym c.requires.end) ∙ (sym c.is_nil.ensures ∙ c.if-not-is_nil.false) in
    fault_is _ _ _
    (univ_nil l (first_element (elements l)) (length (elements l))
    (ap is_variable (sym c.requires.end) ∙ (sym c.is_variable.ensures ∙ c.if-is_variable.false)) proper
    (empty_is_nil l proper (omega (arith, c.if-len-eq0.true, c.len.ensures, as_many c.args.heap.now l c.args.found.now.cells.items c.requires.cells))))
    c.in_ok-domain_error.ensures.same c.in_ok-domain_error.ensures.valid

pub head_fault-requires : goal.head_fault-requires
head_fault-requires c =
    cell_read _ _ 0 _ c.requires.cells_inside (omega (arith, c.if-len-eq0.false, c.len.ensures, c.args.found.now.cells.ok.0)) c.index.ensures

pub returns : goal.returns
returns c =
    let l = stands_for c.args.heap.now c.args.l in
    let cells = c.args.found.now.cells.items in
    let some : 0 < length cells = omega (arith, c.if-len-eq0.false, c.len.ensures, c.args.found.now.cells.ok.0) in
    let count : c.len-2.result ≡ length cells = omega (arith, c.len-2.ensures, c.args.found.now.cells.ok.0) in
    let first : c.index.result.now ≡ get_or cells 0 0 = get_or_read cells 0 c.index.result.now some c.index.ensures 0 in
    head_checks c.args.heap.now l cells c.len-2.result c.in_ok-head_fault.field-0 c.requires.cells some
    (ap is_variable (sym c.requires.end) ∙ (sym c.is_variable.ensures ∙ c.if-is_variable.false))
    (ap is_nil (sym c.requires.end) ∙ (sym c.is_nil.ensures ∙ c.if-not-is_nil.false)) count
    (subst (λ q. IsFault (head_fault (stands_for c.args.heap.now q) c.len-2.result) c.in_ok-head_fault.field-0) first c.in_ok-head_fault.ensures)
