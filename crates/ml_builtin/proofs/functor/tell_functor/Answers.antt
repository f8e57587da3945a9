-- The name's cell and the arity's are made, and then both are unified.
use Rattle.std.proofs.Common.{◌∙◌, ap, SFits, w64, rules, arith}
use Rattle.std.proofs.lemmas.Int.{to_z-of_z}
use Rattle.ml_term.specs.Tree.{integer}
use Rattle.ml_heap.proofs.HeapMarks.{marks_go_on}
use Rattle.ml_heap.proofs.StoredTerms.{grows_on, grows_one, one_inside, one_stands}
use Rattle.ml_builtin.proofs.UnifiedCells.{both_made_then_unified}
use Rattle.ml_builtin.proofs.functor.tell_functor.Goals as goal

pub unify_both-requires-clause-a_inside : goal.unify_both-requires-clause-a_inside
unify_both-requires-clause-a_inside c =
    let more = grows_one _ _ _ _ c.in_ok-arity.ensures.made in
    omega (arith, c.requires.n_inside, c.in_ok-name.ensures.made.grown.cells, more.cells)

pub unify_both-requires-clause-b_inside : goal.unify_both-requires-clause-b_inside
unify_both-requires-clause-b_inside c =
    let more = grows_one _ _ _ _ c.in_ok-arity.ensures.made in
    omega (arith, c.in_ok-name.ensures.made.inside, more.cells)

pub unify_both-requires-clause-c_inside : goal.unify_both-requires-clause-c_inside
unify_both-requires-clause-c_inside c =
    let more = grows_one _ _ _ _ c.in_ok-arity.ensures.made in
    omega (arith, c.requires.a_inside, c.in_ok-name.ensures.made.grown.cells, more.cells)

pub unify_both-requires-clause-d_inside : goal.unify_both-requires-clause-d_inside
unify_both-requires-clause-d_inside c = one_inside _ _ _ _ c.in_ok-arity.ensures.made

pub returns-clause-done : goal.returns-clause-done
returns-clause-done c =
    let fits : SFits w64 c.from.result = search rules in
    let more = grows_one _ _ _ _ c.in_ok-arity.ensures.made in
    let grown = grows_on _ _ _ c.in_ok-name.ensures.made.grown more in
    both_made_then_unified c.args.heap.now _ c.unify_both.new.heap c.args.n c.in_ok-name.name c.args.a c.in_ok-arity.arity _ _ _ _ _ grown
    c.requires.n_inside c.requires.a_inside
    (more.others c.in_ok-name.name c.in_ok-name.ensures.made.inside ∙ c.in_ok-name.ensures.made.stands)
    (one_stands _ _ _ _ c.in_ok-arity.ensures.made ∙ (ap integer (to_z-of_z w64 c.from.result fits) ∙ cc (c.from.ensures, c.arity_at-arity.ensures)))
    (c.in_ok-arity.ensures.counted ∙ c.in_ok-name.ensures.counted) c.in_ok-unify_both.ensures.done

pub returns-clause-marks : goal.returns-clause-marks
returns-clause-marks c =
    marks_go_on _ _ _ (marks_go_on _ _ _ c.in_ok-name.ensures.marks c.in_ok-arity.ensures.made.marks) c.in_ok-unify_both.ensures.marks

pub returns-in_err-unify_both-clause-marks : goal.returns-in_err-unify_both-clause-marks
returns-in_err-unify_both-clause-marks c =
    marks_go_on _ _ _ (marks_go_on _ _ _ c.in_ok-name.ensures.marks c.in_ok-arity.ensures.made.marks) c.in_err-unify_both.ensures.marks
