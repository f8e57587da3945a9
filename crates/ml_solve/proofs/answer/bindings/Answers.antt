use Rattle.std.proofs.Common.{◌≡◌, ◌∙◌, arith, length}
use Rattle.ml_solve.proofs.BindingsPut.{answer_count, take_whole}
use Rattle.ml_solve.proofs.answer.bindings.Goals as goal

pub returns-clause-terms : goal.returns-clause-terms
returns-clause-terms c ts a =
    let many = answer_count c.args.machine.now ts a in
    let e : length c.loop-name.bindings.items ≡ length ts =
    omega (arith, c.if-len-asked_count.false, c.len.ensures, c.asked_count.ensures, c.loop-name.bindings.ok.0, many) in
    c.loop-name.invariant.terms ts a ∙ take_whole ts (length c.loop-name.bindings.items) e
