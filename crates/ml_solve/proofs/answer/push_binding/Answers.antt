use Rattle.std.proofs.Common.{◌≡◌, Some, arith, length, subst}
use Rattle.std.specs.List.{slice_get}
use Rattle.ml_term.specs.Seen.{seen}
use Rattle.ml_solve.proofs.BindingsPut.{taken_more}
use Rattle.ml_solve.proofs.answer.push_binding.Goals as goal

pub returns-in-Ok-clause-terms : goal.returns-in-Ok-clause-terms
returns-in-Ok-clause-terms c ts a h =
    let n : c.len-number.result ≡ length c.args.bindings.now.items = omega (arith, c.len-number.ensures, c.args.bindings.now.ok.0) in
    taken_more _ _ _ _ c.in-Ok.ensures.items ts
    (subst (λ k. slice_get ts k ≡ Some (seen c.in_ok-term.term)) n (c.in_ok-term.ensures.taken ts a)) h
