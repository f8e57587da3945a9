use Rattle.std.proofs.Common.{◌≡◌, refl, arith, length}
use Rattle.ml_machine.proofs.BodiesCalled.{grows_from, runs_from}
use Rattle.ml_machine.proofs.called.call_body.Goals as goal

pub returns-clause-grows : goal.returns-clause-grows
returns-clause-grows c =
    grows_from _ _ c.args.goal c.in_ok-code.code refl refl refl c.in_ok-push.ensures.items c.in_ok-code.ensures.called _ c.memory.view_is

pub returns-clause-runs : goal.returns-clause-runs
returns-clause-runs c ps w n gs l r =
    let place : c.in-Ok.place ≡ length c.memory.inside.codes.items = omega (arith, c.in-Ok.ensures, c.len.ensures, c.memory.inside.codes.ok.0) in
    let env : c.len-env.result ≡ length c.memory.inside.slots.items = omega (arith, c.len-env.ensures, c.memory.inside.slots.ok.0) in
    runs_from _ _ c.args.goal c.in_ok-code.code refl refl refl c.in_ok-push.ensures.items c.in_ok-code.ensures.called _ ps c.in-Ok.place c.len-env.result
    c.args.height c.args.next c.memory.view_is place env w n gs l r
