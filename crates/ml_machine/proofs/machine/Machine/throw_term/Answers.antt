use Rattle.std.proofs.Common.{◌≡◌, sym, ap, ◌∙◌, subst, Some, None}
use Rattle.std.proofs.lemmas.Result.{IfOk-weaker}
use Rattle.ml_called.specs.Faults.{raised, raised_for}
use Rattle.ml_search.specs.Bodies.{ball_fault}
use Rattle.ml_stack.specs.Memories.{tree}
use Rattle.ml_term.specs.Seen.{seen}
use Rattle.ml_machine.specs.declared.machine.Machine.{Machine}
use Rattle.ml_machine.proofs.GoalsCaught.{ball_refused, after_throw}
use Rattle.ml_machine.proofs.machine.Machine.throw_term.Goals as goal

pub returns-in-Some : goal.returns-in-Some
returns-in-Some c =
    let t = tree c.args.self.now.memory c.args.ball in
    let found : raised_for t c.in_ok-fault.field-0 ≡ ball_fault t =
    subst (λ (s : Machine). raised_for (tree s.memory c.args.ball) c.in_ok-fault.field-0 ≡ ball_fault (tree s.memory c.args.ball)) c.self.view_is
    c.in_ok-fault.ensures.fault in
    let fault : ball_fault t ≡ Some (raised t c.in-Some.fault) = sym found ∙ ap (raised_for t) c.in-Some.is in
    IfOk-weaker c.raise_fault.result _ _
    (λ then raises p ps written v f. raises p ps written v (ball_refused p ps c.args.self.now c.args.ball c.args.next _ fault written v f))
    c.raise_fault.ensures

pub returns : goal.returns
returns c p ps =
    let t = tree c.args.self.now.memory c.args.ball in
    let found : raised_for t c.in_ok-fault.field-0 ≡ ball_fault t =
    subst (λ (s : Machine). raised_for (tree s.memory c.args.ball) c.in_ok-fault.field-0 ≡ ball_fault (tree s.memory c.args.ball)) c.self.view_is
    c.in_ok-fault.ensures.fault in
    let none : ball_fault t ≡ None = sym found ∙ ap (raised_for t) c.in_default.is in
    let taken : seen c.in-Ok.term ≡ t =
    subst (λ (s : Machine). seen c.in-Ok.term ≡ tree s.memory c.args.ball) c.self.view_is c.in-Ok.ensures.taken in
    after_throw p ps c.args.self.now c.args.ball c.args.next c.in-Ok.term none taken c.in-Ok.ensures.valid
