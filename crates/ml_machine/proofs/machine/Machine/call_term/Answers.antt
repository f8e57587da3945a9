use Rattle.std.proofs.Common.{◌≡◌, refl, sym, ap, ◌∙◌, subst, arith, length, Some, None}
use Rattle.std.proofs.lemmas.Result.{IfOk-weaker}
use Rattle.ml_called.specs.Faults.{raised, raised_for}
use Rattle.ml_search.specs.Bodies.{goal_fault, call}
use Rattle.ml_stack.specs.Memories.{tree}
use Rattle.ml_machine.specs.declared.machine.Machine.{Machine}
use Rattle.ml_machine.proofs.GoalsGiven.{refused, after_call}
use Rattle.ml_machine.proofs.machine.Machine.call_term.Goals as goal

pub returns-in-Some : goal.returns-in-Some
returns-in-Some c =
    let t = tree c.args.self.now.memory c.args.goal in
    let found : raised_for t c.in_ok-fault.field-0 ≡ goal_fault t =
    subst (λ (s : Machine). raised_for (tree s.memory c.args.goal) c.in_ok-fault.field-0 ≡ goal_fault (tree s.memory c.args.goal)) c.self.view_is
    c.in_ok-fault.ensures.fault in
    let fault : goal_fault t ≡ Some (raised t c.in-Some.fault) = sym found ∙ ap (raised_for t) c.in-Some.is in
    IfOk-weaker c.raise_fault.result _ _
    (λ then raises p ps written v f. raises p ps written v (refused p ps c.args.self.now call c.args.goal c.args.next _ (λ t. refl) fault written v f))
    c.raise_fault.ensures

pub returns : goal.returns
returns c p ps =
    let t = tree c.args.self.now.memory c.args.goal in
    let height : c.len-height.result ≡ length c.args.self.now.stacks.choices.items = omega (arith, c.len-height.ensures, c.args.self.now.stacks.choices.ok.0) in
    let found : raised_for t c.in_ok-fault.field-0 ≡ goal_fault t =
    subst (λ (s : Machine). raised_for (tree s.memory c.args.goal) c.in_ok-fault.field-0 ≡ goal_fault (tree s.memory c.args.goal)) c.self.view_is
    c.in_ok-fault.ensures.fault in
    let none : goal_fault t ≡ None = sym found ∙ ap (raised_for t) c.in_default.is in
    after_call p ps c.args.self.now _ (record { terms = refl; levels = refl; answers = refl; left = refl }) refl c.args.goal c.args.next c.len-height.result
    c.in_ok-at.at height
    none c.in_ok-at.ensures.grows c.in_ok-at.ensures.heap (λ w n gs. c.in_ok-at.ensures.runs ps w n gs)
