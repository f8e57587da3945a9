use Rattle.std.proofs.Common.{◌≡◌, refl, sym, ap, ◌∙◌, subst, Some, None}
use Rattle.std.proofs.lemmas.Result.{IfOk-weaker}
use Rattle.ml_called.specs.Faults.{raised, raised_for}
use Rattle.ml_search.specs.Bodies.{goal_fault, list_fault}
use Rattle.ml_stack.specs.Memories.{tree}
use Rattle.ml_machine.specs.declared.machine.Machine.{Machine}
use Rattle.ml_machine.specs.Controls.{finding}
use Rattle.ml_machine.proofs.GoalsGiven.{refused}
use Rattle.ml_machine.proofs.SearchesBegun.{list_refused, after_findall}
use Rattle.ml_machine.proofs.machine.Machine.call_findall.Goals as goal

pub returns-in-Some : goal.returns-in-Some
returns-in-Some c =
    let t = tree c.args.self.now.memory c.args.goal in
    let found : raised_for t c.in_ok-fault.field-0 ≡ goal_fault t =
    subst (λ (s : Machine). raised_for (tree s.memory c.args.goal) c.in_ok-fault.field-0 ≡ goal_fault (tree s.memory c.args.goal)) c.self.view_is
    c.in_ok-fault.ensures.fault in
    let fault : goal_fault t ≡ Some (raised t c.in-Some.fault) = sym found ∙ ap (raised_for t) c.in-Some.is in
    IfOk-weaker c.raise_fault.result _ _
    (λ then raises p ps written v f. raises p ps written v
    (refused p ps c.args.self.now (finding c.args.self.now.memory c.args.template c.args.list) c.args.goal c.args.next _ (λ t. refl) fault written v f))
    c.raise_fault.ensures

pub returns-in-Some-list_fault : goal.returns-in-Some-list_fault
returns-in-Some-list_fault c =
    let t = tree c.args.self.now.memory c.args.goal in
    let u = tree c.args.self.now.memory c.args.list in
    let found : raised_for t c.in_ok-fault.field-0 ≡ goal_fault t =
    subst (λ (s : Machine). raised_for (tree s.memory c.args.goal) c.in_ok-fault.field-0 ≡ goal_fault (tree s.memory c.args.goal)) c.self.view_is
    c.in_ok-fault.ensures.fault in
    let none : goal_fault t ≡ None = sym found ∙ ap (raised_for t) c.in_default.is in
    let seen : raised_for u c.list_fault.result ≡ list_fault u =
    subst (λ (s : Machine). raised_for (tree s.memory c.args.list) c.list_fault.result ≡ list_fault (tree s.memory c.args.list)) c.self.view_is
    c.list_fault.ensures in
    let fault : list_fault u ≡ Some (raised u c.in-Some-list_fault.fault) = sym seen ∙ ap (raised_for u) c.in-Some-list_fault.is in
    IfOk-weaker c.raise_fault-in-Some-list_fault.result _ _
    (λ then raises p ps written v f. raises p ps written v
    (list_refused p ps c.args.self.now c.args.template c.args.goal c.args.list c.args.next _ none fault written v f))
    c.raise_fault-in-Some-list_fault.ensures

pub returns : goal.returns
returns c p ps =
    let t = tree c.args.self.now.memory c.args.goal in
    let u = tree c.args.self.now.memory c.args.list in
    let found : raised_for t c.in_ok-fault.field-0 ≡ goal_fault t =
    subst (λ (s : Machine). raised_for (tree s.memory c.args.goal) c.in_ok-fault.field-0 ≡ goal_fault (tree s.memory c.args.goal)) c.self.view_is
    c.in_ok-fault.ensures.fault in
    let none : goal_fault t ≡ None = sym found ∙ ap (raised_for t) c.in_default.is in
    let seen : raised_for u c.list_fault.result ≡ list_fault u =
    subst (λ (s : Machine). raised_for (tree s.memory c.args.list) c.list_fault.result ≡ list_fault (tree s.memory c.args.list)) c.self.view_is
    c.list_fault.ensures in
    let list_is : list_fault u ≡ None = sym seen ∙ ap (raised_for u) c.in_default-list_fault.is in
    after_findall p ps c.args.self.now _ refl refl c.args.template c.args.goal c.args.list c.args.next c.in_ok-at.at none list_is c.requires.template
    c.requires.list
    (λ w o. c.in_ok-put_aside.ensures.stands ps w o) (λ os o written. c.in_ok-put_aside.ensures.keeps os o written)
    c.in_ok-at.ensures.grows c.in_ok-at.ensures.heap (λ w n gs. c.in_ok-at.ensures.runs ps w n gs)
