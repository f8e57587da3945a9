use Rattle.std.proofs.Common.{subst}
use Rattle.std.proofs.lemmas.Result.{IfOk-weaker}
use Rattle.ml_store_goals.specs.declared.goal.StoreGoal.{StoreGoal}
use Rattle.ml_machine.specs.StoreCalls.{IsStoring}
use Rattle.ml_machine.proofs.ChangesAsked.{change_asked, retract_asked, store_raises}
use Rattle.ml_machine.proofs.machine.Machine.run_store_goal.Goals as goal

pub returns-in-Raise : goal.returns-in-Raise
returns-in-Raise c =
    let s = c.args.self.now in
    let next = c.args.next in
    IfOk-weaker c.raise.result _ _
    (λ then raises p ps written v f.
    (let r = store_raises p ps s next c.in-Raise.error written v (subst (λ (g : StoreGoal). IsStoring p ps s written g next v) c.in-Raise.is f) in
    raises p ps r.term r.same written v r.raising))
    c.raise.ensures

pub returns-in-Change : goal.returns-in-Change
returns-in-Change c p ps written v f =
    let s = c.args.self.now in
    let next = c.args.next in
    change_asked p ps s next c.in-Change.op c.in-Change.must_change written v
    (subst (λ (g : StoreGoal). IsStoring p ps s written g next v) c.in-Change.is f)

pub returns-in-Retract : goal.returns-in-Retract
returns-in-Retract c p ps written v f =
    let s = c.args.self.now in
    let next = c.args.next in
    retract_asked p ps s next c.in-Retract.list c.in-Retract.pattern c.in-Retract.head c.in-Retract.body written v
    (subst (λ (g : StoreGoal). IsStoring p ps s written g next v) c.in-Retract.is f)
