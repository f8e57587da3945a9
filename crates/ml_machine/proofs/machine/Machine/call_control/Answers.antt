use Rattle.std.proofs.Common.{◌-◌}
use Rattle.std.proofs.lemmas.Result.{IfOk-weaker}
use Rattle.ml_machine.proofs.InferencesUsed.{call_exhausted, call_controlled, one_used}
use Rattle.ml_machine.proofs.machine.Machine.call_control.Goals as goal

pub returns-then-self-eq0 : goal.returns-then-self-eq0
returns-then-self-eq0 c p ps f n e written v i =
    call_exhausted p ps c.args.self.now written f n c.args.next v c.args.construct e c.if-self-eq0.true i

pub run_construct-requires : goal.run_construct-requires
run_construct-requires c =
    let r = c.requires in (
      r.0,
      r.1,
      r.5.0,
      r.5.1,
      call_controlled r.0 r.1 c.args.self.now r.5.0 r.2 r.3 c.args.next (c.args.self.now.left - 1) r.5.1 c.args.construct r.4
          (one_used c.args.self.now.left c.if-self-eq0.false) r.5.2,
    )

pub returns : goal.returns
returns c =
    IfOk-weaker c.run_construct.result _ _
    (λ then runs p ps f n e written v i.
    runs p ps written v
    (call_controlled p ps c.args.self.now written f n c.args.next (c.args.self.now.left - 1) v c.args.construct e
    (one_used c.args.self.now.left c.if-self-eq0.false) i))
    c.run_construct.ensures
