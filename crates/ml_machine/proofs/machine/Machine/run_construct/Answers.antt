use Rattle.std.proofs.lemmas.Result.{IfOk-weaker}
use Rattle.ml_search.specs.Bodies.{call, once, not_provable, throw}
use Rattle.ml_machine.proofs.ArgumentsGiven.{call_takes, once_takes, not_provable_takes, throw_takes, one_given, catch_given, findall_given, findall_inside}
use Rattle.ml_machine.proofs.machine.Machine.run_construct.Goals as goal

pub returns-in-Call : goal.returns-in-Call
returns-in-Call c =
    IfOk-weaker c.call_term.result _ _
    (λ then gives p ps written v k.
    gives p ps written v
    (one_given p ps c.args.self.now c.args.construct c.args.next call c.argument-goal.result
    (λ ts x. call_takes c.args.construct ts x c.in-Call.is) c.argument-goal.ensures
    written v k))
    c.call_term.ensures

pub returns-in-Once : goal.returns-in-Once
returns-in-Once c =
    IfOk-weaker c.call_once.result _ _
    (λ then gives p ps written v k.
    gives p ps written v
    (one_given p ps c.args.self.now c.args.construct c.args.next once c.argument-goal.result
    (λ ts x. once_takes c.args.construct ts x c.in-Once.is) c.argument-goal.ensures
    written v k))
    c.call_once.ensures

pub returns-in-NotProvable : goal.returns-in-NotProvable
returns-in-NotProvable c =
    IfOk-weaker c.call_not_provable.result _ _
    (λ then gives p ps written v k.
    gives p ps written v
    (one_given p ps c.args.self.now c.args.construct c.args.next not_provable c.argument-goal.result
    (λ ts x. not_provable_takes c.args.construct ts x c.in-NotProvable.is) c.argument-goal.ensures
    written v k))
    c.call_not_provable.ensures

pub returns-in-Throw : goal.returns-in-Throw
returns-in-Throw c =
    IfOk-weaker c.throw_term.result _ _
    (λ then gives p ps written v k.
    gives p ps written v
    (one_given p ps c.args.self.now c.args.construct c.args.next throw c.argument-goal.result
    (λ ts x. throw_takes c.args.construct ts x c.in-Throw.is) c.argument-goal.ensures
    written v k))
    c.throw_term.ensures

pub returns-in-Catch : goal.returns-in-Catch
returns-in-Catch c =
    IfOk-weaker c.call_catch.result _ _
    (λ then gives p ps written v k.
    gives p ps written v
    (catch_given p ps c.args.self.now c.args.construct c.args.next c.argument-goal.result c.argument-catcher.result c.argument-recovery.result
    (record { goal_at = c.argument-goal.ensures; catcher_at = c.argument-catcher.ensures; recovery_at = c.argument-recovery.ensures }) c.in-Catch.is written v
    k))
    c.call_catch.ensures

pub call_findall-requires-clause-template : goal.call_findall-requires-clause-template
call_findall-requires-clause-template c =
    (findall_inside c.requires.0 c.requires.1 c.args.self.now c.args.construct c.args.next c.argument-template.result c.argument-wanted.result
    c.argument-list.result
    (record { template_at = c.argument-template.ensures; goal_at = c.argument-wanted.ensures; list_at = c.argument-list.ensures }) c.in-Findall.is
    c.requires.4).0

pub call_findall-requires-clause-goal : goal.call_findall-requires-clause-goal
call_findall-requires-clause-goal c =
    (findall_inside c.requires.0 c.requires.1 c.args.self.now c.args.construct c.args.next c.argument-template.result c.argument-wanted.result
    c.argument-list.result
    (record { template_at = c.argument-template.ensures; goal_at = c.argument-wanted.ensures; list_at = c.argument-list.ensures }) c.in-Findall.is
    c.requires.4).1

pub call_findall-requires-clause-list : goal.call_findall-requires-clause-list
call_findall-requires-clause-list c =
    (findall_inside c.requires.0 c.requires.1 c.args.self.now c.args.construct c.args.next c.argument-template.result c.argument-wanted.result
    c.argument-list.result
    (record { template_at = c.argument-template.ensures; goal_at = c.argument-wanted.ensures; list_at = c.argument-list.ensures }) c.in-Findall.is
    c.requires.4).2

pub returns-in-Findall : goal.returns-in-Findall
returns-in-Findall c =
    IfOk-weaker c.call_findall.result _ _
    (λ then gives p ps written v k.
    gives p ps written v
    (findall_given p ps c.args.self.now c.args.construct c.args.next c.argument-template.result c.argument-wanted.result c.argument-list.result
    (record { template_at = c.argument-template.ensures; goal_at = c.argument-wanted.ensures; list_at = c.argument-list.ensures }) c.in-Findall.is written v k))
    c.call_findall.ensures
