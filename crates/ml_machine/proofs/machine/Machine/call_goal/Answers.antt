use Rattle.std.proofs.Common.{refl}
use Rattle.std.proofs.lemmas.Result.{IfOk-weaker}
use Rattle.ml_program.specs.LoadedProgram.{program_of, procedures_of}
use Rattle.ml_machine.proofs.CallsBuilt.{is_call, call_stands}
use Rattle.ml_machine.proofs.machine.Machine.call_goal.Goals as goal

pub call_linked-requires : goal.call_linked-requires
call_linked-requires c =
    let p = program_of c.args.program.now in
    let ps = procedures_of c.args.program.now in
    let h = c.requires.stands in
    let b = c.in_ok-site.ensures h.0 h.1 h.2 in
    let call = is_call p ps c.args.self.now c.args.at c.requires.goal c.build_goal.new.self c.in_ok-site.site c.in_ok-next.next
    (record { terms = refl; levels = refl; answers = refl; left = refl }) refl refl c.in_ok-next.ensures.frames (c.in_ok-next.ensures.goes_on _) b in (
      b.pred,
      call_stands p ps c.args.self.now c.args.at c.requires.goal c.build_goal.new.self _ c.in_ok-site.site c.in_ok-next.ensures.frames b,
      b.link,
      (h.0, h.1, call),
    )

pub returns : goal.returns
returns c =
    let p = program_of c.args.program.now in
    let ps = procedures_of c.args.program.now in
    IfOk-weaker c.call_linked.result _ _
    (λ then called written v i.
    (let b = c.in_ok-site.ensures written v i in
    called b.pred
    (call_stands p ps c.args.self.now c.args.at c.requires.goal c.build_goal.new.self _ c.in_ok-site.site c.in_ok-next.ensures.frames b) b.link written v
    (is_call p ps c.args.self.now c.args.at c.requires.goal c.build_goal.new.self c.in_ok-site.site c.in_ok-next.next
    (record { terms = refl; levels = refl; answers = refl; left = refl }) refl refl c.in_ok-next.ensures.frames (c.in_ok-next.ensures.goes_on _) b)))
    c.call_linked.ensures
