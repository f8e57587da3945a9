use Rattle.std.proofs.Common.{sym, ◌∙◌}
use Rattle.std.proofs.lemmas.Result.{IfOk-weaker}
use Rattle.ml_program.specs.LoadedProgram.{procedures_of, program_of}
use Rattle.ml_machine.proofs.machine.Machine.call_linked.Goals as goal

pub call_procedure-requires : goal.call_procedure-requires
call_procedure-requires c = let h = c.requires in (h.0.name, h.0.arity, sym h.2 ∙ c.in-Procedure.is, h.3)

pub returns-in-Procedure : goal.returns-in-Procedure
returns-in-Procedure c =
    IfOk-weaker c.call_procedure.result _ _ (λ then called g stands is. called g.name g.arity (sym is ∙ c.in-Procedure.is)) c.call_procedure.ensures

pub call_control-requires : goal.call_control-requires
call_control-requires c =
    let h = c.requires in (program_of c.args.program.now, procedures_of c.args.program.now, h.0.name, h.0.arity, sym h.2 ∙ c.in-Control.is, h.3)

pub returns-in-Control : goal.returns-in-Control
returns-in-Control c =
    IfOk-weaker c.call_control.result _ _
    (λ then called g stands is. called (program_of c.args.program.now) (procedures_of c.args.program.now) g.name g.arity (sym is ∙ c.in-Control.is))
    c.call_control.ensures

pub call_plain-requires : goal.call_plain-requires
call_plain-requires c =
    let h = c.requires in (program_of c.args.program.now, procedures_of c.args.program.now, h.0.name, h.0.arity, sym h.2 ∙ c.in-Plain.is, h.3)

pub returns-in-Plain : goal.returns-in-Plain
returns-in-Plain c =
    IfOk-weaker c.call_plain.result _ _
    (λ then called g stands is. called (program_of c.args.program.now) (procedures_of c.args.program.now) g.name g.arity (sym is ∙ c.in-Plain.is))
    c.call_plain.ensures

pub call_store-requires : goal.call_store-requires
call_store-requires c = let h = c.requires in (h.0.name, h.0.arity, sym h.2 ∙ c.in-Store.is, h.3)

pub returns-in-Store : goal.returns-in-Store
returns-in-Store c =
    IfOk-weaker c.call_store.result _ _ (λ then called g stands is. called g.name g.arity (sym is ∙ c.in-Store.is)) c.call_store.ensures

pub call_declared-requires : goal.call_declared-requires
call_declared-requires c = let h = c.requires in (h.0, h.1, sym h.2 ∙ c.in-Declared.is, h.3)

pub returns-in-Declared : goal.returns-in-Declared
returns-in-Declared c =
    IfOk-weaker c.call_declared.result _ _ (λ then called g stands is. called g stands (sym is ∙ c.in-Declared.is)) c.call_declared.ensures

pub call_unknown-requires : goal.call_unknown-requires
call_unknown-requires c = let h = c.requires in (h.0, h.1)

pub returns-in-Unknown : goal.returns-in-Unknown
returns-in-Unknown c =
    IfOk-weaker c.call_unknown.result _ _ (λ then called g stands is. called g stands (sym is ∙ c.in-Unknown.is)) c.call_unknown.ensures
