use Rattle.std.proofs.Common.{sym, ap, ◌∙◌}
use Rattle.std.proofs.lemmas.Result.{IfOk-weaker}
use Rattle.ml_search.specs.Errors.{existence_error, kept_small}
use Rattle.ml_program.specs.LoadedProgram.{program_of, procedures_of}
use Rattle.ml_machine.specs.declared.machine.Machine.{Machine}
use Rattle.ml_machine.proofs.FirstGoals.{stands_in}
use Rattle.ml_machine.proofs.UnknownCalled.{unknown_raises}
use Rattle.ml_machine.proofs.machine.Machine.call_unknown.Goals as goal

pub returns : goal.returns
returns c =
    let p = program_of c.args.program.now in
    let ps = procedures_of c.args.program.now in
    let codes = sym (ap (λ (s : Machine). s.memory.codes) c.self.view_is) ∙ sym c.as_slice.ensures.value in
    IfOk-weaker c.raise.result _ _
    (λ then raises g has is written v call.
    raises p ps (existence_error g.name g.arity) (ap kept_small (sym (c.in_ok-error.ensures.same g (stands_in ps has
    (c.code_of-instrs.ensures c.args.self.now.memory codes)))))
    written v (unknown_raises p ps c.args.self.now g.name g.arity c.args.next is written v call))
    c.raise.ensures
