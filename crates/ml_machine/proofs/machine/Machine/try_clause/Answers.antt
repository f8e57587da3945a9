use Rattle.std.proofs.Common.{refl, arith}
use Rattle.std.proofs.lemmas.Result.{IfOk-weaker}
use Rattle.ml_program.specs.LoadedProgram.{program_of, procedures_of}
use Rattle.ml_machine.proofs.ClausesLeft.{entering_last, entering_first}
use Rattle.ml_machine.proofs.machine.Machine.try_clause.Goals as goal

pub enter_clause-requires : goal.enter_clause-requires
enter_clause-requires c =
    let h = c.requires in (
      h.0,
      h.1,
      entering_first (program_of c.args.program.now) (procedures_of c.args.program.now) c.args.self.now c.args.procedure c.args.clause c.args.saved
          c.args.next c.len-height.result
          (omega (arith, c.len-height.ensures)) _ (record { terms = refl; levels = refl; answers = refl; left = refl }) refl refl _ refl
          (λ w e. c.in_ok-push_choice.ensures.pushed (procedures_of c.args.program.now) w e) c.in_ok-push_choice.ensures.one_more
          c.clause_count.result c.clause_count.ensures c.if-clause_count-clause-gt1.true h.2,
    )

pub returns-then-clause_count-clause-gt1 : goal.returns-then-clause_count-clause-gt1
returns-then-clause_count-clause-gt1 c =
    IfOk-weaker c.enter_clause.result _ _
    (λ then entered written v e. entered written v
    (entering_first (program_of c.args.program.now) (procedures_of c.args.program.now) c.args.self.now c.args.procedure c.args.clause c.args.saved c.args.next
    c.len-height.result
    (omega (arith, c.len-height.ensures)) _ (record { terms = refl; levels = refl; answers = refl; left = refl }) refl refl _ refl
    (λ w x. c.in_ok-push_choice.ensures.pushed (procedures_of c.args.program.now) w x) c.in_ok-push_choice.ensures.one_more
    c.clause_count.result c.clause_count.ensures c.if-clause_count-clause-gt1.true e))
    c.enter_clause.ensures

pub enter_clause-requires-2 : goal.enter_clause-requires-2
enter_clause-requires-2 c =
    let h = c.requires in (
      h.0,
      h.1,
      entering_last (program_of c.args.program.now) (procedures_of c.args.program.now) c.args.self.now c.args.procedure c.args.clause c.args.saved c.args.next
          c.len-height.result
          (omega (arith, c.len-height.ensures)) c.clause_count.result c.clause_count.ensures c.if-clause_count-clause-gt1.false h.2,
    )

pub returns : goal.returns
returns c =
    IfOk-weaker c.enter_clause-2.result _ _
    (λ then entered written v e. entered written v
    (entering_last (program_of c.args.program.now) (procedures_of c.args.program.now) c.args.self.now c.args.procedure c.args.clause c.args.saved c.args.next
    c.len-height.result
    (omega (arith, c.len-height.ensures)) c.clause_count.result c.clause_count.ensures c.if-clause_count-clause-gt1.false e))
    c.enter_clause-2.ensures
