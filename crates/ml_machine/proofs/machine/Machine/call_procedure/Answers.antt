use Rattle.std.proofs.Common.{refl, sym, ap, ◌∙◌, subst, arith}
use Rattle.std.proofs.lemmas.Result.{IfOk-weaker}
use Rattle.ml_program.specs.LoadedProgram.{program_of, procedures_of}
use Rattle.ml_machine.specs.Calls.{IsCall, IsSomeCall}
use Rattle.ml_machine.specs.declared.machine.Machine.{Machine}
use Rattle.ml_machine.proofs.ProceduresCalled.{some_procedure, exhausted, called_using, only_clause, first_clause}
use Rattle.ml_machine.proofs.machine.Machine.call_procedure.Goals as goal

pub returns-then-self-eq0 : goal.returns-then-self-eq0
returns-then-self-eq0 c f n is written v i =
    exhausted (program_of c.args.program.now) (procedures_of c.args.program.now) f n c.args.procedure c.args.next is c.args.self.now c.is_loaded.ensures
    (sym (ap (λ (s : Machine). s.left) c.self.view_is) ∙ c.if-self-eq0.true) written v i

pub clause_count-requires : goal.clause_count-requires
clause_count-requires c =
    let h = c.requires in
    some_procedure (program_of c.args.program.now) (procedures_of c.args.program.now) h.0 h.1 c.args.procedure c.args.next h.2 c.is_loaded.ensures h.3

pub enter_clause-requires : goal.enter_clause-requires
enter_clause-requires c =
    let p = program_of c.args.program.now in
    let ps = procedures_of c.args.program.now in
    let h = c.requires in
    let i = subst (λ (s : Machine). IsSomeCall p ps s h.0 h.1 c.args.next) (sym c.self.view_is) h.3 in (
      i.0,
      i.1,
      only_clause p ps h.0 h.1 c.args.procedure c.args.next h.2 _ c.len-height.result c.clause_count.result (omega
          (arith, c.len-height.ensures)) c.clause_count.ensures c.if-clause_count-eq1.true
          (called_using p ps h.0 h.1 c.args.procedure c.args.next h.2 c.is_loaded.ensures c.if-self-eq0.false i.0 i.1 i.2),
    )

pub returns-then-clause_count-eq1 : goal.returns-then-clause_count-eq1
returns-then-clause_count-eq1 c =
    let p = program_of c.args.program.now in
    let ps = procedures_of c.args.program.now in
    IfOk-weaker c.enter_clause.result _ _
    (λ then entered f n is written v i. entered written v
    (only_clause p ps f n c.args.procedure c.args.next is _ c.len-height.result c.clause_count.result (omega
    (arith, c.len-height.ensures)) c.clause_count.ensures c.if-clause_count-eq1.true
    (called_using p ps f n c.args.procedure c.args.next is c.is_loaded.ensures c.if-self-eq0.false written v
    (subst (λ (s : Machine). IsCall p ps s written f n c.args.next v) (sym c.self.view_is) i))))
    c.enter_clause.ensures

pub try_clause-requires : goal.try_clause-requires
try_clause-requires c =
    let p = program_of c.args.program.now in
    let ps = procedures_of c.args.program.now in
    let h = c.requires in
    let i = subst (λ (s : Machine). IsSomeCall p ps s h.0 h.1 c.args.next) (sym c.self.view_is) h.3 in (
      i.0,
      i.1,
      first_clause p ps h.0 h.1 c.args.procedure c.args.next h.2 _ _ c.in_ok-saved.saved
          (record { terms = refl; levels = refl; answers = refl; left = refl }) refl refl _ c.as_slice.ensures.value c.in_ok-saved.ensures.saved refl
          c.in_ok-saved.ensures.place
          (called_using p ps h.0 h.1 c.args.procedure c.args.next h.2 c.is_loaded.ensures c.if-self-eq0.false i.0 i.1 i.2),
    )

pub returns : goal.returns
returns c =
    let p = program_of c.args.program.now in
    let ps = procedures_of c.args.program.now in
    IfOk-weaker c.try_clause.result _ _
    (λ then tried f n is written v i. tried written v
    (first_clause p ps f n c.args.procedure c.args.next is _ _ c.in_ok-saved.saved
    (record { terms = refl; levels = refl; answers = refl; left = refl }) refl refl _ c.as_slice.ensures.value c.in_ok-saved.ensures.saved refl
    c.in_ok-saved.ensures.place
    (called_using p ps f n c.args.procedure c.args.next is c.is_loaded.ensures c.if-self-eq0.false written v
    (subst (λ (s : Machine). IsCall p ps s written f n c.args.next v) (sym c.self.view_is) i))))
    c.try_clause.ensures
