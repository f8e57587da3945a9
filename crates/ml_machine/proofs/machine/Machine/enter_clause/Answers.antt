use Rattle.std.proofs.Common.{refl, sym, subst, arith}
use Rattle.ml_program.specs.LoadedProgram.{program_of, procedures_of}
use Rattle.ml_machine.specs.Clauses.{IsEnteringSome, IsEntering}
use Rattle.ml_machine.specs.declared.machine.Machine.{Machine}
use Rattle.ml_machine.proofs.ClausesEntered.{some_code, some_clause, cells_here, none_entered, body_entered}
use Rattle.ml_machine.proofs.machine.Machine.enter_clause.Goals as goal

pub code_of-instrs-requires : goal.code_of-instrs-requires
code_of-instrs-requires c =
    let p = program_of c.args.program.now in
    let ps = procedures_of c.args.program.now in
    let h = subst (λ (s : Machine). IsEnteringSome p ps s c.args.procedure c.args.clause c.args.height c.args.next) (sym c.self.view_is) c.requires in
    some_code p ps c.is_loaded.ensures c.args.program.now.program.well_formed _ c.args.procedure c.args.clause c.args.height c.args.next _
    (sym c.as_slice.ensures.value) h.2

pub enter-requires-clause-spelled : goal.enter-requires-clause-spelled
enter-requires-clause-spelled c =
    let p = program_of c.args.program.now in
    let ps = procedures_of c.args.program.now in
    let h = subst (λ (s : Machine). IsEnteringSome p ps s c.args.procedure c.args.clause c.args.height c.args.next) (sym c.self.view_is) c.requires in
    some_clause p ps c.is_loaded.ensures c.args.program.now.program.well_formed _ c.args.procedure c.args.clause c.args.height c.args.next _ _ _
    (sym c.as_slice.ensures.value) c.as_slice-2.ensures.value
    c.code_of-instrs.ensures h.2

pub enter-requires-clause-inside : goal.enter-requires-clause-inside
enter-requires-clause-inside c =
    let p = program_of c.args.program.now in
    let ps = procedures_of c.args.program.now in
    let h = subst (λ (s : Machine). IsEnteringSome p ps s c.args.procedure c.args.clause c.args.height c.args.next) (sym c.self.view_is) c.requires in
    cells_here p ps c.is_loaded.ensures c.args.program.now.program.well_formed _ c.args.procedure c.args.clause c.args.height c.args.next _
    c.as_slice-2.ensures.value h.2

pub returns-in_default : goal.returns-in_default
returns-in_default c written v e =
    let p = program_of c.args.program.now in
    let ps = procedures_of c.args.program.now in
    let h = subst (λ (s : Machine). IsEntering p ps s written c.args.procedure c.args.clause c.args.height c.args.next v) (sym c.self.view_is) e in
    none_entered p ps c.is_loaded.ensures c.args.program.now.program.well_formed _ c.args.procedure c.args.clause c.args.height c.args.next
    _ (record { terms = refl; levels = refl; answers = refl; left = refl }) refl c.enter.new.heap _ refl c.in_ok-entered.ensures.front
    c.in_ok-entered.ensures.marks
    _ c.code_of-instrs.result.now c.as_slice-2.result.now (sym c.as_slice.ensures.value) c.as_slice-2.ensures.value c.code_of-instrs.ensures
    _ c.in_default.is c.in_ok-entered.ensures.entered written v h

pub returns : goal.returns
returns c written v e =
    let p = program_of c.args.program.now in
    let ps = procedures_of c.args.program.now in
    let h = subst (λ (s : Machine). IsEntering p ps s written c.args.procedure c.args.clause c.args.height c.args.next v) (sym c.self.view_is) e in
    body_entered p ps c.is_loaded.ensures c.args.program.now.program.well_formed _ c.args.procedure c.args.clause c.args.height c.args.next
    _ (record { terms = refl; levels = refl; answers = refl; left = refl }) refl c.enter.new.heap _ refl c.in_ok-entered.ensures.front
    c.in_ok-entered.ensures.marks
    _ c.code_of-instrs.result.now c.as_slice-2.result.now (sym c.as_slice.ensures.value) c.as_slice-2.ensures.value c.code_of-instrs.ensures
    c.in-Some.place c.len-env.result (omega (arith, c.len-env.ensures)) _ c.in-Some.is c.in_ok-entered.ensures.entered written v h
