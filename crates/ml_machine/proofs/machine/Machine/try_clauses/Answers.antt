use Rattle.std.proofs.Common.{length, refl, sym, ap, ◌∙◌, subst}
use Rattle.std.specs.Prelude.{take, drop}
use Rattle.std.proofs.lemmas.Result.{IfOk-weaker}
use Rattle.ml_program.specs.LoadedProgram.{program_of, procedures_of}
use Rattle.ml_stack.specs.declared.choice.Left.TheVariants.{Clauses}
use Rattle.ml_machine.specs.Taken.{HasTaken, HasTakenSome}
use Rattle.ml_machine.specs.declared.machine.Machine.{Machine}
use Rattle.ml_machine.proofs.ClausesLeft.{left_procedure, saved_many, none_to_try, some_to_try}
use Rattle.ml_machine.proofs.machine.Machine.try_clauses.Goals as goal

pub clause_count-requires : goal.clause_count-requires
clause_count-requires c =
    left_procedure (program_of c.args.program.now) (procedures_of c.args.program.now) c.args.self.now c.args.procedure c.args.clause c.args.saved c.args.next
    c.requires

pub returns-then-clause-clause_count : goal.returns-then-clause-clause_count
returns-then-clause-clause_count c written m h =
    none_to_try (program_of c.args.program.now) (procedures_of c.args.program.now) c.args.self.now c.args.procedure c.args.clause c.args.saved c.args.next
    c.clause_count.result c.clause_count.ensures c.if-clause-clause_count.true written m h

pub predicate-requires : goal.predicate-requires
predicate-requires c =
    left_procedure (program_of c.args.program.now) (procedures_of c.args.program.now) c.args.self.now c.args.procedure c.args.clause c.args.saved c.args.next
    c.requires

pub load_cells-requires : goal.load_cells-requires
load_cells-requires c =
    let ps = procedures_of c.args.program.now in
    let h = subst (λ (s : Machine). HasTakenSome ps s (Clauses c.args.procedure c.args.clause c.args.saved c.args.next)) (sym c.self.view_is) c.requires in
    ap (λ xs. length (take c.predicate.result.now.arity (drop c.args.saved xs))) c.as_slice.ensures.value
    ∙ saved_many (program_of c.args.program.now) ps _ c.args.procedure c.args.clause c.args.saved c.args.next c.predicate.result.now.arity
    c.predicate.ensures.arity h

pub try_clause-requires : goal.try_clause-requires
try_clause-requires c =
    let ps = procedures_of c.args.program.now in
    let h = subst (λ (s : Machine). HasTakenSome ps s (Clauses c.args.procedure c.args.clause c.args.saved c.args.next)) (sym c.self.view_is) c.requires in (
      h.0,
      _,
      some_to_try (program_of c.args.program.now) ps _ c.args.procedure c.args.clause c.args.saved c.args.next _ c.predicate.result.now.arity
          c.predicate.ensures.arity
          (c.in_ok-load_cells.ensures ∙ ap (λ xs. take c.predicate.result.now.arity (drop c.args.saved xs)) c.as_slice.ensures.value) refl
          (record { terms = refl; levels = refl; answers = refl; left = refl }) refl c.clause_count.result c.clause_count.ensures
          c.if-clause-clause_count.false h.0 h.1 h.2,
    )

pub returns : goal.returns
returns c =
    let ps = procedures_of c.args.program.now in
    IfOk-weaker c.try_clause.result _ _
    (λ then tried written m h. tried written _
    (some_to_try (program_of c.args.program.now) ps _ c.args.procedure c.args.clause c.args.saved c.args.next _ c.predicate.result.now.arity
    c.predicate.ensures.arity
    (c.in_ok-load_cells.ensures ∙ ap (λ xs. take c.predicate.result.now.arity (drop c.args.saved xs)) c.as_slice.ensures.value) refl
    (record { terms = refl; levels = refl; answers = refl; left = refl }) refl c.clause_count.result c.clause_count.ensures c.if-clause-clause_count.false
    written m
    (subst (λ (s : Machine). HasTaken ps s written (Clauses c.args.procedure c.args.clause c.args.saved c.args.next) m) (sym c.self.view_is) h)))
    c.try_clause.ensures
