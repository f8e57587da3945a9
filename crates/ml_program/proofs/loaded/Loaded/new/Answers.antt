use Rattle.std.proofs.Common.{map, sym, subst}
use Rattle.ml_search.specs.ClauseSeen.{clauses_seen}
use Rattle.ml_search.specs.ProgramSeen.{program_seen}
use Rattle.ml_program.specs.LoadedProgram.{compiled_in}
use Rattle.ml_program.specs.inside.Filing.{procedures_seen, AreFiled}
use Rattle.ml_program.specs.inside.Linking.{IsKept}
use Rattle.ml_program.proofs.CodesKept.{preds_are}
use Rattle.ml_program.proofs.ProceduresRead.{kept, few_declared}
use Rattle.ml_program.proofs.ProgramsLoaded.{tables}
use Rattle.ml_program.proofs.loaded.Loaded.new.Goals as goal

pub link_all-requires : goal.link_all-requires
link_all-requires c =
    let q = program_seen c.args.program.now in
    let ds = procedures_seen c.in_ok-places.field-0.procedures.items in
    let keys = c.in_ok-places.field-0.places.keys in (
      q,
      map (compiled_in q) ds,
      tables q ds (subst (λ cs. AreFiled (clauses_seen cs) ds) c.as_slice.ensures c.in_ok-places.ensures.filed) c.in_ok-places.ensures.few c.in_ok-decls.decls
          keys
          c.in_ok-decls.ensures (few_declared c.args.program.now) (preds_are keys c.in_ok-places.field-0.procedures.items c.in_ok-places.ensures.places),
    )

pub invariant_of-result : goal.invariant_of-result
invariant_of-result c =
    let ds = procedures_seen c.in_ok-places.field-0.procedures.items in
    let keys = c.in_ok-places.field-0.places.keys in
    subst (λ q. IsKept q c.in_ok-procedures.procedures.items c.in_ok-decls.decls keys) (sym c.of.ensures)
    (kept c.args.program.now c.in_ok-procedures.procedures.items ds c.in_ok-decls.decls keys c.in_ok-procedures.ensures.same
    (subst (λ cs. AreFiled (clauses_seen cs) ds) c.as_slice.ensures c.in_ok-places.ensures.filed) c.in_ok-places.ensures.few c.in_ok-decls.ensures
    (preds_are keys c.in_ok-places.field-0.procedures.items c.in_ok-places.ensures.places) c.in_ok-procedures.ensures.linked)
