use Rattle.std.proofs.Common.{◌≡◌, length, take, Some, refl, sym, subst}
use Rattle.std.specs.Prelude.{slice_get}
use Rattle.std.proofs.lemmas.Option.{slice_get_read}
use Rattle.ml_search.specs.ClauseSeen.{clause_seen, clauses_seen}
use Rattle.ml_program.specs.inside.Filing.{AreFiled, procedures_seen}
use Rattle.ml_program.proofs.CodesFiled.{one_more_filed}
use Rattle.ml_program.proofs.CodesKept.{has_head, clause_is_of, one_more_seen}
use Rattle.ml_program.proofs.procedure.file_clauses.Goals as goal

pub head_predicate-requires : goal.head_predicate-requires
head_predicate-requires c = has_head c.clause-item.result

pub loop-clause-preserved : goal.loop-clause-preserved
loop-clause-preserved c =
    let all = c.args.clauses.now in
    let i = c.loop-clause.clause-index in
    let item = c.clause-item.result in
    let ds = procedures_seen c.loop-clause.filed.procedures.items in
    let new = procedures_seen c.file_code.new.filed.procedures.items in
    let at : slice_get all i ≡ Some item = slice_get_read all (length all) i item refl c.loop-clause-test.true c.clause-item.is in
    let filed =
    one_more_filed (clauses_seen (take i all)) (clause_seen item) c.in_ok-pred.pred c.in_ok-code.code
    (clause_is_of item c.in_ok-pred.pred c.in_ok-pred.ensures.name c.in_ok-pred.ensures.arity) c.in_ok-code.ensures ds c.loop-clause.invariant.filed in
    record {
      places = c.in_ok-file_code.ensures.places;
      filed =
          subst (λ cs. AreFiled cs new) (one_more_seen all i item at)
          (subst (AreFiled _) (sym c.in_ok-file_code.ensures.filed) filed);
      few = c.in_ok-file_code.ensures.few;
    }
