use Rattle.std.proofs.Common.{◌≡◌, take}
use Rattle.ml_search.specs.ClauseSeen.{clauses_seen}
use Rattle.ml_program.specs.inside.Filing.{AreFew, AreFiled, predicates_of, procedures_seen}
use Rattle.ml_program.proofs.procedure.file_clauses.Given as goal

-- the clauses so far are filed
abbrev pub invariant-loop-clause : goal.invariant-loop-clause
invariant-loop-clause l = record {
  places : l.filed.places.keys ≡ predicates_of l.filed.procedures.items;
  filed : AreFiled (clauses_seen (take l.clause-index l.clauses)) (procedures_seen l.filed.procedures.items);
  few : AreFew (procedures_seen l.filed.procedures.items);
}
