use Rattle.std.proofs.Common.{length}
use Rattle.std.proofs.lemmas.Bool.{and_from, le-leb}
use Rattle.ml_search.specs.Limits.{max_declarations}
use Rattle.ml_search.proofs.WellFormedParts.{clauses_are_clauses}
use Rattle.ml_search.proofs.program.Program.new.Goals as goal

pub invariant_of-result : goal.invariant_of-result
invariant_of-result c = record {
  well_formed =
      and_from _ _ (and_from _ _ (and_from _ _
      c.len-declared_once.ensures.once
      (le-leb (length c.args.decls) max_declarations c.len-declared_once.ensures.few))
      (clauses_are_clauses c.args.clauses))
      c.requires;
}
