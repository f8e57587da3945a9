-- A clause that isn't too large has few variables.
use Rattle.std.proofs.Common.{arith, ap}
use Rattle.ml_search.specs.Program.{clause_term}
use Rattle.ml_term.specs.Seen.{seen}
use Rattle.ml_term.specs.Tree.{nodes}
use Rattle.ml_search.proofs.Unifying.VariableCounts.{width_within}
use Rattle.ml_store_goals.proofs.Parts.{few_nodes}
use Rattle.ml_store_goals.proofs.clauses.numbered_clause.Goals as goal

pub rename-requires-clause-room : goal.rename-requires-clause-room
rename-requires-clause-room c =
    let t = seen c.in_ok-clause.clause in
    let u = clause_term (seen c.args.terms.head) (seen c.args.terms.body) in
    omega (arith, width_within t, ap nodes c.in_ok-clause.ensures.same, few_nodes u c.requires.small)
