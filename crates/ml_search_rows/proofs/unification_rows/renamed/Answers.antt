use Rattle.std.proofs.Common.{arith}
use Rattle.ml_term.specs.Seen.{seen}
use Rattle.ml_search.proofs.Unifying.VariableCounts.{width_within}
use Rattle.ml_search_rows.proofs.unification_rows.renamed.Goals as goal

pub rename-requires-clause-room : goal.rename-requires-clause-room
rename-requires-clause-room g c = omega (arith, width_within (seen c.args.t.now))
