-- A small term has no more variables than nodes.
use Rattle.std.proofs.Common.{arith}
use Rattle.ml_search.proofs.Unifying.VariableCounts.{width_within}
use Rattle.ml_term.specs.Seen.{seen}
use Rattle.ml_match_rows.proofs.heads.numbered.Goals as goal

pub rename-requires-clause-room : goal.rename-requires-clause-room
rename-requires-clause-room c = omega (arith, c.requires.small, width_within (seen c.args.t.now))
