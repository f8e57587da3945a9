-- A small term has no more variables than nodes.
use Rattle.std.proofs.Common.{arith, subst, sym}
use Rattle.std.specs.Prelude.{◌≤◌}
use Rattle.ml_search.proofs.Unifying.VariableCounts.{width_within}
use Rattle.ml_term.specs.Limits.{max_term_nodes}
use Rattle.ml_term.specs.Seen.{seen}
use Rattle.ml_term.specs.Tree.{nodes}
use Rattle.ml_match_rows.proofs.heads.told_of.Goals as goal

pub rename-requires-clause-room : goal.rename-requires-clause-room
rename-requires-clause-room c =
    let few : nodes (seen c.in-Ok.t) ≤ max_term_nodes = subst (λ t. nodes t ≤ max_term_nodes) (sym c.in-Ok.ensures.taken) c.in-Ok.ensures.small in
    omega (arith, few, width_within (seen c.in-Ok.t))
