use Rattle.std.proofs.Common.{[], ◌∷◌}
use Rattle.ml_term.proofs.UnifierIsOne.{both_found, one_map, swapped}
use Rattle.ml_term.proofs.unification_laws.unification_has_one_result.Goals as goal

pub returns-clause-both : goal.returns-clause-both
returns-clause-both c = both_found

pub returns-clause-same : goal.returns-clause-same
returns-clause-same c = λ es fs m n same e f. one_map es fs m n e f same

pub returns-clause-swapped : goal.returns-clause-swapped
returns-clause-swapped c = λ t u m n e f. one_map ((t, u) ∷ []) ((u, t) ∷ []) m n e f (swapped t u)
