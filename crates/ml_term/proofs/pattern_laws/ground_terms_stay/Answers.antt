use Rattle.ml_term.specs.Unify.{value_of}
use Rattle.ml_term.proofs.GroundTerms.{ground_stays, ground_renamed}
use Rattle.ml_term.proofs.pattern_laws.ground_terms_stay.Goals as goal

pub returns-clause-substituted : goal.returns-clause-substituted
returns-clause-substituted c = ground_stays

pub returns-clause-applied : goal.returns-clause-applied
returns-clause-applied c = λ m. ground_stays (value_of m)

pub returns-clause-renamed : goal.returns-clause-renamed
returns-clause-renamed c = ground_renamed
