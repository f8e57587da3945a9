use Rattle.ml_term.proofs.FittingKeys.{prefix_holds}
use Rattle.ml_term.proofs.CompletedPrefixes.{holds_exactly}
use Rattle.ml_term.proofs.pattern_laws.prefixes_of_fitting_keys_hold.Goals as goal

pub returns-clause-each : goal.returns-clause-each
returns-clause-each c = λ pattern prefix key h b. prefix_holds pattern prefix key b h

pub returns-clause-exactly : goal.returns-clause-exactly
returns-clause-exactly c = holds_exactly
