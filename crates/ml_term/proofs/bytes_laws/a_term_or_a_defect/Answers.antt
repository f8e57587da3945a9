use Rattle.ml_term.proofs.StandingTerms.{no_defect, one_term}
use Rattle.ml_term.proofs.bytes_laws.a_term_or_a_defect.Goals as goal

pub returns-clause-apart : goal.returns-clause-apart
returns-clause-apart c bytes at t after s = no_defect bytes at t after s

pub returns-clause-one : goal.returns-clause-one
returns-clause-one c bytes at t u after other s r = one_term bytes at t u after other s r
