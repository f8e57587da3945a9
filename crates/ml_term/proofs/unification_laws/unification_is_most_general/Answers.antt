use Rattle.ml_term.proofs.UnifierIsOne.{is_most_general, general_on_terms, idempotent}
use Rattle.ml_term.proofs.unification_laws.unification_is_most_general.Goals as goal

pub returns-clause-unifies : goal.returns-clause-unifies
returns-clause-unifies c = λ es m e. (is_most_general es m e).unifies

pub returns-clause-general : goal.returns-clause-general
returns-clause-general c = general_on_terms

pub returns-clause-idempotent : goal.returns-clause-idempotent
returns-clause-idempotent c = idempotent
