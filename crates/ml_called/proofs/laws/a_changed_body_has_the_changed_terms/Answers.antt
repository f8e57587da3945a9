use Rattle.ml_called.proofs.TermsOfBodies.{terms_changed}
use Rattle.ml_called.proofs.laws.a_changed_body_has_the_changed_terms.Goals as goal

pub returns : goal.returns
returns c = λ s b. terms_changed s b
