use Rattle.ml_called.proofs.ChangedTerms.{body_changed, callable_changed}
use Rattle.ml_called.proofs.laws.a_map_keeps_a_body.Goals as goal

pub returns-clause-body : goal.returns-clause-body
returns-clause-body c = λ s t k. body_changed s t k

pub returns-clause-callable : goal.returns-clause-callable
returns-clause-callable c = λ s t k. callable_changed s t k
