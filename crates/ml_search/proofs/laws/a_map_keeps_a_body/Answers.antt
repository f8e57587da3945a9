use Rattle.ml_search.proofs.BodyOutlines.{keeps_outline}
use Rattle.ml_search.proofs.BranchSizes.{body_keeps_size}
use Rattle.ml_search.proofs.laws.a_map_keeps_a_body.Goals as goal

pub returns-clause-same : goal.returns-clause-same
returns-clause-same c = keeps_outline

pub returns-clause-size : goal.returns-clause-size
returns-clause-size c = body_keeps_size
