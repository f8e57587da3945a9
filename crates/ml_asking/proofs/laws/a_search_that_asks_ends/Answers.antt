use Rattle.ml_asking.proofs.TurnsLowerWeights.{turn_falls}
use Rattle.ml_asking.proofs.SearchEnds.{comes_to_an_end}
use Rattle.ml_asking.proofs.laws.a_search_that_asks_ends.Goals as goal

pub returns-clause-falls : goal.returns-clause-falls
returns-clause-falls c = λ program most m. turn_falls most program m

pub returns-clause-ends : goal.returns-clause-ends
returns-clause-ends c = comes_to_an_end
