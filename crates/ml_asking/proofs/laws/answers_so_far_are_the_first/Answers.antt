use Rattle.ml_asking.proofs.AnswersSoFar.{answers_so_far}
use Rattle.ml_asking.proofs.ChangesByLog.{answers_told}
use Rattle.ml_asking.proofs.laws.answers_so_far_are_the_first.Goals as goal

pub returns-clause-same : goal.returns-clause-same
returns-clause-same c = answers_so_far

pub returns-clause-told : goal.returns-clause-told
returns-clause-told c = answers_told
