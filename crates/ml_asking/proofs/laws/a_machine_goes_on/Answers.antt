use Rattle.ml_asking.specs.Leads.{here}
use Rattle.ml_asking.proofs.AnswersSoFar.{one_turn, one_reply}
use Rattle.ml_asking.proofs.laws.a_machine_goes_on.Goals as goal

pub returns-clause-nothing : goal.returns-clause-nothing
returns-clause-nothing c = λ program v l. here

pub returns-clause-turns : goal.returns-clause-turns
returns-clause-turns c = λ program v l m k h. one_turn program h

pub returns-clause-replies : goal.returns-clause-replies
returns-clause-replies c = λ program v l o f k p h. one_reply program p h
