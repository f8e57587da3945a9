use Rattle.ml_stack.proofs.Below.{continues_below, continues_weaker, continues_lower}
use Rattle.ml_stack.proofs.ChoicePoints.{as_many}
use Rattle.ml_stack.proofs.laws.a_continuation_needs_what_is_below.Goals as goal

pub returns-clause-below : goal.returns-clause-below
returns-clause-below c = λ ps M w v n l gs e k. continues_below ps v e k

pub returns-clause-weaker : goal.returns-clause-weaker
returns-clause-weaker c = λ ps M w n k l gs b c. continues_weaker ps k b c

pub returns-clause-lower : goal.returns-clause-lower
returns-clause-lower c = λ ps M w h l gs b c. continues_lower ps b c

pub returns-clause-many : goal.returns-clause-many
returns-clause-many c = λ ps M w s. as_many ps s
