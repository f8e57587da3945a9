use Rattle.ml_stack.proofs.TakenApart.{taken_apart, splits_lead, continues_end, continues_frame}
use Rattle.ml_stack.proofs.laws.a_place_is_taken_apart.Goals as goal

pub returns-clause-apart : goal.returns-clause-apart
returns-clause-apart c = λ ps M w n a gs r. taken_apart ps r

pub returns-clause-turns : goal.returns-clause-turns
returns-clause-turns c = λ p v before after m b r gs hs s l. splits_lead p v before after m b r s l

pub returns-clause-ends : goal.returns-clause-ends
returns-clause-ends c = λ ps M w n gs c. continues_end ps c

pub returns-clause-frame : goal.returns-clause-frame
returns-clause-frame c = λ ps M w n i f gs e c. continues_frame ps f e c
