use Rattle.ml_term.proofs.Runs as R
use Rattle.std.proofs.Common.{IsTrue}
use Rattle.ml_term.proofs.unification_laws.runs_go_by_turns.Goals as goal

pub returns-clause-ends : goal.returns-clause-ends
returns-clause-ends g c = λ turn first second never last falls. (R.turns turn first second never last falls, R.turns_fall turn first second never last falls)

pub returns-clause-goes_on : goal.returns-clause-goes_on
returns-clause-goes_on g c = λ turn first second never last falls. R.run_goes turn first second never last falls

pub returns-clause-is_over : goal.returns-clause-is_over
returns-clause-is_over g c = λ turn first second never last falls. R.run_over turn first second never last falls

pub returns-clause-asks : goal.returns-clause-asks
returns-clause-asks g c = λ turn first second never last falls. R.run_asks turn first second never last falls

pub returns-clause-induction : goal.returns-clause-induction
returns-clause-induction g c = λ turn first second never last falls p keeps. R.by_turns turn first second never last falls (λ s r. IsTrue (p s r)) keeps
