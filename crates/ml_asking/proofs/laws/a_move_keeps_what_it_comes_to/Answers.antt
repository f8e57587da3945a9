use Rattle.std.proofs.Common.{arith}
use Rattle.ml_asking.proofs.SearchesAgree.{keeps_meaning}
use Rattle.ml_asking.proofs.laws.a_move_keeps_what_it_comes_to.Goals as goal

pub returns-clause-keeps : goal.returns-clause-keeps
returns-clause-keeps c = keeps_meaning

pub returns-clause-begins : goal.returns-clause-begins
returns-clause-begins c = λ program goal terms number left s. (((omega arith, tt), tt), tt)
