use Rattle.ml_stack.proofs.Moments.{moment_stays, memory_stays, moment_below, moments_nest, is_moment_now, moment_now}
use Rattle.ml_stack.proofs.laws.a_moment_keeps_its_memory.Goals as goal

pub returns-clause-stays : goal.returns-clause-stays
returns-clause-stays c = λ M N u m g i. (moment_stays M N u g m i, memory_stays M N u g m i)

pub returns-clause-nests : goal.returns-clause-nests
returns-clause-nests c = λ M m k i j. (moment_below M m k i j, moments_nest M m k i j)

pub returns-clause-now : goal.returns-clause-now
returns-clause-now c = λ M. (is_moment_now M, moment_now M)
