use Rattle.std.proofs.Common.{arith}
use Rattle.ml_token.proofs.DigitValues.{value_behind-step}
use Rattle.ml_token.proofs.number.small_number.Goals as goal

pub returns-then-next-from-clause-none : goal.returns-then-next-from-clause-none
returns-then-next-from-clause-none c =
    omega (arith, value_behind-step c.loop-rest.n c.loop-rest.rest.now c.in-len1-up.len_at_least, c.loop-rest.invariant.value)
