use Rattle.std.proofs.Common.{ℕ, ◌<◌, [], get_or}
use Rattle.ml_bits.specs.BitList.{Begins}
use Rattle.ml_split.proofs.tests.all_begin.Given as goal

abbrev pub invariant-loop-i : goal.invariant-loop-i
invariant-loop-i g l = (i : ℕ) → i < l.i → Begins l.prefix.bits (get_or (g.K.Keys.keys l.keys) i [])
