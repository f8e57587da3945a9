use Rattle.std.proofs.Common.{◌≡◌, ◌+◌, length}
use Rattle.ml_token.specs.inside.Gap.{gap_len}
use Rattle.ml_token.proofs.gap.gap_len.Given as goal

abbrev pub invariant-loop-rest : goal.invariant-loop-rest
invariant-loop-rest l = record {
  len : l.n + gap_len 0 l.rest ≡ gap_len 0 l.bytes;
  within : l.n + length l.rest ≡ length l.bytes;
}

abbrev pub decreases-loop-rest : goal.decreases-loop-rest
decreases-loop-rest l = length l.rest
