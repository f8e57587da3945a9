use Rattle.std.proofs.Common.{◌≡◌, ◌+◌, length, option_map}
use Rattle.ml_token.specs.inside.Gap.{block_comment_len}
use Rattle.ml_token.proofs.gap.block_comment_len.Given as goal

abbrev pub invariant-loop-rest : goal.invariant-loop-rest
invariant-loop-rest l = record {
  len : option_map (λ k. l.n + k) (block_comment_len l.rest) ≡ block_comment_len l.bytes;
  within : l.n + length l.rest ≡ length l.bytes;
}

abbrev pub decreases-loop-rest : goal.decreases-loop-rest
decreases-loop-rest l = length l.rest
