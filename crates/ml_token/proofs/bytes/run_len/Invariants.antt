use Rattle.std.proofs.Common.{◌≡◌, ◌+◌, length}
use Rattle.std.specs.List.{prefix_len}
use Rattle.ml_token.specs.Bytes.{in_run}
use Rattle.ml_token.proofs.bytes.run_len.Given as goal

abbrev pub invariant-loop-rest : goal.invariant-loop-rest
invariant-loop-rest l = record {
  run : l.n + prefix_len (in_run l.run) l.rest ≡ prefix_len (in_run l.run) l.bytes;
  within : l.n + length l.rest ≡ length l.bytes;
}

abbrev pub decreases-loop-rest : goal.decreases-loop-rest
decreases-loop-rest l = length l.rest
