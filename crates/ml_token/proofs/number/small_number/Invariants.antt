use Rattle.std.proofs.Common.{◌≡◌, ◌≤◌, length}
use Rattle.ml_token.specs.Number.{value_behind, value_of}
use Rattle.ml_token.proofs.number.small_number.Given as goal

abbrev pub invariant-loop-rest : goal.invariant-loop-rest
invariant-loop-rest l = record {
  value : value_behind l.n l.rest ≡ value_of l.digits;
  small : l.n ≤ 2305843009213693952;
}

abbrev pub decreases-loop-rest : goal.decreases-loop-rest
decreases-loop-rest l = length l.rest
