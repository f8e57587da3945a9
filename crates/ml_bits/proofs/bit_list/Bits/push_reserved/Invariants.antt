use Rattle.std.proofs.Common.{◌≡◌, ◌+◌, ◌*◌, ◌≤◌, ◌++◌, length}
use Rattle.ml_bits.specs.BitList.{byte_bits}
use Rattle.ml_bits.proofs.bit_list.Bits.push_reserved.Given as goal

abbrev pub invariant-loop-rest : goal.invariant-loop-rest
invariant-loop-rest l = record {
  bits : l.self.bits ++ byte_bits l.rest ≡ l.initial.self.bits ++ byte_bits l.initial.rest;
  room : l.self.room ≡ l.initial.self.room;
  fits : length l.self.bits + 8 * length l.rest ≤ l.self.room;
}

abbrev pub decreases-loop-rest : goal.decreases-loop-rest
decreases-loop-rest l = length l.rest
