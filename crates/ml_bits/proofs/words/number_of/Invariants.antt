use Rattle.std.proofs.Common.{◌≡◌, ◌*◌, ◌^◌, ◌<◌, take}
use Rattle.ml_bits.specs.BitList.{bits_of, byte_bits}
use Rattle.ml_bits.proofs.words.number_of.Given as goal

abbrev pub invariant-loop-byte : goal.invariant-loop-byte
invariant-loop-byte l = record {
  below : l.number < 2 ^ (8 * l.byte-index);
  bits : bits_of (8 * l.byte-index) l.number ≡ byte_bits (take l.byte-index l.bytes);
}
