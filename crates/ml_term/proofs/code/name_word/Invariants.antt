use Rattle.std.proofs.Common.{◌≡◌, ◌<◌, ◌*◌, ◌^◌}
use Rattle.ml_term.specs.Codes.{bits, byte_bits, pad}
use Rattle.ml_term.proofs.code.name_word.Given as goal

abbrev pub invariant-loop-i : goal.invariant-loop-i
invariant-loop-i l = (bits (8 * l.i) l.word ≡ byte_bits (pad l.i l.name)) × (l.word < 2 ^ (8 * l.i))
