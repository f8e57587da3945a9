use Rattle.std.proofs.Common.{◌<◌, arith, refl}
use Rattle.ml_bits.proofs.WordBits.{bits_of-none, number_more}
use Rattle.ml_bits.proofs.words.number_of.Goals as goal

pub loop-byte-init : goal.loop-byte-init
loop-byte-init c = record { below = omega arith; bits = bits_of-none 0 }

pub loop-byte-preserved : goal.loop-byte-preserved
loop-byte-preserved c =
    let short : c.loop-byte.byte-index < 8 = omega arith in
    let byte : c.from.result < 256 = omega (arith, c.from.ensures, c.type_inv.bytes c.loop-byte.byte-index) in
    let more = number_more c.args.bytes.now c.loop-byte.byte-index c.loop-byte.number c.from.result _ c.loop-byte-test.true short c.from.ensures byte
    c.loop-byte.invariant.below c.loop-byte.invariant.bits refl in
    record { below = more.below; bits = more.bits }
