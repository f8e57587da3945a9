use Rattle.std.proofs.Common.{◌≤◌, length, ap, sym, ◌∙◌, arith, subst}
use Rattle.ml_bits.specs.BitList.{byte_bits}
use Rattle.ml_bits.proofs.StoredBits.{TakesPiece, takes_piece}
use Rattle.ml_bits.proofs.bit_list.Bits.push_reserved.Goals as goal

pub loop-rest-preserved : goal.loop-rest-preserved
loop-rest-preserved c =
    let within : c.min.result ≤ length c.loop-rest.rest.now = omega arith in
    let piece = takes_piece _ _ _ _ c.loop-rest.rest.now c.min.result _ c.loop-rest.invariant.bits c.loop-rest.invariant.room c.loop-rest.invariant.fits within
    (c.number_of.ensures.bits ∙ ap byte_bits c.split_at.ensures.front) c.in-Ok.ensures.ok in
    let now = subst (TakesPiece c.push_bits.new.self c.args.self.now c.args.bytes.now) (sym c.split_at.ensures.back) piece in
    record { bits = now.bits; room = now.room; fits = now.fits }
