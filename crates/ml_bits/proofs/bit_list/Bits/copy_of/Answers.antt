use Rattle.std.proofs.Common.{◌≡◌, length, arith, ap}
use Rattle.ml_bits.proofs.PackedBits.{length_held}
use Rattle.ml_bits.proofs.bit_list.Bits.copy_of.Goals as goal

pub set_prefix-requires-clause-within : goal.set_prefix-requires-clause-within
set_prefix-requires-clause-within c =
    let long : length c.args.self.now.bits ≡ c.self.inside.len = length_held _ _ _ c.self.invariant.packed (ap (λ v. v.bits) c.self.view_is) in
    omega (arith, long)
