use Rattle.std.proofs.Common.{◌≡◌, length, eq-eqb, eqb-true, arith, ap}
use Rattle.std.proofs.lemmas.List.{nil_from_length}
use Rattle.ml_bits.proofs.PackedBits.{length_held}
use Rattle.ml_bits.proofs.bit_list.Bits.is_empty.Goals as goal

pub returns : goal.returns
returns c =
    let long : length c.args.self.now.bits ≡ c.self.inside.len = length_held _ _ _ c.self.invariant.packed (ap (λ v. v.bits) c.self.view_is) in
    (λ t. nil_from_length _ (omega (arith, long, eqb-true _ _ t)), λ e. eq-eqb _ _ (omega (arith, long, ap length e)))
