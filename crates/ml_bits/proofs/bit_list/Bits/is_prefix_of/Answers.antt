use Rattle.std.proofs.Common.{◌≡◌, length, eqb-true, eq-eqb, arith, ap}
use Rattle.std.proofs.lemmas.Bool.{leb-true}
use Rattle.ml_bits.proofs.CommonLength.{begins_from_common, common_from_begins}
use Rattle.ml_bits.proofs.OrderLaws.{begins_within}
use Rattle.ml_bits.proofs.PackedBits.{length_held}
use Rattle.ml_bits.proofs.bit_list.Bits.is_prefix_of.Goals as goal

pub returns-then-self-other : goal.returns-then-self-other
returns-then-self-other c =
    let long : length c.args.self.now.bits ≡ c.self.inside.len = length_held _ _ _ c.self.invariant.packed (ap (λ v. v.bits) c.self.view_is) in (
      λ t. begins_from_common _ _ c.common_len.result c.common_len.ensures (omega (arith, long, eqb-true _ _ t)),
      λ b. eq-eqb _ _ (omega (arith, long, common_from_begins _ _ _ c.common_len.ensures b)),
    )

pub returns-else-self-other : goal.returns-else-self-other
returns-else-self-other c =
    let first : length c.args.self.now.bits ≡ c.self.inside.len = length_held _ _ _ c.self.invariant.packed (ap (λ v. v.bits) c.self.view_is) in
    let second : length c.args.other.now.bits ≡ c.other.inside.len = length_held _ _ _ c.other.invariant.packed (ap (λ v. v.bits) c.other.view_is) in
    (λ t. absurd (omega (arith, leb-true _ _ t)), λ b. absurd (omega (arith, first, second, begins_within _ _ b)))
