-- Where two numbers first differ: the leading zeros of their difference without carry.
use Rattle.std.specs.Prelude.{◌≡◌, ℕ, zero, suc, ◌+◌, ◌*◌, ◌/◌, ◌%◌, ◌^◌, ◌==◌, ◌<◌, ◌≤◌, bit_xor, [], ◌∷◌}
use Rattle.std.specs.declared.cmp.Ordering.TheVariants.{Equal}
use Rattle.std.specs.Ordering.{bool_cmp, ordering_then}
use Rattle.std.specs.Int.Count.{count_leading_zeros, leading_unique}
use Rattle.std.proofs.Common.{refl, sym, ap, ◌∙◌, subst, arith}
use Rattle.std.proofs.Math.Nat.{mod-eq_of_lt, pow-suc}
use Rattle.std.proofs.lemmas.Nat.{mod_below, pow_pos, xor_lt}
use Rattle.std.proofs.lemmas.Nat.Bits.{bit_at_xor}
use Rattle.ml_term.specs.Codes.{bits}
use Rattle.ml_term.proofs.Bits.{one_bit_more}
use Rattle.ml_term.proofs.Interleaving.{lead, lead_after}

-- a number of k bits, its leading zeros and the others
record IsLed (k z r : ℕ) : Type 0 where
  pub others : ℕ
  pub whole : r + others ≡ k
  pub below : z < 2 ^ others
  pub above : 2 ^ others ≤ 2 * z + 1

-- one bit more above: the zeros go on, or there are none
one_more : (k a b z r : ℕ) → a < 2 → b < 2 → z < 2 ^ k → IsLed k z r
    → IsLed (suc k) ((a + b) % 2 * 2 ^ k + z) (lead_after (ordering_then (bool_cmp (a == 1) (b == 1)) Equal) r)
one_more k zero zero z r p q s h = subst (λ n. IsLed (suc k) n (suc r)) (omega arith)
    (record { others = h.others; whole = omega (arith, h.whole); below = h.below; above = h.above })
one_more k (suc zero) (suc zero) z r p q s h = subst (λ n. IsLed (suc k) n (suc r)) (omega arith)
    (record { others = h.others; whole = omega (arith, h.whole); below = h.below; above = h.above })
one_more k zero (suc zero) z r p q s h =
    let e : 2 ^ suc k ≡ 2 ^ k * 2 = pow-suc 2 k in
    record { others = suc k; whole = omega arith; below = omega arith; above = omega arith }
one_more k (suc zero) zero z r p q s h =
    let e : 2 ^ suc k ≡ 2 ^ k * 2 = pow-suc 2 k in
    record { others = suc k; whole = omega arith; below = omega arith; above = omega arith }
one_more k (suc (suc a)) b z r p q s h = absurd (omega arith)
one_more k a (suc (suc b)) z r p q s h = absurd (omega arith)

leads : (k x y : ℕ) → IsLed k (bit_xor x y % 2 ^ k) (lead k (bits k x ∷ []) (bits k y ∷ []))
leads zero x y = record { others = 0; whole = refl; below = mod_below (bit_xor x y) 1 (omega arith); above = omega arith }
leads (suc k) x y =
    let top : bit_xor x y / 2 ^ k % 2 ≡ (x / 2 ^ k % 2 + y / 2 ^ k % 2) % 2 = bit_at_xor x y k in
    let e : bit_xor x y % 2 ^ suc k ≡ (x / 2 ^ k % 2 + y / 2 ^ k % 2) % 2 * 2 ^ k + bit_xor x y % 2 ^ k =
    one_bit_more (bit_xor x y) k ∙ ap (λ b. b * 2 ^ k + bit_xor x y % 2 ^ k) top in
    subst (λ n. IsLed (suc k) n (lead (suc k) (bits (suc k) x ∷ []) (bits (suc k) y ∷ []))) (sym e)
    (one_more k (x / 2 ^ k % 2) (y / 2 ^ k % 2) (bit_xor x y % 2 ^ k) (lead k (bits k x ∷ []) (bits k y ∷ []))
    (mod_below (x / 2 ^ k) 2 (omega arith)) (mod_below (y / 2 ^ k) 2 (omega arith)) (mod_below (bit_xor x y) (2 ^ k) (pow_pos k)) (leads k x y))

pub lead_is_zeros : (k x y : ℕ) → x < 2 ^ k → y < 2 ^ k → lead k (bits k x ∷ []) (bits k y ∷ []) ≡ count_leading_zeros k (bit_xor x y)
lead_is_zeros k x y p q =
    let h = leads k x y in
    let e : bit_xor x y % 2 ^ k ≡ bit_xor x y = mod-eq_of_lt (xor_lt k x y p q) in
    leading_unique k (bit_xor x y) (lead k (bits k x ∷ []) (bits k y ∷ [])) h.others h.whole
    (subst (λ n. n < 2 ^ h.others) e h.below) (subst (λ n. 2 ^ h.others ≤ 2 * n + 1) e h.above)
