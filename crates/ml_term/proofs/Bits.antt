-- Bits of numbers, and of bytes: their order is that of the numbers.
use Rattle.std.specs.Prelude.{◌≡◌, ℕ, zero, suc, ◌+◌, ◌-◌, ◌*◌, ◌/◌, ◌%◌, ◌^◌, ◌==◌, ◌<◌, ◌≤◌, Bool, true, List, [], ◌∷◌, ◌++◌, length, nat_lt}
use Rattle.std.specs.List.{list_all}
use Rattle.std.specs.Ordering.{nat_cmp, bool_cmp, ordering_then}
use Rattle.std.specs.Cmp.Lexicographic.{slice_cmp}
use Rattle.std.proofs.Common.{refl, sym, ap, ◌∙◌, arith}
use Rattle.std.proofs.Math.Nat.{mod-eq_of_lt}
use Rattle.std.proofs.lemmas.Bool.{and_parts, ltb-true}
use Rattle.std.proofs.lemmas.Nat.{mod-pow-add, mod_below, pow_pos}
use Rattle.std.proofs.lemmas.Nat.Bits.{bit_at_cat_low, bit_at_cat_high}
use Rattle.ml_term.specs.Codes.{bits, byte_bits}
use Rattle.ml_term.proofs.Orderings.{digits_compare, same, slice_cmp-append}

pub length-bits : (k v : ℕ) → length (bits k v) ≡ k
length-bits zero v = refl
length-bits (suc k) v = omega (arith, length-bits k v)

bit_compare : (d e : ℕ) → d < 2 → e < 2 → bool_cmp (d == 1) (e == 1) ≡ nat_cmp d e
bit_compare zero zero p q = refl
bit_compare zero (suc zero) p q = refl
bit_compare (suc zero) zero p q = refl
bit_compare (suc zero) (suc zero) p q = refl
bit_compare (suc (suc d)) e p q = absurd (omega arith)
bit_compare d (suc (suc e)) p q = absurd (omega arith)

-- a number's lowest bits are the highest of them and the others
pub one_bit_more : (x k : ℕ) → x % 2 ^ suc k ≡ x / 2 ^ k % 2 * 2 ^ k + x % 2 ^ k
one_bit_more x k = let e : suc k ≡ 1 + k = omega arith in ap (λ j. x % 2 ^ j) e ∙ mod-pow-add x 1 k

-- the order of bits is that of the numbers
pub bits_compare_low : (k x y : ℕ) → slice_cmp bool_cmp (bits k x) (bits k y) ≡ nat_cmp (x % 2 ^ k) (y % 2 ^ k)
bits_compare_low zero x y = sym (same (x % 2 ^ 0) (y % 2 ^ 0) (omega (arith, mod_below x 1 (omega arith), mod_below y 1 (omega arith))))
bits_compare_low (suc k) x y =
    ap (λ o. ordering_then o (slice_cmp bool_cmp (bits k x) (bits k y)))
    (bit_compare (x / 2 ^ k % 2) (y / 2 ^ k % 2) (mod_below _ 2 (omega arith)) (mod_below _ 2 (omega arith)))
    ∙ ap (ordering_then (nat_cmp (x / 2 ^ k % 2) (y / 2 ^ k % 2))) (bits_compare_low k x y)
    ∙ digits_compare (2 ^ k) _ _ (x % 2 ^ k) (y % 2 ^ k) (mod_below x (2 ^ k) (pow_pos k)) (mod_below y (2 ^ k) (pow_pos k))
    ∙ ap (λ n. nat_cmp n (y / 2 ^ k % 2 * 2 ^ k + y % 2 ^ k)) (sym (one_bit_more x k))
    ∙ ap (nat_cmp (x % 2 ^ suc k)) (sym (one_bit_more y k))

pub bits_compare : (k x y : ℕ) → x < 2 ^ k → y < 2 ^ k → slice_cmp bool_cmp (bits k x) (bits k y) ≡ nat_cmp x y
bits_compare k x y p q =
    let e : x % 2 ^ k ≡ x = mod-eq_of_lt p in
    let f : y % 2 ^ k ≡ y = mod-eq_of_lt q in
    bits_compare_low k x y ∙ ap (λ n. nat_cmp n (y % 2 ^ k)) e ∙ ap (nat_cmp x) f

-- low bits don't see what stands above them
pub low_bits : (j k h l : ℕ) → j ≤ k → bits j (h * 2 ^ k + l) ≡ bits j l
low_bits zero k h l below = refl
low_bits (suc j) k h l below =
    ap (λ b. (b == 1) ∷ bits j (h * 2 ^ k + l)) (bit_at_cat_low h k l j (omega arith))
    ∙ ap (λ bs. (l / 2 ^ j % 2 == 1) ∷ bs) (low_bits j k h l (omega arith))

-- a number put together of two has the bits of both
pub joined_bits : (j k h l : ℕ) → l < 2 ^ k → bits (j + k) (h * 2 ^ k + l) ≡ bits j h ++ bits k l
joined_bits zero k h l below = let e : zero + k ≡ k = omega arith in ap (λ n. bits n (h * 2 ^ k + l)) e ∙ low_bits k k h l (omega arith)
joined_bits (suc j) k h l below =
    let e : suc j + k ≡ suc (j + k) = omega arith in
    let f : j + k - k ≡ j = omega arith in
    ap (λ n. bits n (h * 2 ^ k + l)) e
    ∙ ap (λ b. (b == 1) ∷ bits (j + k) (h * 2 ^ k + l)) (bit_at_cat_high h k l (j + k) below (omega arith) ∙ ap (λ i. h / 2 ^ i % 2) f)
    ∙ ap (λ bs. (h / 2 ^ j % 2 == 1) ∷ bs) (joined_bits j k h l below)

-- whether these are numbers below 256
abbrev pub are_bytes : List ℕ → Bool
are_bytes = list_all (λ b. nat_lt b 256)

-- the order of the bits of bytes is that of the bytes
pub byte_bits_compare : (xs ys : List ℕ) → are_bytes xs ≡ true → are_bytes ys ≡ true →
    slice_cmp bool_cmp (byte_bits xs) (byte_bits ys) ≡ slice_cmp nat_cmp xs ys
byte_bits_compare [] [] p q = refl
byte_bits_compare [] (y ∷ ys) p q = refl
byte_bits_compare (x ∷ xs) [] p q = refl
byte_bits_compare (x ∷ xs) (y ∷ ys) p q =
    let px = and_parts _ _ p in
    let qy = and_parts _ _ q in
    slice_cmp-append bool_cmp (bits 8 x) (bits 8 y) (byte_bits xs) (byte_bits ys) (length-bits 8 x ∙ sym (length-bits 8 y))
    ∙ ap (λ o. ordering_then o (slice_cmp bool_cmp (byte_bits xs) (byte_bits ys))) (bits_compare 8 x y (ltb-true x 256 px.0) (ltb-true y 256 qy.0))
    ∙ ap (ordering_then (nat_cmp x y)) (byte_bits_compare xs ys px.1 qy.1)
