-- How many first bits two packed lists have in common, from the first words that differ.
use Rattle.std.proofs.Common.{◌≡◌, ◌≢◌, inl, inr, subst, ℕ, ◌+◌, ◌-◌, ◌*◌, ◌^◌, ◌<◌, ◌≤◌, min, Bool, false, List, length, get_or, take, sym, ap, ◌∙◌, arith}
use Rattle.std.specs.Int.RustNames.{bit_xor}
use lib.Count.{count_leading_zeros}
use Rattle.std.proofs.lemmas.Bool.{cases_lt}
use Rattle.std.proofs.lemmas.List.{length-take-le, get_or-take, take-take, take_all, ext_get_or}
use Rattle.std.proofs.lemmas.Nat.{xor_lt}
use Rattle.ml_bits.specs.BitList.{bits_of, Begins, IsCommonLength}
use Rattle.ml_bits.specs.inside.Packing.{word_bits, packed_bits, IsPacked}
use Rattle.ml_bits.proofs.OrderLaws.{begins_within}
use Rattle.ml_bits.proofs.WordOrder.{first_difference, xor_pos}
use Rattle.ml_bits.proofs.PackedBits.{length-word_bits, word_bits_take, get_or-word_bits, length-packed_bits}

-- ---- the same bits, place by place

same_at : (n : ℕ) (xs ys : List Bool) → take n xs ≡ take n ys → (i : ℕ) → i < n → get_or xs i false ≡ get_or ys i false
same_at n xs ys e i h = sym (get_or-take n xs i false h) ∙ ap (λ zs. get_or zs i false) e ∙ get_or-take n ys i false h

-- shorter beginnings are the same too
same_less : (m n : ℕ) (xs ys : List Bool) → m ≤ n → take n xs ≡ take n ys → take m xs ≡ take m ys
same_less m n xs ys h e = sym (take-take m n xs h) ∙ ap (take m) e ∙ take-take m n ys h

-- ---- words

-- as many words are the same: so are their bits
same_words : (ws vs : List ℕ) (k : ℕ) → k ≤ length ws → k ≤ length vs → take k ws ≡ take k vs → take (64 * k) (word_bits ws) ≡ take (64 * k) (word_bits vs)
same_words ws vs k h g e = sym (word_bits_take k ws h) ∙ ap word_bits e ∙ word_bits_take k vs g

-- where two words differ, their bits do after as many more bits as their `^` begins with zeros
record WordsDifferAt (ws vs : List ℕ) (k n : ℕ) : Type 0 where
  within : n < 64
  same : take (64 * k + n) (word_bits ws) ≡ take (64 * k + n) (word_bits vs)
  apart : get_or (word_bits ws) (64 * k + n) false ≢ get_or (word_bits vs) (64 * k + n) false

words_differ_at : (ws vs : List ℕ) (k : ℕ) → k < length ws → k < length vs → take k ws ≡ take k vs → get_or ws k 0 ≢ get_or vs k 0 → get_or ws k 0 < 2 ^ 64 →
    get_or vs k 0 < 2 ^ 64
    → WordsDifferAt ws vs k (count_leading_zeros 64 (bit_xor (get_or ws k 0) (get_or vs k 0)))
words_differ_at ws vs k h g e differ w_fits v_fits =
    let w : ℕ = get_or ws k 0 in
    let v : ℕ = get_or vs k 0 in
    let n : ℕ = count_leading_zeros 64 (bit_xor w v) in
    let d = first_difference 64 w v w_fits v_fits (xor_pos w v differ) (xor_lt 64 w v w_fits v_fits) in
    let near : n < 64 = d.within in
    let before : take (64 * k) (word_bits ws) ≡ take (64 * k) (word_bits vs) = same_words ws vs k (omega arith) (omega arith) e in
    let w_long : length (take (64 * k + n) (word_bits ws)) ≡ 64 * k + n = length-take-le (64 * k + n) (word_bits ws) (omega (arith, length-word_bits ws)) in
    let v_long : length (take (64 * k + n) (word_bits vs)) ≡ 64 * k + n = length-take-le (64 * k + n) (word_bits vs) (omega (arith, length-word_bits vs)) in
    let alike : (i : ℕ) → i < 64 * k + n → get_or (word_bits ws) i false ≡ get_or (word_bits vs) i false = λ i l.
    elim (cases_lt i (64 * k)) [
      | inl p ↦ same_at (64 * k) (word_bits ws) (word_bits vs) before i p
      | inr p ↦
          let j : ℕ = i - 64 * k in
          let at : i ≡ 64 * k + j = omega arith in
          let inside : j < n = omega arith in
          let both : get_or (word_bits ws) (64 * k + j) false ≡ get_or (word_bits vs) (64 * k + j) false =
          get_or-word_bits ws k j false h (omega arith) ∙ same_at n (bits_of 64 w) (bits_of 64 v) d.same j inside
          ∙ sym (get_or-word_bits vs k j false g (omega arith)) in
          subst (λ x. get_or (word_bits ws) x false ≡ get_or (word_bits vs) x false) (sym at) both
    ] in
    record {
      within = near;
      same = ext_get_or false (take (64 * k + n) (word_bits ws)) (take (64 * k + n) (word_bits vs)) (w_long ∙ sym v_long) (λ i l.
          let l' : i < 64 * k + n = omega (arith, w_long) in
          get_or-take (64 * k + n) (word_bits ws) i false l' ∙ alike i l' ∙ sym (get_or-take (64 * k + n) (word_bits vs) i false l'));
      apart = λ s. d.apart (sym (get_or-word_bits ws k n false h near) ∙ s ∙ get_or-word_bits vs k n false g near);
    }

-- ---- packed lists

-- what a number of common bits of the words says of the lists
common_from_words : (ws vs : List ℕ) (m n r : ℕ) → IsPacked ws m → IsPacked vs n → r ≤ m → r ≤ n → take r (word_bits ws) ≡ take r (word_bits vs)
    → (r < m → r < n → get_or (word_bits ws) r false ≢ get_or (word_bits vs) r false) → IsCommonLength (packed_bits ws m) (packed_bits vs n) r
common_from_words ws vs m n r p q h g e apart =
    let w_long : length (packed_bits ws m) ≡ m = length-packed_bits ws m p in
    let v_long : length (packed_bits vs n) ≡ n = length-packed_bits vs n q in
    record {
      within_first = omega arith;
      within_second = omega arith;
      same = take-take r m (word_bits ws) h ∙ e ∙ sym (take-take r n (word_bits vs) g);
      apart = λ a b s.
          let a' : r < m = omega arith in
          let b' : r < n = omega arith in
          apart a' b' (sym (get_or-take m (word_bits ws) r false a') ∙ s ∙ get_or-take n (word_bits vs) r false b');
    }

-- no word differs as far as the shorter list goes
pub common_all : (ws vs : List ℕ) (m n k : ℕ) → IsPacked ws m → IsPacked vs n → k ≤ length ws → k ≤ length vs → min m n ≤ 64 * k → take k ws ≡ take k vs
    → IsCommonLength (packed_bits ws m) (packed_bits vs n) (min m n)
common_all ws vs m n k p q h g l e =
    common_from_words ws vs m n (min m n) p q (omega arith) (omega arith)
    (same_less (min m n) (64 * k) (word_bits ws) (word_bits vs) l (same_words ws vs k h g e))
    (λ a b _. absurd (omega arith))

-- the words differ at place k
pub common_until : (ws vs : List ℕ) (m n k z : ℕ) → IsPacked ws m → IsPacked vs n → k < length ws → k < length vs → take k ws ≡ take k vs →
    get_or ws k 0 ≢ get_or vs k 0
    → get_or ws k 0 < 2 ^ 64 → get_or vs k 0 < 2 ^ 64 → z ≡ count_leading_zeros 64 (bit_xor (get_or ws k 0) (get_or vs k 0))
    → IsCommonLength (packed_bits ws m) (packed_bits vs n) (64 * k + min z (min m n - 64 * k))
common_until ws vs m n k z p q h g e differ w_fits v_fits z_is =
    let d = words_differ_at ws vs k h g e differ w_fits v_fits in
    let r : ℕ = 64 * k + min z (min m n - 64 * k) in
    let w_more : 64 * k < m = omega (arith, p.no_more) in
    let v_more : 64 * k < n = omega (arith, q.no_more) in
    let d_same : take (64 * k + z) (word_bits ws) ≡ take (64 * k + z) (word_bits vs) =
    subst (λ x. take (64 * k + x) (word_bits ws) ≡ take (64 * k + x) (word_bits vs)) (sym z_is) d.same in
    let d_apart : get_or (word_bits ws) (64 * k + z) false ≢ get_or (word_bits vs) (64 * k + z) false =
    subst (λ x. get_or (word_bits ws) (64 * k + x) false ≢ get_or (word_bits vs) (64 * k + x) false) (sym z_is) d.apart in
    common_from_words ws vs m n r p q (omega arith) (omega arith)
    (same_less r (64 * k + z) (word_bits ws) (word_bits vs) (omega arith) d_same)
    (λ a b s.
    let there : 64 * k + z ≡ r = omega arith in
    d_apart (subst (λ x. get_or (word_bits ws) x false ≡ get_or (word_bits vs) x false) (sym there) s))

-- the same of the lists that the words hold
pub common_of : (xs ys zs us : List Bool) (n : ℕ) → xs ≡ zs → ys ≡ us → IsCommonLength xs ys n → IsCommonLength zs us n
common_of xs ys zs us n e f h = subst (λ x. IsCommonLength x us n) e (subst (λ y. IsCommonLength xs y n) f h)

-- ---- a list that begins another

pub begins_from_common : (xs ys : List Bool) (n : ℕ) → IsCommonLength xs ys n → n ≡ length xs → Begins xs ys
begins_from_common xs ys n h e = ap (λ k. take k ys) (sym e) ∙ sym h.same ∙ take_all n xs (omega arith)

pub common_from_begins : (xs ys : List Bool) (n : ℕ) → IsCommonLength xs ys n → Begins xs ys → n ≡ length xs
common_from_begins xs ys n h b =
    elim (cases_lt n (length xs)) [
      | inl l ↦
          let there : n < length ys = omega (arith, begins_within xs ys b) in
          absurd (h.apart l there (sym (ap (λ zs. get_or zs n false) b) ∙ get_or-take (length xs) ys n false l))
      | inr l ↦ omega (arith, h.within_first)
    ]
