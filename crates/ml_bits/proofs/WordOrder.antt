-- Numbers of k bits are in the order of their bits, and the highest place where they differ is where their bits first do.
use Rattle.std.proofs.Common.{◌≡◌, ◌≢◌, ℕ, zero, suc, ◌+◌, ◌-◌, ◌*◌, ◌%◌, ◌^◌, ◌<◌, ◌≤◌, inl, inr, true, false, eqb, ◌∷◌, length, get_or, take, sym, ap, ◌∙◌}
use Rattle.std.proofs.Common.{arith}
use Rattle.std.specs.declared.cmp.Ordering.TheVariants.{Less, Equal, Greater}
use Rattle.std.specs.Ordering.{nat_cmp, bool_cmp}
use Rattle.std.specs.Cmp.Lexicographic.{slice_cmp}
use Rattle.std.specs.Int.{bit_at}
use Rattle.std.specs.Int.RustNames.{bit_xor}
use lib.Count.{count_leading_zeros}
use Rattle.std.proofs.Math.Nat.{pow-suc}
use Rattle.std.specs.Cmp.{bool_cmp_total}
use Rattle.std.proofs.lemmas.Cmp.{tied_itself, lists_total}
use Rattle.std.proofs.lemmas.Bool.{cases_lt}
use Rattle.std.proofs.lemmas.Bool.Decides.{nat_tests}
use Rattle.std.proofs.lemmas.Nat.{leading_top}
use Rattle.std.proofs.lemmas.Nat.Bits.{bit_at_cat_high, bit_at_above, bit_at_xor, bit_at-lt, bit_at-zero, same_from_bits}
use Rattle.std.proofs.lemmas.List.{same_lists, length-take-le, get_or-take}
use Rattle.ml_bits.specs.BitList.{bits_of}
use Rattle.ml_bits.proofs.WordBits.{bits_of-suc, bits_of-none, bits_of_low, length-bits_of, get_or-bits_of}

-- ---- the order of numbers

less : (a b : ℕ) → a < b → nat_cmp a b ≡ Less
less a b h = grind (arith, nat_tests)

greater : (a b : ℕ) → b < a → nat_cmp a b ≡ Greater
greater a b h = grind (arith, nat_tests)

shifted : (n a b : ℕ) → nat_cmp (n + a) (n + b) ≡ nat_cmp a b
shifted n a b = grind (arith, nat_tests)

-- ---- the highest of k + 1 bits

-- it is 0 in a number below 2 ^ k
low : (k a : ℕ) → a < 2 ^ k → bits_of (suc k) a ≡ false ∷ bits_of k a
low k a h = let none : bit_at a k ≡ 0 = bit_at_above a k k h (omega arith) in rw (bits_of-suc, none)

one_bit : (k r : ℕ) → r < 2 ^ k → bit_at (1 * 2 ^ k + r) k ≡ 1
one_bit k r h =
    let place : k - k ≡ 0 = omega arith in
    let up : bit_at (1 * 2 ^ k + r) k ≡ bit_at 1 (k - k) = bit_at_cat_high 1 k r k h (omega arith) in
    up ∙ ap (λ i. bit_at 1 i) place

record IsHigh (k a : ℕ) : Type 0 where
  rest : ℕ
  below : rest < 2 ^ k
  sum : a ≡ 2 ^ k + rest
  bit : bit_at a k ≡ 1
  spelled : bits_of (suc k) a ≡ true ∷ bits_of k rest

-- it is 1 in any other
high : (k a : ℕ) → 2 ^ k ≤ a → a < 2 ^ suc k → IsHigh k a
high k a h g =
    let twice : 2 ^ suc k ≡ 2 ^ k * 2 = pow-suc 2 k in
    let rest : ℕ = a - 2 ^ k in
    let below : rest < 2 ^ k = omega arith in
    let sum : a ≡ 1 * 2 ^ k + rest = omega arith in
    let bit : bit_at a k ≡ 1 = ap (λ x. bit_at x k) sum ∙ one_bit k rest below in
    let tail : bits_of k a ≡ bits_of k rest = ap (bits_of k) sum ∙ bits_of_low k k 1 rest (omega arith) in
    record { rest = rest; below = below; sum = omega arith; bit = bit; spelled = rw (bits_of-suc, bit, tail) }

-- the bits of two numbers of k bits are in the order of the numbers
pub bits_of_cmp : (k a b : ℕ) → a < 2 ^ k → b < 2 ^ k → slice_cmp bool_cmp (bits_of k a) (bits_of k b) ≡ nat_cmp a b
bits_of_cmp zero a b h g =
    let a_zero : a ≡ 0 = omega arith in
    let b_zero : b ≡ 0 = omega arith in
    rw (bits_of-none, bits_of-none, a_zero, b_zero)
bits_of_cmp (suc k) a b h g =
    elim (cases_lt a (2 ^ k)) [
      | inl p ↦ elim (cases_lt b (2 ^ k)) [
        | inl q ↦ rw (low k a p, low k b q) (bits_of_cmp k a b p q)
        | inr q ↦
            let t = high k b q g in
            rw (low k a p, t.spelled, less a b (omega arith))
      ]
      | inr p ↦
          let s = high k a p h in
          elim (cases_lt b (2 ^ k)) [
            | inl q ↦ rw (s.spelled, low k b q, greater a b (omega arith))
            | inr q ↦
                let t = high k b q g in
                let within = bits_of_cmp k s.rest t.rest s.below t.below in
                let same : nat_cmp a b ≡ nat_cmp s.rest t.rest = ap (λ x. nat_cmp x b) s.sum ∙ ap (λ x. nat_cmp (2 ^ k + s.rest) x) t.sum
                ∙ shifted (2 ^ k) s.rest t.rest in
                rw (s.spelled, t.spelled, same) within
          ]
    ]

-- ---- the first place where bits differ

pub record DifferAt (k a b n : ℕ) : Type 0 where
  pub within : n < k
  pub same : take n (bits_of k a) ≡ take n (bits_of k b)
  pub apart : get_or (bits_of k a) n false ≢ get_or (bits_of k b) n false

even_pair : (x y : ℕ) → x < 2 → y < 2 → (x + y) % 2 ≡ 0 → x ≡ y
even_pair x y h g e = omega arith

odd_pair : (x y : ℕ) → x < 2 → y < 2 → (x + y) % 2 ≡ 1 → x ≢ y
odd_pair x y h g e s = omega arith

apart_tests : (x y : ℕ) → x < 2 → y < 2 → x ≢ y → eqb x 1 ≢ eqb y 1
apart_tests x y h g e s = grind (arith, nat_tests)

-- two numbers of k bits first differ after as many bits as their `^` begins with zeros
pub first_difference : (k a b : ℕ) → a < 2 ^ k → b < 2 ^ k → 0 < bit_xor a b → bit_xor a b < 2 ^ k → DifferAt k a b (count_leading_zeros k (bit_xor a b))
first_difference k a b h g pos fits =
    let x : ℕ = bit_xor a b in
    let n : ℕ = count_leading_zeros k x in
    let top = leading_top k x pos fits in
    let j : ℕ = top.0 in
    let place : n + suc j ≡ k = top.1 in
    let set : bit_at x j ≡ 1 = (high j x top.2 top.3).bit in
    let alike : (i : ℕ) → j < i → bit_at a i ≡ bit_at b i =
    λ i above. even_pair (bit_at a i) (bit_at b i) (bit_at-lt a i) (bit_at-lt b i) (sym (bit_at_xor a b i) ∙ bit_at_above x (suc j) i top.3 (omega arith)) in
    let differ : bit_at a j ≢ bit_at b j =
    odd_pair (bit_at a j) (bit_at b j) (bit_at-lt a j) (bit_at-lt b j) (sym (bit_at_xor a b j) ∙ set) in
    let a_long : length (take n (bits_of k a)) ≡ n = length-take-le n (bits_of k a) (omega (arith, length-bits_of k a)) in
    let b_long : length (take n (bits_of k b)) ≡ n = length-take-le n (bits_of k b) (omega (arith, length-bits_of k b)) in
    record {
      within = omega arith;
      same = same_lists (take n (bits_of k a)) (take n (bits_of k b)) (a_long ∙ sym b_long) (λ i d l.
          let near : i < n = omega arith in
          let m : ℕ = k - suc i in
          let at : i + suc m ≡ k = omega arith in
          get_or-take n (bits_of k a) i d near ∙ get_or-bits_of k a i m d at ∙ ap (λ y. eqb y 1) (alike m (omega arith))
          ∙ sym (get_or-bits_of k b i m d at) ∙ sym (get_or-take n (bits_of k b) i d near));
      apart = λ e. apart_tests (bit_at a j) (bit_at b j) (bit_at-lt a j) (bit_at-lt b j) differ
          (sym (get_or-bits_of k a n j false place) ∙ e ∙ get_or-bits_of k b n j false place);
    }

tied : (a b : ℕ) → nat_cmp a b ≡ Equal → a ≡ b
tied a b h = grind (arith, nat_tests)

-- two numbers of k bits with the same bits are equal
pub same_from_bits_of : (k a b : ℕ) → a < 2 ^ k → b < 2 ^ k → bits_of k a ≡ bits_of k b → a ≡ b
same_from_bits_of k a b h g e =
    tied a b (sym (bits_of_cmp k a b h g) ∙ ap (λ x. slice_cmp bool_cmp x (bits_of k b)) e ∙ tied_itself (lists_total bool_cmp_total) (bits_of k b))

-- numbers that differ have a place where they do
pub xor_pos : (a b : ℕ) → a ≢ b → 0 < bit_xor a b
xor_pos a b apart =
    elim (cases_lt 0 (bit_xor a b)) [
      | inl h ↦ h
      | inr h ↦
          let none : bit_xor a b ≡ 0 = omega arith in
          absurd (apart (same_from_bits a b (λ i.
          even_pair (bit_at a i) (bit_at b i) (bit_at-lt a i) (bit_at-lt b i) (sym (bit_at_xor a b i) ∙ ap (λ x. bit_at x i) none ∙ bit_at-zero i))))
    ]
