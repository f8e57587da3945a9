-- The floor of an exact quotient, by the quotient truncated toward zero and what is left of it.
use Rattle.std.specs.Prelude.{◌≡◌, ◌≢◌, ℕ, zero, suc, ◌*◌, ◌%◌, ◌^◌, ◌<◌, ◌≤◌, ◌≤ℤ◌, ◌⊎◌, unsigned_abs, nat_lt, Bool, true, false}
use Rattle.std.specs.Prelude.{ℤ, pos, negsuc, neg_ℤ, ◌+ℤ◌, ◌-ℤ◌, ◌*ℤ◌, int_div, int_rem, int_lt}
use Rattle.std.specs.Ordering.{int_eq}
use Rattle.std.proofs.Common.{refl, ap, ◌∙◌, arith, inl, inr, to_z, of_z}
use mir.Syntax.{w128}
use native.Mathlib.Nat.{mul_comm, zero-mod}
use Rattle.std.proofs.lemmas.Int.{ints, quot-rem}
use Rattle.ml_search.specs.Evaluate.{is_below_zero, modulo}
use Rattle.ml_arith.specs.inside.Operators.{is_truncated_up}

commuted : (x y : ℤ) → x *ℤ y ≡ y *ℤ x
commuted (pos a) (pos b) = ap pos (mul_comm a b)
commuted (pos a) (negsuc b) = ap (λ n. neg_ℤ (pos n)) (mul_comm a (suc b))
commuted (negsuc a) (pos b) = ap (λ n. neg_ℤ (pos n)) (mul_comm (suc a) b)
commuted (negsuc a) (negsuc b) = ap pos (mul_comm (suc a) (suc b))

-- a product with a number less one
before_one : (k : ℕ) → pos (suc k) -ℤ pos 1 ≡ pos k
before_one k = omega (arith, ints)

times_less_one : (y q : ℤ) → y *ℤ (q -ℤ pos 1) ≡ y *ℤ q -ℤ y
times_less_one (pos b) (pos zero) = omega (arith, ints)
times_less_one (pos b) (pos (suc k)) = ap (λ z. pos b *ℤ z) (before_one k) ∙ omega (arith, ints)
times_less_one (pos b) (negsuc k) = omega (arith, ints)
times_less_one (negsuc b) (pos zero) = omega (arith, ints)
times_less_one (negsuc b) (pos (suc k)) = ap (λ z. negsuc b *ℤ z) (before_one k) ∙ omega (arith, ints)
times_less_one (negsuc b) (negsuc k) = omega (arith, ints)

rest_of_quotient : (x y q r : ℤ) → q *ℤ y +ℤ r ≡ x → x -ℤ y *ℤ q ≡ r
rest_of_quotient x y q r h = omega (arith, ints, h, commuted y q)

rest_below_quotient : (x y q r : ℤ) → q *ℤ y +ℤ r ≡ x → x -ℤ y *ℤ (q -ℤ pos 1) ≡ r +ℤ y
rest_below_quotient x y q r h = omega (arith, ints, h, commuted y q, times_less_one y q)

-- the quotient truncated toward zero isn't exact, and above the exact one
floor_is_below : (x y : ℤ) → int_eq (int_rem x y) (pos 0) ≡ false → is_below_zero (x *ℤ y) ≡ true → modulo x y ≡ int_rem x y +ℤ y
floor_is_below x y e s = rw (e, s) (rest_below_quotient x y (int_div x y) (int_rem x y) (quot-rem x y))

-- it isn't above the exact one
floor_is_truncated : (x y : ℤ) → is_below_zero (x *ℤ y) ≡ false → modulo x y ≡ int_rem x y
floor_is_truncated x y s = by (int_eq (int_rem x y) (pos 0)) refl
  where
    by : (b : Bool) → int_eq (int_rem x y) (pos 0) ≡ b → modulo x y ≡ int_rem x y
    by true e = rw e (rest_of_quotient x y (int_div x y) (int_rem x y) (quot-rem x y))
    by false e = rw (e, s) (rest_of_quotient x y (int_div x y) (int_rem x y) (quot-rem x y))

-- it is exact
floor_is_exact : (x y : ℤ) → int_eq (int_rem x y) (pos 0) ≡ true → modulo x y ≡ int_rem x y
floor_is_exact x y e = rw e (rest_of_quotient x y (int_div x y) (int_rem x y) (quot-rem x y))

-- signs of what is left and of the product
none_below_zero : (n : ℕ) → nat_lt n 0 ≡ false
none_below_zero n = grind arith

positive : (n : ℕ) → nat_lt 0 n ≡ true → 0 < n
positive n e = grind arith

above_zero : (n : ℕ) → nat_lt 0 n ≡ true → int_eq (pos n) (pos 0) ≡ false
above_zero n e = rw (none_below_zero n, e) refl

is_zero : (n : ℕ) → nat_lt 0 n ≡ false → int_eq (pos n) (pos 0) ≡ true
is_zero n e = rw (none_below_zero n, e) refl

below_zero : (n : ℕ) → int_lt (neg_ℤ (pos n)) (pos 0) ≡ true → int_eq (neg_ℤ (pos n)) (pos 0) ≡ false
below_zero zero e = absurd (cc e)
below_zero (suc n) e = refl

not_below_zero : (n : ℕ) → int_lt (neg_ℤ (pos n)) (pos 0) ≡ false → int_eq (neg_ℤ (pos n)) (pos 0) ≡ true
not_below_zero zero e = refl
not_below_zero (suc n) e = absurd (cc e)

never_above_zero : (n : ℕ) → int_lt (pos 0) (neg_ℤ (pos n)) ≡ false
never_above_zero zero = refl
never_above_zero (suc n) = refl

negative_product : (n : ℕ) → 0 < n → is_below_zero (neg_ℤ (pos n)) ≡ true
negative_product zero l = absurd (omega (arith, l))
negative_product (suc n) l = refl

dividend_above_zero : (a b : ℕ) → 0 < a % suc b → 0 < a * suc b
dividend_above_zero zero b l = absurd (omega (arith, l, zero-mod (suc b)))
dividend_above_zero (suc a) b l = omega arith

product_above_zero : (a b : ℕ) → 0 < b → 0 < suc a * b
product_above_zero a zero l = absurd (omega (arith, l))
product_above_zero a (suc b) l = omega arith

not_zero : (b : ℕ) → pos b ≢ pos 0 → 0 < b
not_zero zero d = absurd (d refl)
not_zero (suc b) d = omega arith

-- the quotient was truncated up where it isn't exact and the exact one is below zero
up_is_inexact : (x y : ℤ) → y ≢ pos 0 → is_truncated_up (int_rem x y) y ≡ true
    → (int_eq (int_rem x y) (pos 0) ≡ false) × (is_below_zero (x *ℤ y) ≡ true)
up_is_inexact (pos a) (pos b) d e =
    let f : is_truncated_up (pos (a % b)) (pos b) ≡ false = rw (none_below_zero b, none_below_zero (a % b)) refl in absurd (cc (e, f))
up_is_inexact (pos a) (negsuc b) d e =
    (above_zero (a % suc b) e, negative_product (a * suc b) (dividend_above_zero a b (positive (a % suc b) e)))
up_is_inexact (negsuc a) (pos b) d e =
    let f : int_lt (neg_ℤ (pos (suc a % b))) (pos 0) ≡ true = rw (none_below_zero b) at e in
    (below_zero (suc a % b) f, negative_product (suc a * b) (product_above_zero a b (not_zero b d)))
up_is_inexact (negsuc a) (negsuc b) d e = absurd (cc (e, never_above_zero (suc a % suc b)))

-- elsewhere it is exact, or the exact one isn't below zero
else_exact : (x y : ℤ) → is_truncated_up (int_rem x y) y ≡ false → (int_eq (int_rem x y) (pos 0) ≡ true) ⊎ (is_below_zero (x *ℤ y) ≡ false)
else_exact (pos a) (pos b) e = inr refl
else_exact (pos a) (negsuc b) e = inl (is_zero (a % suc b) e)
else_exact (negsuc a) (pos b) e =
    let f : int_lt (neg_ℤ (pos (suc a % b))) (pos 0) ≡ false = rw (none_below_zero b) at e in inl (not_below_zero (suc a % b) f)
else_exact (negsuc a) (negsuc b) e = inr refl

pub modulo_truncated_up : (x y : ℤ) → y ≢ pos 0 → is_truncated_up (int_rem x y) y ≡ true → modulo x y ≡ int_rem x y +ℤ y
modulo_truncated_up x y d e = let u = up_is_inexact x y d e in floor_is_below x y u.0 u.1

pub modulo_elsewhere : (x y : ℤ) → is_truncated_up (int_rem x y) y ≡ false → modulo x y ≡ int_rem x y
modulo_elsewhere x y e = elim (else_exact x y e) [ inl h ↦ floor_is_exact x y h | inr h ↦ floor_is_truncated x y h ]

pub size_positive : (y : ℤ) → y ≢ pos 0 → 0 < unsigned_abs y
size_positive (pos b) d = not_zero b d
size_positive (negsuc b) d = omega arith

-- a sum of small numbers stays as it is in 128 bits
within : (z : ℤ) (n : ℕ) → unsigned_abs z ≤ n → (neg_ℤ (pos n) ≤ℤ z) × (z ≤ℤ pos n)
within (pos a) n h = (omega (arith, ints, h), omega (arith, ints, h))
within (negsuc a) n h = (omega (arith, ints, h), omega (arith, ints, h))

pub sum_stays : (r y : ℤ) → unsigned_abs r ≤ 2 ^ 63 → unsigned_abs y ≤ 2 ^ 63 → to_z w128 (of_z w128 (r +ℤ y)) ≡ r +ℤ y
sum_stays r y f g = let a = within r (2 ^ 63) f in let b = within y (2 ^ 63) g in omega (arith, ints, a.0, a.1, b.0, b.1)
