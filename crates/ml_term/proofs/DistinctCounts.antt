-- How many different numbers a list has.
use Rattle.std.specs.Prelude.{◌≡◌, ◌≢◌, ℕ, ◌+◌, ◌<◌, ◌≤◌, true, false, Bool, ◌||◌, ◌==◌, cond, if◌then◌else◌, List, [], ◌∷◌, ◌++◌}
use Rattle.std.proofs.Common.{refl, arith}
use Rattle.std.proofs.lemmas.Bool.Decides.{eqb_tells}
use Rattle.ml_term.specs.Tree.{has}
use Rattle.ml_term.specs.Unify.{distinct_count}

-- n is a member
abbrev pub In : ℕ → List ℕ → Type 0
In n ms = has n ms ≡ true

-- the list without a number
abbrev pub less : ℕ → List ℕ → List ℕ
less n [] = []
less n (m ∷ ms) = cond (m == n) (less n ms) (m ∷ less n ms)

pub has_append : (n : ℕ) (xs ys : List ℕ) → has n (xs ++ ys) ≡ has n xs || has n ys
has_append n [] ys = refl
has_append n (x ∷ xs) ys = or (x == n) (has_append n xs ys)
  where
    or : (b : Bool) → has n (xs ++ ys) ≡ has n xs || has n ys → (b || has n (xs ++ ys)) ≡ ((b || has n xs) || has n ys)
    or true e = refl
    or false e = e

pub in_less : (k n : ℕ) (xs : List ℕ) → In k xs → k ≢ n → In k (less n xs)
in_less k n [] h d = h
in_less k n (x ∷ xs) h d = grind (arith, eqb_tells x n, eqb_tells x k, in_less k n xs)

pub less_out : (n : ℕ) (xs : List ℕ) → has n xs ≡ false → less n xs ≡ xs
less_out n [] h = refl
less_out n (x ∷ xs) h = grind (arith, eqb_tells x n, less_out n xs)

pub has_less : (k n : ℕ) (xs : List ℕ) → k ≢ n → has k (less n xs) ≡ has k xs
has_less k n [] d = refl
has_less k n (x ∷ xs) d = grind (arith, eqb_tells x n, eqb_tells x k, has_less k n xs)

pub distinct_less : (n : ℕ) (xs : List ℕ) → In n xs → distinct_count xs ≡ 1 + distinct_count (less n xs)
distinct_less n [] h = cc
distinct_less n (x ∷ xs) h = grind (arith, eqb_tells x n, less_out n xs, has_less x n xs, distinct_less n xs)

pub in_tail : (k y : ℕ) (ys : List ℕ) → In k ys → In k (y ∷ ys)
in_tail k y ys h = grind (arith, eqb_tells y k, h)

pub in_head : (y : ℕ) (ys : List ℕ) → In y (y ∷ ys)
in_head y ys = grind (arith, eqb_tells y y)

apart : (k y : ℕ) (ys : List ℕ) → has y ys ≡ false → In k ys → k ≢ y
apart k y ys f h e = cc

within_step : (y : ℕ) (ys xs : List ℕ) (b : Bool) → has y ys ≡ b → ((k : ℕ) → In k (y ∷ ys) → In k xs)
    → (((k : ℕ) → In k ys → In k xs) → distinct_count ys ≤ distinct_count xs)
    → (((k : ℕ) → In k ys → In k (less y xs)) → distinct_count ys ≤ distinct_count (less y xs))
    → (if b then 0 else 1) + distinct_count ys ≤ distinct_count xs
within_step y ys xs true e h a b = omega (arith, a (λ k i. h k (in_tail k y ys i)))
within_step y ys xs false e h a b =
    omega (arith, distinct_less y xs (h y (in_head y ys)), b (λ k i. in_less k y xs (h k (in_tail k y ys i)) (apart k y ys e i)))

pub distinct_within : (ys xs : List ℕ) → ((k : ℕ) → In k ys → In k xs) → distinct_count ys ≤ distinct_count xs
distinct_within [] xs h = omega arith
distinct_within (y ∷ ys) xs h = within_step y ys xs (has y ys) refl h (distinct_within ys xs) (distinct_within ys (less y xs))

pub distinct_below : (n : ℕ) (ys xs : List ℕ) → ((k : ℕ) → In k ys → In k xs × (k ≢ n)) → In n xs → distinct_count ys < distinct_count xs
distinct_below n ys xs h m = omega (arith, distinct_less n xs m, distinct_within ys (less n xs) (λ k i. in_less k n xs (h k i).0 (h k i).1))
