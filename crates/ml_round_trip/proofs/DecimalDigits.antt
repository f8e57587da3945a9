-- Decimal numbers: their digits spell them, and there are not too many.
use Rattle.std.specs.Prelude.{◌≡◌, ℕ, zero, suc, ◌+◌, ◌-◌, ◌*◌, ◌/◌, ◌%◌, ◌^◌, ◌<◌, ◌≤◌, Bool, true, ◌&&◌, nat_lt, List, [], ◌∷◌, ◌++◌, length}
use Rattle.std.specs.List.{list_all}
use Rattle.std.proofs.Common.{refl, sym, ap, ◌∙◌, arith, length-append}
use Rattle.std.proofs.lemmas.Bool.{ltb-true}
use Rattle.std.proofs.lemmas.Bool.Decides.{nat_tests}
use Rattle.ml_token.specs.Bytes.{is_digit}
use Rattle.ml_token.specs.Number.{value_behind, value_of}
use Rattle.ml_term.specs.Decimal.{digits_of, decimal_text}
use Rattle.ml_round_trip.proofs.BooleanTests.{cond_cases, both, both_hold}

value_last : (m : ℕ) (ds : List ℕ) (d : ℕ) → value_behind m (ds ++ d ∷ []) ≡ value_behind m ds * 10 + (d - 48)
value_last m [] d = refl
value_last m (e ∷ ds) d = value_last (m * 10 + (e - 48)) ds d

last_digit : (n m : ℕ) → m ≡ n / 10 → m * 10 + (48 + n % 10 - 48) ≡ n
last_digit n m e = omega arith

tenth_below : (k n : ℕ) → n < 10 ^ suc k → n / 10 < 10 ^ k
tenth_below k n l = omega arith

value_digits : (k n : ℕ) → n < 10 ^ k → value_of (digits_of k n) ≡ n
value_digits zero n l = omega arith
value_digits (suc k) n l =
    cond_cases (λ ds. value_of ds ≡ n) (nat_lt n 10) _ _ (λ e. omega arith)
    (λ e. value_last 0 (digits_of k (n / 10)) (48 + n % 10) ∙ last_digit n (value_of (digits_of k (n / 10))) (value_digits k (n / 10) (tenth_below k n l)))

all_append : (p : ℕ → Bool) (xs ys : List ℕ) → list_all p xs ≡ true → list_all p ys ≡ true → list_all p (xs ++ ys) ≡ true
all_append p [] ys e f = f
all_append p (x ∷ xs) ys e f = let h = both (p x) (list_all p xs) e in both_hold (p x) (list_all p (xs ++ ys)) h.0 (all_append p xs ys h.1 f)

digit : (n : ℕ) → n < 10 → (is_digit (48 + n) && true) ≡ true
digit n l = grind (arith, nat_tests)

all_digits : (k n : ℕ) → list_all is_digit (digits_of k n) ≡ true
all_digits zero n = refl
all_digits (suc k) n =
    cond_cases (λ ds. list_all is_digit ds ≡ true) (nat_lt n 10) _ _ (λ e. digit n (ltb-true n 10 e))
    (λ e. all_append is_digit (digits_of k (n / 10)) ((48 + n % 10) ∷ []) (all_digits k (n / 10)) (digit (n % 10) (omega arith)))

few_digits : (k n : ℕ) → length (digits_of k n) ≤ k
few_digits zero n = omega arith
few_digits (suc k) n =
    cond_cases (λ ds. length ds ≤ suc k) (nat_lt n 10) _ _ (λ e. omega arith)
    (λ e. omega (arith, length-append (digits_of k (n / 10)) ((48 + n % 10) ∷ []), few_digits k (n / 10)))

some_digit : (k n : ℕ) → 1 ≤ length (digits_of (suc k) n)
some_digit k n =
    cond_cases (λ ds. 1 ≤ length ds) (nat_lt n 10) _ _ (λ e. omega arith) (λ e. omega (arith, length-append (digits_of k (n / 10)) ((48 + n % 10) ∷ [])))

-- what is known of the digits of a number
pub record IsDecimal (n : ℕ) (ds : List ℕ) : Type 0 where
  pub spells : value_of ds ≡ n
  pub digits : list_all is_digit ds ≡ true
  pub few : length ds ≤ 20
  pub some : 1 ≤ length ds

pub decimal_is : (n : ℕ) → n < 10 ^ 20 → IsDecimal n (decimal_text n)
decimal_is n l = record { spells = value_digits 20 n l; digits = all_digits 20 n; few = few_digits 20 n; some = some_digit 19 n }

pub decimal_apart : (m n : ℕ) → m < 10 ^ 20 → n < 10 ^ 20 → decimal_text m ≡ decimal_text n → m ≡ n
decimal_apart m n l k e = sym (value_digits 20 m l) ∙ (ap value_of e ∙ value_digits 20 n k)
