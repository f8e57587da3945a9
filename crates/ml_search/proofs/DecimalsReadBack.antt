-- Numbers in decimal are read back.
use Rattle.std.specs.Prelude.{◌≡◌, ℕ, zero, suc, ◌+◌, ◌-◌, ◌*◌, ◌/◌, ◌%◌, ◌^◌, ◌<◌, ◌≤◌, nat_lt, Bool, true, false, cond, List, [], ◌∷◌, ◌++◌, take}
use Rattle.std.specs.List.{list_all, prefix_len}
use Rattle.std.proofs.Common.{refl, ap, ◌∙◌, arith}
use Rattle.std.proofs.lemmas.Bool.{ltb-true, ltb-false}
use Rattle.std.proofs.lemmas.List.Folds.{list_all-append}
use Rattle.std.proofs.Math.Nat.{pow-suc}
use Rattle.ml_term.specs.Decimal.{digits_of, decimal_text}
use Rattle.ml_term.specs.Text.{is_digit}
use Rattle.ml_search.specs.Printed.{digits, number_from, is_number}
use Rattle.ml_search.proofs.LinesOfBytes.{first_holds, second_holds}

digit_passes : (n : ℕ) → n < 10 → is_digit (48 + n) ≡ true
digit_passes zero h = refl
digit_passes (suc zero) h = refl
digit_passes (suc (suc zero)) h = refl
digit_passes (suc (suc (suc zero))) h = refl
digit_passes (suc (suc (suc (suc zero)))) h = refl
digit_passes (suc (suc (suc (suc (suc zero))))) h = refl
digit_passes (suc (suc (suc (suc (suc (suc zero)))))) h = refl
digit_passes (suc (suc (suc (suc (suc (suc (suc zero))))))) h = refl
digit_passes (suc (suc (suc (suc (suc (suc (suc (suc zero)))))))) h = refl
digit_passes (suc (suc (suc (suc (suc (suc (suc (suc (suc zero))))))))) h = refl
digit_passes (suc (suc (suc (suc (suc (suc (suc (suc (suc (suc n)))))))))) h = absurd (omega arith)

pub digits_pass : (k n : ℕ) → list_all is_digit (digits_of k n) ≡ true
digits_pass zero n = refl
digits_pass (suc k) n = by (digits_pass k (n / 10)) (nat_lt n 10) refl
  where
    by : list_all is_digit (digits_of k (n / 10)) ≡ true → (c : Bool) → nat_lt n 10 ≡ c →
        list_all is_digit (cond c ((48 + n) ∷ []) (digits_of k (n / 10) ++ (48 + n % 10) ∷ [])) ≡ true
    by further true e = rw (digit_passes n (ltb-true n 10 e)) refl
    by further false e = rw (list_all-append is_digit (digits_of k (n / 10)) ((48 + n % 10) ∷ []), further, digit_passes (n % 10) (omega arith)) refl

-- digits before something else are found
pub digits_found : (ds rest : List ℕ) → list_all is_digit ds ≡ true → prefix_len is_digit rest ≡ 0 → digits (ds ++ rest) ≡ ds
digits_found [] rest h e = rw e refl
digits_found (d ∷ ds) rest h e =
    rw (first_holds (is_digit d) (list_all is_digit ds) h)
    (ap (λ n. take n (d ∷ ds ++ rest)) one_more ∙ ap (λ xs. d ∷ xs) (digits_found ds rest (second_holds (is_digit d) (list_all is_digit ds) h) e))
  where
    one_more : 1 + prefix_len is_digit (ds ++ rest) ≡ suc (prefix_len is_digit (ds ++ rest))
    one_more = omega arith

number_in_parts : (m : ℕ) (xs ys : List ℕ) → number_from m (xs ++ ys) ≡ number_from (number_from m xs) ys
number_in_parts m [] ys = refl
number_in_parts m (x ∷ xs) ys = number_in_parts (10 * m + (x - 48)) xs ys

number_read : (k n : ℕ) → n < 10 ^ k → number_from 0 (digits_of k n) ≡ n
number_read zero n h = omega arith
number_read (suc k) n h = by (number_read k (n / 10)) (nat_lt n 10) refl
  where
    by : (n / 10 < 10 ^ k → number_from 0 (digits_of k (n / 10)) ≡ n / 10) → (c : Bool) → nat_lt n 10 ≡ c →
        number_from 0 (cond c ((48 + n) ∷ []) (digits_of k (n / 10) ++ (48 + n % 10) ∷ [])) ≡ n
    by further true e = omega arith
    by further false e = number_in_parts 0 (digits_of k (n / 10)) ((48 + n % 10) ∷ []) ∙ omega (arith, further (omega (arith, pow-suc 10 k)))

more_digits : (xs ys : List ℕ) → is_number xs ≡ true → is_number (xs ++ ys) ≡ true
more_digits [] ys h = grind (arith, h)
more_digits (x ∷ xs) ys h = h

no_leading_zero : (k n : ℕ) → 1 ≤ n → n < 10 ^ k → is_number (digits_of k n) ≡ true
no_leading_zero zero n l h = absurd (omega arith)
no_leading_zero (suc k) n l h = by (no_leading_zero k (n / 10)) (nat_lt n 10) refl
  where
    by : (1 ≤ n / 10 → n / 10 < 10 ^ k → is_number (digits_of k (n / 10)) ≡ true) → (c : Bool) → nat_lt n 10 ≡ c →
        is_number (cond c ((48 + n) ∷ []) (digits_of k (n / 10) ++ (48 + n % 10) ∷ [])) ≡ true
    by further true e = grind (arith, l)
    by further false e = more_digits (digits_of k (n / 10)) ((48 + n % 10) ∷ []) (further (omega (arith, ltb-false n 10 e)) (omega (arith, pow-suc 10 k)))

-- what holds of numbers that sessions and goals have
pub decimal_is_number : (n : ℕ) → 1 ≤ n → n < 10000000000 → is_number (decimal_text n) ≡ true
decimal_is_number n l h = no_leading_zero 20 n l (omega arith)

pub decimal_read : (n : ℕ) → n < 10000000000 → number_from 0 (decimal_text n) ≡ n
decimal_read n h = number_read 20 n (omega arith)
