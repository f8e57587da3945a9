-- Variables that are met in order are those of a term numbered from 0.
use Rattle.std.specs.Prelude.{◌≡◌, ℕ, ◌+◌, ◌<◌, ◌≤◌, ◌==◌, nat_lt, nat_le, Bool, true, false, ◌&&◌, cond, List, [], ◌∷◌, ◌++◌}
use Rattle.std.proofs.Common.{refl, ap, ◌∙◌, arith, inl, inr}
use Rattle.std.proofs.lemmas.Bool.{le-leb, lt-leb, lt-ltb, le-ltb, ne_eqb, cases_lt}
use Rattle.std.proofs.lemmas.Bool.Decides.{nat_tests, eqb_tells}
use Rattle.ml_term.specs.Tree.{firsts, without, counts_from}
use Rattle.ml_term.specs.FirstDefect.{met_after_variable}
use Rattle.ml_term.specs.inside.Reading.{met_after_variables, are_in_order}

pub met_with_most : (met n : ℕ) → met_after_variable met n ≤ met + 1
met_with_most met n = by (n == met)
  where
    by : (b : Bool) → cond b (met + 1) met ≤ met + 1
    by true = omega arith
    by false = omega arith

pub met_after-append : (met : ℕ) (ms ns : List ℕ) → met_after_variables met (ms ++ ns) ≡ met_after_variables (met_after_variables met ms) ns
met_after-append met [] ns = refl
met_after-append met (m ∷ ms) ns = met_after-append (met_after_variable met m) ms ns

pub in_order-append : (met : ℕ) (ms ns : List ℕ) → are_in_order met (ms ++ ns) ≡ (are_in_order met ms && are_in_order (met_after_variables met ms) ns)
in_order-append met [] ns = refl
in_order-append met (m ∷ ms) ns = rw (in_order-append (met_after_variable met m) ms ns) (by (nat_le m met))
  where
    by : (b : Bool) → (b && (are_in_order (met_after_variable met m) ms && are_in_order (met_after_variables (met_after_variable met m) ms) ns))
        ≡ ((b && are_in_order (met_after_variable met m) ms) && are_in_order (met_after_variables (met_after_variable met m) ms) ns)
    by true = refl
    by false = refl

-- a list without the numbers below one
abbrev from : ℕ → List ℕ → List ℕ
from low [] = []
from low (n ∷ ns) = cond (nat_lt n low) (from low ns) (n ∷ from low ns)

from_without_lower : (low n : ℕ) (ns : List ℕ) → n < low → from low (without n ns) ≡ from low ns
from_without_lower low n [] h = refl
from_without_lower low n (m ∷ ns) h = elim (eqb_tells m n) [
  | inl q ↦ let below : nat_lt m low ≡ true = lt-ltb m low (omega (arith, q.1)) in rw (q.0, below) (from_without_lower low n ns h)
  | inr q ↦ rw (q.0, from_without_lower low n ns h) refl
]

from_without_lowest : (low : ℕ) (ns : List ℕ) → from low (without low ns) ≡ from (low + 1) ns
from_without_lowest low [] = refl
from_without_lowest low (m ∷ ns) = elim (eqb_tells m low) [
  | inl q ↦ let below : nat_lt m (low + 1) ≡ true = lt-ltb m (low + 1) (omega (arith, q.1)) in rw (q.0, below) (from_without_lowest low ns)
  | inr q ↦ let same : nat_lt m low ≡ nat_lt m (low + 1) = grind (arith, nat_tests, q.1) in rw (q.0, same, from_without_lowest low ns) refl
]

from_zero : (ns : List ℕ) → from 0 ns ≡ ns
from_zero [] = refl
from_zero (n ∷ ns) = let e : nat_lt n 0 ≡ false = le-ltb n 0 (omega arith) in rw (e, from_zero ns) refl

known : (met n : ℕ) (ns : List ℕ) → n < met → are_in_order met ns ≡ counts_from met (from met (firsts ns))
    → (nat_le n met && are_in_order (met_after_variable met n) ns) ≡ counts_from met (from met (n ∷ without n (firsts ns)))
known met n ns low others =
    let a : nat_le n met ≡ true = le-leb n met (omega arith) in
    let b : (n == met) ≡ false = ne_eqb n met (λ e. omega (arith, e)) in
    let c : nat_lt n met ≡ true = lt-ltb n met low in
    rw (a, b, c, from_without_lower met n (firsts ns) low) others

new : (met n : ℕ) (ns : List ℕ) → (n == met) ≡ true → n ≡ met → are_in_order (met + 1) ns ≡ counts_from (met + 1) (from (met + 1) (firsts ns))
    → (nat_le n met && are_in_order (met_after_variable met n) ns) ≡ counts_from met (from met (n ∷ without n (firsts ns)))
new met n ns q e others =
    let a : nat_le n met ≡ true = le-leb n met (omega (arith, e)) in
    let c : nat_lt n met ≡ false = le-ltb n met (omega (arith, e)) in
    let w : from met (without n (firsts ns)) ≡ from (met + 1) (firsts ns) =
    ap (λ k. from met (without k (firsts ns))) e ∙ from_without_lowest met (firsts ns) in
    let one : met + 1 ≡ 1 + met = omega arith in
    rw (a, q, c, q, w) (others ∙ ap (λ k. counts_from k (from (met + 1) (firsts ns))) one)

later : (met n : ℕ) (ns : List ℕ) → met < n → (nat_le n met && are_in_order (met_after_variable met n) ns)
    ≡ counts_from met (from met (n ∷ without n (firsts ns)))
later met n ns high =
    let a : nat_le n met ≡ false = lt-leb n met high in
    let b : (n == met) ≡ false = ne_eqb n met (λ e. omega (arith, e)) in
    let c : nat_lt n met ≡ false = le-ltb n met (omega arith) in
    rw (a, c, b) refl

in_order_from : (met : ℕ) (ns : List ℕ) → are_in_order met ns ≡ counts_from met (from met (firsts ns))
in_order_from met [] = refl
in_order_from met (n ∷ ns) = elim (cases_lt n met) [
  | inl low ↦ known met n ns low (in_order_from met ns)
  | inr high ↦ elim (eqb_tells n met) [ inl q ↦ new met n ns q.0 q.1 (in_order_from (met + 1) ns) | inr q ↦ later met n ns (omega (arith, q.1)) ]
]

-- a term's variables are numbered from 0 by first place exactly where each is at most the number of those met before
pub in_order_is_numbered : (ns : List ℕ) → are_in_order 0 ns ≡ counts_from 0 (firsts ns)
in_order_is_numbered ns = in_order_from 0 ns ∙ ap (counts_from 0) (from_zero (firsts ns))
