-- Variables that come in order are counted as they are met.
use Rattle.std.proofs.Common.{◌≡◌, ℕ, ◌+◌, ◌<◌, ◌≤◌, ◌≢◌, nat_lt, nat_le, true, false, ◌||◌, ◌&&◌, cond, List, [], ◌∷◌, ◌++◌, length, refl, sym, ap, ◌∙◌, arith, inl, inr, eq-eqb}
use Rattle.std.proofs.lemmas.Bool.{and_parts, leb-true, lt-ltb, le-ltb, ne_eqb}
use Rattle.std.proofs.lemmas.Bool.Decides.{nat_tests, eqb_tells}
use Rattle.std.proofs.lemmas.List.{append-nil}
use Rattle.ml_term.specs.Tree.{Tree, has, firsts, without, variables, width, is_numbered}
use Rattle.ml_term.specs.FirstDefect.{met_after_variable}
use Rattle.ml_term.specs.inside.Reading.{are_in_order, met_after_variables}
use Rattle.ml_term.proofs.VariablesInOrder.{met_after-append, in_order-append, in_order_is_numbered}
use Rattle.ml_search.specs.Program.{clause_term}

-- how many have been met after one more, by whether it is the next
module _ (met n : ℕ) where
  after_new : n ≡ met → met_after_variable met n ≡ met + 1
  after_new e = ap (λ b. cond b (met + 1) met) (eq-eqb n met e)

  after_known : n ≢ met → met_after_variable met n ≡ met
  after_known d = ap (λ b. cond b (met + 1) met) (ne_eqb n met d)

  pub after_variable_grows : met ≤ met_after_variable met n
  after_variable_grows = elim (eqb_tells n met) [ inl q ↦ omega (arith, after_new q.1) | inr q ↦ omega (arith, after_known q.1) ]

  after_variable_above : n ≤ met → n < met_after_variable met n
  after_variable_above low = elim (eqb_tells n met) [
    | inl q ↦ omega (arith, after_new q.1, q.1)
    | inr q ↦ let d : n ≢ met = q.1 in omega (arith, after_known d, d, low)
  ]

after_variables_grow : (met : ℕ) (ns : List ℕ) → met ≤ met_after_variables met ns
after_variables_grow met [] = omega arith
after_variables_grow met (n ∷ ns) = omega (arith, after_variable_grows met n, after_variables_grow (met_after_variable met n) ns)

-- each variable is below the count
below_count : (met : ℕ) (ns : List ℕ) (n : ℕ) → are_in_order met ns ≡ true → has n ns ≡ true → n < met_after_variables met ns
below_count met [] n o h = absurd (cc h)
below_count met (m ∷ ns) n o h =
    let parts = and_parts (nat_le m met) (are_in_order (met_after_variable met m) ns) o in
    elim (eqb_tells m n) [
      | inl q ↦
          let above = after_variable_above met m (leb-true m met parts.0) in
          omega (arith, above, after_variables_grow (met_after_variable met m) ns, q.1)
      | inr q ↦ below_count (met_after_variable met m) ns n parts.1 (sym (ap (λ b. b || has n ns) q.0) ∙ h)
    ]

-- a list without the numbers below one
abbrev from : ℕ → List ℕ → List ℕ
from low [] = []
from low (n ∷ ns) = cond (nat_lt n low) (from low ns) (n ∷ from low ns)

from_without_lower : (low n : ℕ) (ns : List ℕ) → n < low → from low (without n ns) ≡ from low ns
from_without_lower low n [] h = refl
from_without_lower low n (m ∷ ns) h = elim (eqb_tells m n) [
  | inl q ↦ let below : nat_lt m low ≡ true = lt-ltb m low (omega (arith, q.1)) in rw (q.0, below) (from_without_lower low n ns h)
  | inr q ↦ rw (q.0, from_without_lower low n ns h) refl
]

from_without_lowest : (low : ℕ) (ns : List ℕ) → from low (without low ns) ≡ from (low + 1) ns
from_without_lowest low [] = refl
from_without_lowest low (m ∷ ns) = elim (eqb_tells m low) [
  | inl q ↦ let below : nat_lt m (low + 1) ≡ true = lt-ltb m (low + 1) (omega (arith, q.1)) in rw (q.0, below) (from_without_lowest low ns)
  | inr q ↦ let same : nat_lt m low ≡ nat_lt m (low + 1) = grind (arith, nat_tests, q.1) in rw (q.0, same, from_without_lowest low ns) refl
]

from_zero : (ns : List ℕ) → from 0 ns ≡ ns
from_zero [] = refl
from_zero (n ∷ ns) = let e : nat_lt n 0 ≡ false = le-ltb n 0 (omega arith) in rw (e, from_zero ns) refl

-- the variables that are new are as many as the count grows by
new_ones : (met : ℕ) (ns : List ℕ) → are_in_order met ns ≡ true → met + length (from met (firsts ns)) ≡ met_after_variables met ns
new_ones met [] o = omega arith
new_ones met (n ∷ ns) o =
    let parts = and_parts (nat_le n met) (are_in_order (met_after_variable met n) ns) o in
    elim (eqb_tells n met) [
      | inl q ↦
          let here : nat_lt n met ≡ false = le-ltb n met (omega (arith, q.1)) in
          let more = after_new met n q.1 in
          let first : length (from met (n ∷ without n (firsts ns))) ≡ length (n ∷ from met (without n (firsts ns))) =
          ap (λ b. length (cond b (from met (without n (firsts ns))) (n ∷ from met (without n (firsts ns))))) here in
          let behind : from met (without n (firsts ns)) ≡ from (met + 1) (firsts ns) =
          ap (λ k. from met (without k (firsts ns))) q.1 ∙ from_without_lowest met (firsts ns) in
          let rest : length (from met (n ∷ without n (firsts ns))) ≡ 1 + length (from (met + 1) (firsts ns)) = omega (arith, first, ap length behind) in
          let others : met + 1 + length (from (met + 1) (firsts ns)) ≡ met_after_variables (met + 1) ns =
          new_ones (met + 1) ns (sym (ap (λ m. are_in_order m ns) more) ∙ parts.1) in
          omega (arith, rest, others, ap (λ m. met_after_variables m ns) more)
      | inr q ↦
          let low : n < met = let d : n ≢ met = q.1 in omega (arith, d, leb-true n met parts.0) in
          let more = after_known met n q.1 in
          let rest : length (from met (n ∷ without n (firsts ns))) ≡ length (from met (firsts ns)) =
          ap (λ b. length (cond b (from met (without n (firsts ns))) (n ∷ from met (without n (firsts ns))))) (lt-ltb n met low)
          ∙ ap length (from_without_lower met n (firsts ns) low) in
          let others : met + length (from met (firsts ns)) ≡ met_after_variables met ns = new_ones met ns (sym (ap (λ m. are_in_order m ns) more) ∙ parts.1) in
          omega (arith, rest, others, ap (λ m. met_after_variables m ns) more)
    ]

-- the variables of a clause: those of its head, and then those of its body
module _ (h b : Tree) (numbered : is_numbered (clause_term h b) ≡ true) where
  variables_of_clause : variables (clause_term h b) ≡ variables h ++ variables b
  variables_of_clause = ap (λ vs. variables h ++ vs) (append-nil (variables b))

  in_order : are_in_order 0 (variables (clause_term h b)) ≡ true
  in_order = in_order_is_numbered (variables (clause_term h b)) ∙ numbered

  pub head_in_order : are_in_order 0 (variables h) ≡ true
  head_in_order =
      let both : (are_in_order 0 (variables h) && are_in_order (met_after_variables 0 (variables h)) (variables b)) ≡ true =
      sym (ap (are_in_order 0) variables_of_clause ∙ in_order-append 0 (variables h) (variables b)) ∙ in_order in
      (and_parts (are_in_order 0 (variables h)) (are_in_order (met_after_variables 0 (variables h)) (variables b)) both).0

  count_of_clause : met_after_variables 0 (variables (clause_term h b)) ≡ met_after_variables (met_after_variables 0 (variables h)) (variables b)
  count_of_clause = ap (met_after_variables 0) variables_of_clause ∙ met_after-append 0 (variables h) (variables b)

  width_is_count : width (clause_term h b) ≡ met_after_variables 0 (variables (clause_term h b))
  width_is_count =
      let zero_more : 0 + length (from 0 (firsts (variables (clause_term h b)))) ≡ met_after_variables 0 (variables (clause_term h b)) =
      new_ones 0 (variables (clause_term h b)) in_order in
      omega (arith, zero_more, ap length (from_zero (firsts (variables (clause_term h b)))))

  pub width_of_clause : width (clause_term h b) ≡ met_after_variables (met_after_variables 0 (variables h)) (variables b)
  width_of_clause = width_is_count ∙ count_of_clause

  pub below_width : (n : ℕ) → has n (variables (clause_term h b)) ≡ true → n < width (clause_term h b)
  below_width n i = let low = below_count 0 (variables (clause_term h b)) n in_order i in omega (arith, low, width_is_count)
