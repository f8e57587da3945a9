-- The table of variables that a line met: what it says of one of them, and what it says with one more.
use Rattle.std.specs.Prelude.{◌≡◌, ◌≢◌, ℕ, ◌+◌, true, false, Bool, cond, ◌⊎◌, List, [], ◌∷◌, ◌++◌, length, Some, None}
use Rattle.std.proofs.Common.{inl, inr, refl, sym, ap, ◌∙◌, subst, arith, append-nil}
use Rattle.std.proofs.lemmas.Bool.{eq-eqb}
use Rattle.std.proofs.lemmas.Bool.Decides.{eqb_tells, nat_tests}
use Rattle.std.specs.BTreeMap.{BTreeMap, get, IsOrdered, Updates, is_at}
use Rattle.std.specs.Ordering.{nat_cmp}
use Rattle.ml_term.specs.Tree.{has, firsts, place_in}
use Rattle.ml_term.specs.Text.{number_in}
use Rattle.ml_term.proofs.DistinctCounts.{In, has_append}
use Rattle.ml_writer.specs.inside.MetTable.{number_if_met, IsMetTable}
use Rattle.ml_writer.proofs.FirstPlaces.{place_in_front, firsts_one_more}

-- one that was met has its number, and is met again
pub record WasMet (met : List ℕ) (n k : ℕ) : Type 0 where
  pub number : k ≡ number_in (firsts (met ++ n ∷ [])) n
  pub same : met ≡ firsts (met ++ n ∷ [])

met_again : (met : List ℕ) (n : ℕ) → firsts met ≡ met → In n met → firsts (met ++ n ∷ []) ≡ met
met_again met n once h = firsts_one_more n met ∙ (ap (λ b. firsts met ++ cond b [] (n ∷ [])) h ∙ (append-nil (firsts met) ∙ once))

pub was_met : (met : List ℕ) (n k : ℕ) → firsts met ≡ met → number_if_met met n ≡ Some k → WasMet met n k
was_met met n k once found = by_test (has n met) refl
  where
    by_test : (b : Bool) → has n met ≡ b → WasMet met n k
    by_test true h =
        let again : firsts (met ++ n ∷ []) ≡ met = met_again met n once h in
        let number : number_in met n ≡ k = cc (ap (λ b. cond b (Some (number_in met n)) None) h, found) in
        record { number = sym (ap (λ z. number_in z n) again ∙ number); same = sym again }
    by_test false h = absurd (cc (ap (λ b. cond b (Some (number_in met n)) None) h, found))

pub not_met : (met : List ℕ) (n : ℕ) → number_if_met met n ≡ None → has n met ≡ false
not_met met n found = by_test (has n met) refl
  where
    by_test : (b : Bool) → has n met ≡ b → b ≡ false
    by_test true h = absurd (cc (ap (λ b. cond b (Some (number_in met n)) None) h, found))
    by_test false h = refl

pub met_first : (met : List ℕ) (n : ℕ) → firsts met ≡ met → has n met ≡ false → firsts (met ++ n ∷ []) ≡ met ++ n ∷ []
met_first met n once h = firsts_one_more n met ∙ (ap (λ b. firsts met ++ cond b [] (n ∷ [])) h ∙ ap (λ z. z ++ n ∷ []) once)

place_behind : (n : ℕ) (xs ys : List ℕ) → has n xs ≡ false → place_in (xs ++ n ∷ ys) n ≡ length xs
place_behind n [] ys h = rw (eq-eqb n n refl) refl
place_behind n (x ∷ xs) ys h = elim (eqb_tells x n) [ inl q ↦ absurd (cc (rw q.0 at h)) | inr q ↦ rw q.0 (omega (arith, place_behind n xs ys (rw q.0 at h))) ]

pub first_number : (met : List ℕ) (n : ℕ) → has n met ≡ false → number_in (met ++ n ∷ []) n ≡ length met + 1
first_number met n h = omega (arith, place_behind n met [] h)

is_at_tells : (n q : ℕ) → ((is_at (nat_cmp n) q ≡ true) × (n ≡ q)) ⊎ ((is_at (nat_cmp n) q ≡ false) × (n ≢ q))
is_at_tells n q = grind (arith, nat_tests, eqb_tells n q)

-- what is found with one more
found_with : (met : List ℕ) (n q : ℕ) → has n met ≡ false
    → number_if_met (met ++ n ∷ []) q ≡ cond (is_at (nat_cmp n) q) (Some (length met + 1)) (number_if_met met q)
found_with met n q h = elim (is_at_tells n q) [
  | inl e ↦ rw e.0 (subst (λ z. number_if_met (met ++ n ∷ []) z ≡ Some (length met + 1)) e.1 itself)
  | inr e ↦ rw e.0 (another e.1)
]
  where
    itself : number_if_met (met ++ n ∷ []) n ≡ Some (length met + 1)
    itself =
        let there : has n (met ++ n ∷ []) ≡ true = has_append n met (n ∷ []) ∙ rw (h, eq-eqb n n refl) refl in
        rw there (ap Some (first_number met n h))

    another : n ≢ q → number_if_met (met ++ n ∷ []) q ≡ number_if_met met q
    another d = by_test (has q met) refl
      where
        same : has q (met ++ n ∷ []) ≡ has q met
        same = has_append q met (n ∷ []) ∙ grind (arith, eqb_tells n q)

        by_test : (b : Bool) → has q met ≡ b → number_if_met (met ++ n ∷ []) q ≡ number_if_met met q
        by_test true i = rw (same, i) (ap (λ k. Some (1 + k)) (place_in_front q met (n ∷ []) i))
        by_test false i = rw (same, i) refl

-- the table with one more
pub with_one_more : (met : List ℕ) (numbers more : BTreeMap ℕ ℕ) (n k : ℕ) → IsMetTable met numbers → has n met ≡ false → k ≡ length met + 1
    → Updates nat_cmp numbers more n (Some k) → IsOrdered nat_cmp more → IsMetTable (met ++ n ∷ []) more
with_one_more met numbers more n k table h e updates ordered = record {
  once = met_first met n table.once h;
  found = λ q. updates.0 q
      ∙ (ap (λ z. cond (is_at (nat_cmp n) q) (Some z) (get nat_cmp numbers q)) e
      ∙ (ap (λ z. cond (is_at (nat_cmp n) q) (Some (length met + 1)) z) (table.found q) ∙ sym (found_with met n q h)));
  ordered = ordered;
}
