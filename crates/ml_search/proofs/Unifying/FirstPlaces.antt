-- Variables that are met are the first places of all.
use Rattle.std.specs.Prelude.{◌≡◌, ◌≢◌, ℕ, zero, suc, ◌<◌, ◌==◌, Bool, true, false, ◌||◌, cond, List, [], ◌∷◌, ◌++◌, length}
use Rattle.std.specs.List.{list_all}
use Rattle.std.proofs.Common.{inl, inr, refl, sym, ap, ◌∙◌, arith, get_or, append_assoc}
use Rattle.std.proofs.lemmas.Bool.{and_parts, and_from, cases_Bool}
use Rattle.std.proofs.lemmas.Bool.Decides.{eqb_tells}
use Rattle.std.proofs.lemmas.List.{append-nil}
use Rattle.std.proofs.lemmas.List.Folds.{list_all-append}
use Rattle.ml_term.specs.Seen.{seen, all_seen}
use Rattle.ml_term.specs.Tree.{has, firsts, without, place_in, variables, variables_of, trees_of}
use Rattle.ml_term.specs.declared.term.Term.{Term}
use Rattle.ml_term.proofs.DistinctCounts.{In, has_append}
use Rattle.ml_term.proofs.RenamedTerms.{in_firsts, place_below}
use Rattle.ml_search.specs.inside.Meeting.{variables_met}

pub met_after-append : (met ms ns : List ℕ) → variables_met met (ms ++ ns) ≡ variables_met (variables_met met ms) ns
met_after-append met [] ns = refl
met_after-append met (m ∷ ms) ns = met_after-append (cond (has m met) met (met ++ m ∷ [])) ms ns

-- the place of a number tells whether it is there
pub no_place : (met : List ℕ) (n : ℕ) → has n met ≡ false → place_in met n ≡ length met
no_place [] n h = refl
no_place (m ∷ met) n h = elim (eqb_tells m n) [
  | inl q ↦ absurd (cc (found q.0 h))
  | inr q ↦ rw q.0 (omega (arith, no_place met n (rest q.0 h)))
]
  where
    found : (m == n) ≡ true → has n (m ∷ met) ≡ false → true ≡ false
    found e f = rw e at f

    rest : (m == n) ≡ false → has n (m ∷ met) ≡ false → has n met ≡ false
    rest e f = rw e at f

pub is_new : (met : List ℕ) (n : ℕ) → place_in met n ≡ length met → variables_met met (n ∷ []) ≡ met ++ n ∷ []
is_new met n e = by (has n met) refl
  where
    by : (b : Bool) → has n met ≡ b → cond (has n met) met (met ++ n ∷ []) ≡ met ++ n ∷ []
    by true h = absurd (omega (arith, e, place_below met n h))
    by false h = rw h refl

pub is_known : (met : List ℕ) (n : ℕ) → place_in met n ≢ length met → variables_met met (n ∷ []) ≡ met
is_known met n d = by (has n met) refl
  where
    by : (b : Bool) → has n met ≡ b → cond (has n met) met (met ++ n ∷ []) ≡ met
    by true h = rw h refl
    by false h = absurd (d (no_place met n h))

-- a list without the numbers of another
abbrev pub left_out : List ℕ → List ℕ → List ℕ
left_out met [] = []
left_out met (n ∷ ns) = cond (has n met) (left_out met ns) (n ∷ left_out met ns)

left_out_known : (met : List ℕ) (n : ℕ) (ns : List ℕ) → has n met ≡ true → left_out met (without n ns) ≡ left_out met ns
left_out_known met n [] h = refl
left_out_known met n (m ∷ ns) h = elim (eqb_tells m n) [
  | inl q ↦ let k : has m met ≡ true = ap (λ x. has x met) q.1 ∙ h in rw (q.0, k) (left_out_known met n ns h)
  | inr q ↦ rw (q.0, left_out_known met n ns h) refl
]

left_out_one_more : (met : List ℕ) (n : ℕ) (ns : List ℕ) → left_out (met ++ n ∷ []) ns ≡ left_out met (without n ns)
left_out_one_more met n [] = refl
left_out_one_more met n (m ∷ ns) = elim (eqb_tells m n) [
  | inl q ↦ let there : has m (met ++ n ∷ []) ≡ true = has_append m met (n ∷ []) ∙ last q.1 in rw (q.0, there) (left_out_one_more met n ns)
  | inr q ↦ let same : has m (met ++ n ∷ []) ≡ has m met = has_append m met (n ∷ []) ∙ others q.1 in rw (q.0, same, left_out_one_more met n ns) refl
]
  where
    last : m ≡ n → (has m met || has m (n ∷ [])) ≡ true
    last e = elim (eqb_tells n m) [ inl p ↦ rw p.0 (either (has m met)) | inr p ↦ absurd (p.1 (sym e)) ]
      where
        either : (b : Bool) → (b || true) ≡ true
        either true = refl
        either false = refl

    others : m ≢ n → (has m met || has m (n ∷ [])) ≡ has m met
    others d = elim (eqb_tells n m) [ inl p ↦ absurd (d (sym p.1)) | inr p ↦ rw p.0 (either (has m met)) ]
      where
        either : (b : Bool) → (b || false) ≡ b
        either true = refl
        either false = refl

pub met_then_others : (met ns : List ℕ) → variables_met met ns ≡ met ++ left_out met (firsts ns)
met_then_others met [] = sym (append-nil met)
met_then_others met (n ∷ ns) = elim (cases_Bool (has n met)) [
  | inl h ↦ rw (h, left_out_known met n (firsts ns) h) (met_then_others met ns)
  | inr h ↦ rw h
      (met_then_others (met ++ n ∷ []) ns ∙ append_assoc met (n ∷ []) (left_out (met ++ n ∷ []) (firsts ns))
      ∙ ap (λ xs. met ++ n ∷ xs) (left_out_one_more met n (firsts ns)))
]

none_left_out : (ns : List ℕ) → left_out [] ns ≡ ns
none_left_out [] = refl
none_left_out (n ∷ ns) = ap (λ xs. n ∷ xs) (none_left_out ns)

pub met_is_firsts : (ns : List ℕ) → variables_met [] ns ≡ firsts ns
met_is_firsts ns = met_then_others [] ns ∙ none_left_out (firsts ns)

-- each variable is among the first places
all_in : (p : ℕ → Bool) (ms : List ℕ) → ((n : ℕ) → In n ms → p n ≡ true) → list_all p ms ≡ true
all_in p [] h = refl
all_in p (m ∷ ms) h = and_from _ _ (h m (here m ms)) (all_in p ms (λ n i. h n (later n m ms i)))
  where
    here : (m : ℕ) (ms : List ℕ) → In m (m ∷ ms)
    here m ms = elim (eqb_tells m m) [ inl q ↦ rw q.0 refl | inr q ↦ absurd (q.1 refl) ]

    later : (n m : ℕ) (ms : List ℕ) → In n ms → In n (m ∷ ms)
    later n m ms i = elim (eqb_tells m n) [ inl q ↦ rw q.0 refl | inr q ↦ rw q.0 i ]

pub all_known : (ns : List ℕ) → list_all (λ n. has n (firsts ns)) ns ≡ true
all_known ns = all_in (λ n. has n (firsts ns)) ns (λ n i. in_firsts n ns i)

-- a fact of the variables of all arguments is one of each
pub known_at : (p : ℕ → Bool) (ts : List Term) (i : ℕ) (d : Term) → i < length ts → list_all p (variables_of (trees_of (all_seen ts))) ≡ true →
    list_all p (variables (seen (get_or ts i d))) ≡ true
known_at p [] i d low h = absurd (omega (arith, low))
known_at p (t ∷ ts) zero d low h = (and_parts _ _ (sym (list_all-append p (variables (seen t)) (variables_of (trees_of (all_seen ts)))) ∙ h)).0
known_at p (t ∷ ts) (suc i) d low h =
    known_at p ts i d (omega (arith, low)) (and_parts _ _ (sym (list_all-append p (variables (seen t)) (variables_of (trees_of (all_seen ts)))) ∙ h)).1

-- the variables of one argument more
pub variables_more : (ts : List Term) (t : Term) →
    variables_of (trees_of (all_seen (ts ++ t ∷ []))) ≡ variables_of (trees_of (all_seen ts)) ++ variables (seen t)
variables_more [] t = append-nil (variables (seen t))
variables_more (u ∷ ts) t =
    ap (λ b. variables (seen u) ++ b) (variables_more ts t)
    ∙ sym (append_assoc (variables (seen u)) (variables_of (trees_of (all_seen ts))) (variables (seen t)))
