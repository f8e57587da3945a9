-- The first of some prefixes that pass a test.
use Rattle.std.proofs.Common.{◌≡◌, ◌≢◌, ℕ, ◌<◌, ◌+◌, Bool, true, false, cond, List, [], ◌∷◌, length, take, get_or, refl, sym, ap, ◌∙◌, subst, Some, None, inl, inr}
use Rattle.std.specs.Prelude.{Option, option_map, ◌&&◌, ◌||◌}
use Rattle.std.specs.List.{list_any}
use Rattle.std.specs.Ordering.{bool_cmp, is_lt, is_eq}
use Rattle.std.specs.declared.cmp.Ordering.{Ordering}
use Rattle.std.specs.declared.cmp.Ordering.TheVariants.{Less, Equal, Greater}
use Rattle.std.specs.Cmp.{bool_cmp_total, eq_by_cmp_equiv}
use Rattle.std.specs.Cmp.Lexicographic.{slice_cmp, lists_total}
use Rattle.std.proofs.lemmas.List.Folds.{list_any_more}
use Rattle.ml_locks.specs.Changes.{is_needed}
use Rattle.ml_locks.specs.Modes.{same_bits}
use Rattle.ml_locks.specs.Requests.{IsFirst}
use Rattle.ml_locks.specs.inside.Waiting.{is_first}
use Rattle.ml_locks.proofs.Oldest.{passes_either, first_passes, second_passes, never}
use Rattle.ml_locks.proofs.StoredModes.{same_prefix, two_true}

less_of : (o : Ordering) → is_lt o ≡ true → o ≡ Less
less_of Less e = refl
less_of Equal e = cc
less_of Greater e = cc

not_less : (o : Ordering) → is_lt o ≡ false → o ≡ Less → ⊥
not_less Less e f = cc
not_less Equal e f = cc
not_less Greater e f = cc

equal_not_less : (o : Ordering) → is_eq o ≡ true → o ≡ Less → ⊥
equal_not_less Less e f = cc
equal_not_less Equal e f = cc
equal_not_less Greater e f = cc

pub same_itself : (u : List Bool) → same_bits u u ≡ true
same_itself u = (eq_by_cmp_equiv (lists_total bool_cmp_total)).refl u

left_fails : (a : Bool) → (a && true) ≡ false → a ≡ false
left_fails true e = e
left_fails false e = refl

right_fails : (a b : Bool) → (a && b) ≡ false → a ≡ true → b ≡ false
right_fails true b e f = e
right_fails false b e f = cc

abbrev is_before : List Bool → Option (List Bool) → Bool
is_before p None = true
is_before p (Some q) = is_lt (slice_cmp bool_cmp p q)

module _ (test : List Bool → Bool) where
  -- nothing that is needed passes
  pub none_passes : (us : List (List Bool)) → IsFirst test us None → list_any test us ≡ false
  none_passes [] h = refl
  none_passes (u ∷ us) h = both (test u) (h u (first_passes (same_bits u u) (is_needed us u) (same_itself u)))
      (none_passes us (λ v n. h v (second_passes (same_bits v u) (is_needed us v) n)))
    where
      both : (b : Bool) → b ≡ false → list_any test us ≡ false → (b || list_any test us) ≡ false
      both true e f = cc
      both false e f = f

  module _ (us vs : List (List Bool)) (p : List Bool) (more : (u : List Bool) → is_needed vs u ≡ (is_needed us u || same_bits u p)) where
    below : (r : Option (List Bool)) → is_before p r ≡ true → IsFirst test us r → (u : List Bool) → is_needed us u ≡ true → test u ≡ true
        → slice_cmp bool_cmp u p ≡ Less → ⊥
    below None b h u n t l = never (test u) (h u n) t
    below (Some q) b h u n t l = h.2 u n t ((lists_total bool_cmp_total).trans u p q l (less_of _ b))

    taken : (r : Option (List Bool)) → test p ≡ true → is_before p r ≡ true → IsFirst test us r → IsFirst test vs (Some p)
    taken r t b h = (
      more p ∙ second_passes (is_needed us p) (same_bits p p) (same_itself p),
      t,
      λ u n passes.
          elim (passes_either (is_needed us u) (same_bits u p) (sym (more u) ∙ n)) as (λ _. slice_cmp bool_cmp u p ≢ Less) [
            | inl e ↦ below r b h u e passes
            | inr e ↦ equal_not_less _ e
          ],
    )

    left : (r : Option (List Bool)) → (test p && is_before p r) ≡ false → IsFirst test us r → IsFirst test vs r
    left None b h = λ u n. elim (passes_either (is_needed us u) (same_bits u p) (sym (more u) ∙ n)) [
      | inl e ↦ h u e
      | inr e ↦ ap test (same_prefix u p e) ∙ left_fails (test p) b
    ]
    left (Some q) b h = (
      more q ∙ first_passes (is_needed us q) (same_bits q p) h.0,
      h.1,
      λ u n passes.
          elim (passes_either (is_needed us u) (same_bits u p) (sym (more u) ∙ n)) as (λ _. slice_cmp bool_cmp u q ≢ Less) [
            | inl e ↦ h.2 u e passes
            | inr e ↦ let same = same_prefix u p e in
                subst (λ v. slice_cmp bool_cmp v q ≢ Less) (sym same) (not_less _ (right_fails (test p) _ b (ap test (sym same) ∙ passes)))
          ],
    )

    -- one more prefix
    pub first_more : (r : Option (List Bool)) (b : Bool) → b ≡ (test p && is_before p r) → IsFirst test us r → IsFirst test vs (cond b (Some p) r)
    first_more r true e h = let both = two_true (test p) (is_before p r) (sym e) in taken r both.0 both.1 h
    first_more r false e h = left r (sym e) h

-- the prefix at a place that was found
abbrev pub found_in : List (List Bool) → Option ℕ → Option (List Bool)
found_in us first = option_map (λ j. get_or us j []) first

over_found : (us : List (List Bool)) (b : Bool) (i : ℕ) (r : Option ℕ) → found_in us (cond b (Some i) r) ≡ cond b (Some (get_or us i [])) (found_in us r)
over_found us true i r = refl
over_found us false i r = refl

before_is : (us : List (List Bool)) (i : ℕ) (r : Option ℕ) → is_first us i r ≡ is_before (get_or us i []) (found_in us r)
before_is us i None = refl
before_is us i (Some j) = refl

-- a step of the loop that looks for the first one
pub first_step : (test : List Bool → Bool) (us : List (List Bool)) (i : ℕ) (r : Option ℕ) → i < length us → IsFirst test (take i us) (found_in us r)
    → IsFirst test (take (i + 1) us) (found_in us (cond (test (get_or us i []) && is_first us i r) (Some i) r))
first_step test us i r l h =
    let p = get_or us i [] in
    let b = test p && is_first us i r in
    subst (IsFirst test (take (i + 1) us)) (sym (over_found us b i r))
    (first_more test (take i us) (take (i + 1) us) p (λ u. list_any_more (same_bits u) us i [] l) (found_in us r) b (ap (λ x. test p && x)
    (before_is us i r)) h)

-- and of where it found it
pub found_within : (b : Bool) (i n : ℕ) (r : Option ℕ) → ((j : ℕ) → r ≡ Some j → j < n) → i < n → (j : ℕ) → cond b (Some i) r ≡ Some j → j < n
found_within true i n r h l j e = let same : i ≡ j = cc in subst (λ k. k < n) same l
found_within false i n r h l j e = h j e
