-- Items that rise in the order of their keys: where a tuple has its place, what is put there or taken out, and what the definitions say of it.
use Rattle.std.proofs.Common.{◌≡◌, ℕ, zero, suc, ◌+◌, ◌<◌, ◌≤◌, Bool, true, false, ◌||◌, ◌⊎◌, inl, inr, List, [], ◌∷◌, ◌++◌, length, refl, sym, ap, ◌∙◌, subst, arith}
use Rattle.std.specs.List.{insert, remove}
use Rattle.std.specs.Ordering.{ordering_reverse}
use Rattle.std.specs.declared.cmp.Ordering.{Ordering}
use Rattle.std.specs.declared.cmp.Ordering.TheVariants.{Less, Equal, Greater}
use Rattle.std.specs.Cmp.{IsTotalOrder, bool_cmp_total}
use Rattle.std.proofs.lemmas.Cmp.{on_total, lists_total, tied_itself}
use Rattle.std.proofs.lemmas.Bool.{and_parts, and_from}
use Rattle.ml_list_desk.proofs.SameTerms.{same_as_itself, same_is_equal}
use Rattle.ml_list_desk.specs.inside.ItemList.{item_with}
use Rattle.ml_list_desk.specs.Items.{items_seen}
use Rattle.ml_list_desk.specs.inside.Places.{IsPlace, Precedes, StandsAt}
use Rattle.ml_list_desk.specs.declared.list_item.ListItem.{ListItem}
use Rattle.ml_search.specs.Changes.{has_term, insert_by_key, without_term}
use Rattle.ml_search.specs.Db.{is_less, is_same, Item, rises}
use Rattle.ml_term.proofs.KeysTellTuples.{equal_bits, tuple_keys_tell}
use Rattle.ml_term.specs.Keys.{tuple_cmp, tuple_key}
use Rattle.ml_term.specs.Seen.{seen}
use Rattle.ml_term.specs.Tree.{Tree}
use Rattle.ml_term.specs.Valid.{is_valid}

is_less_tells : (o : Ordering) → is_less o ≡ true → o ≡ Less
is_less_tells Less e = refl
is_less_tells Equal e = cc
is_less_tells Greater e = cc

module _ (keys : List ℕ) where
  pub total : IsTotalOrder (tuple_cmp keys)
  total = on_total (tuple_key keys) (lists_total bool_cmp_total)

  pub less_back : (t u : Tree) → tuple_cmp keys t u ≡ Less → tuple_cmp keys u t ≡ Greater
  less_back t u e = total.antisymm u t ∙ ap ordering_reverse e

  pub greater_back : (t u : Tree) → tuple_cmp keys t u ≡ Greater → tuple_cmp keys u t ≡ Less
  greater_back t u e = total.antisymm u t ∙ ap ordering_reverse e

  never_less : (t u : Tree) → tuple_cmp keys t u ≡ Less → t ≡ u → ⊥
  never_less t u e f = let clash : Equal ≡ Less = sym (tied_itself total t) ∙ (ap (tuple_cmp keys t) f ∙ e) in cc

  -- terms that come one before the other aren't the same
  differs_after : (b : Bool) (t u : Tree) → is_same t u ≡ b → (t ≡ u → ⊥) → b ≡ false
  differs_after true t u e n = absurd (n (same_is_equal t u e))
  differs_after false t u e n = refl

  differs : (t u : Tree) → tuple_cmp keys t u ≡ Less → is_same t u ≡ false
  differs t u e = differs_after (is_same t u) t u refl (never_less t u e)

  differs_back : (t u : Tree) → tuple_cmp keys t u ≡ Less → is_same u t ≡ false
  differs_back t u e = differs_after (is_same u t) u t refl (λ q. never_less t u e (sym q))

  -- each item comes before those behind it
  abbrev pub Rising : List Item → Type 0
  Rising [] = Unit {0}
  Rising (i ∷ is) = Precedes keys i.term is × Rising is

  precedes_on : (t u : Tree) (is : List Item) → tuple_cmp keys t u ≡ Less → Precedes keys u is → Precedes keys t is
  precedes_on t u [] e p = tt
  precedes_on t u (i ∷ is) e p = (total.trans t u i.term e p.0, precedes_on t u is e p.1)

  pub rising_from : (is : List Item) → rises keys is ≡ true → Rising is
  rising_from [] e = tt
  rising_from (i ∷ []) e = (tt, tt)
  rising_from (i ∷ j ∷ is) e =
      let parts = and_parts (is_less (tuple_cmp keys i.term j.term)) (rises keys (j ∷ is)) e in
      let first : tuple_cmp keys i.term j.term ≡ Less = is_less_tells _ parts.0 in
      let rest : Rising (j ∷ is) = rising_from (j ∷ is) parts.1 in
      ((first, precedes_on i.term j.term is first rest.0), rest)

  pub rises_from : (is : List Item) → Rising is → rises keys is ≡ true
  rises_from [] r = refl
  rises_from (i ∷ []) r = refl
  rises_from (i ∷ j ∷ is) r = and_from (is_less (tuple_cmp keys i.term j.term)) (rises keys (j ∷ is)) (ap is_less r.0.0) (rises_from (j ∷ is) r.1)

  -- ---- an item at the place of its tuple

  precedes_inserted : (t : Tree) (is : List Item) (n : ℕ) (x : Item) → Precedes keys t is → tuple_cmp keys t x.term ≡ Less → Precedes keys t (insert is n x)
  precedes_inserted t is zero x p e = (e, p)
  precedes_inserted t [] (suc n) x p e = (e, tt)
  precedes_inserted t (i ∷ is) (suc n) x p e = (p.0, precedes_inserted t is n x p.1 e)

  pub rising_inserted : (is : List Item) (n : ℕ) (x : Item) → Rising is → IsPlace keys x.term is n → Rising (insert is n x)
  rising_inserted is zero x r p = (p, r)
  rising_inserted [] (suc n) x r p = absurd p
  rising_inserted (i ∷ is) (suc n) x r p = (precedes_inserted i.term is n x r.0 p.0, rising_inserted is n x r.1 p.1)

  pub rises_inserted : (is : List Item) (n : ℕ) (x : Item) → rises keys is ≡ true → IsPlace keys x.term is n → rises keys (insert is n x) ≡ true
  rises_inserted is n x r p = rises_from (insert is n x) (rising_inserted is n x (rising_from is r) p)

  -- it stands where the definition puts it
  pub put_there : (is : List Item) (n : ℕ) (x : Item) → IsPlace keys x.term is n → insert_by_key keys x is ≡ insert is n x
  put_there [] zero x p = refl
  put_there (i ∷ is) zero x p = rw (p.0) refl
  put_there [] (suc n) x p = absurd p
  put_there (i ∷ is) (suc n) x p = rw (less_back i.term x.term p.0) (ap (λ js. i ∷ js) (put_there is n x p.1))

  none_behind : (t : Tree) (is : List Item) → Precedes keys t is → has_term t is ≡ false
  none_behind t [] p = refl
  none_behind t (i ∷ is) p = rw (differs_back t i.term p.0) (none_behind t is p.1)

  -- and it isn't there
  pub absent_there : (t : Tree) (is : List Item) (n : ℕ) → IsPlace keys t is n → has_term t is ≡ false
  absent_there t is zero p = none_behind t is p
  absent_there t [] (suc n) p = absurd p
  absent_there t (i ∷ is) (suc n) p = rw (differs i.term t p.0) (absent_there t is n p.1)

  -- ---- an item taken out

  precedes_removed : (t : Tree) (is : List Item) (n : ℕ) → Precedes keys t is → Precedes keys t (remove is n)
  precedes_removed t [] zero p = tt
  precedes_removed t [] (suc n) p = tt
  precedes_removed t (i ∷ is) zero p = p.1
  precedes_removed t (i ∷ is) (suc n) p = (p.0, precedes_removed t is n p.1)

  rising_removed : (is : List Item) (n : ℕ) → Rising is → Rising (remove is n)
  rising_removed [] zero r = tt
  rising_removed [] (suc n) r = tt
  rising_removed (i ∷ is) zero r = r.1
  rising_removed (i ∷ is) (suc n) r = (precedes_removed i.term is n r.0, rising_removed is n r.1)

  pub rises_removed : (is : List Item) (n : ℕ) → rises keys is ≡ true → rises keys (remove is n) ≡ true
  rises_removed is n r = rises_from (remove is n) (rising_removed is n (rising_from is r))

  pub present_there : (t : Tree) (is : List Item) (n : ℕ) → StandsAt t is n → has_term t is ≡ true
  present_there t [] n h = absurd h
  present_there t (i ∷ is) zero h = rw (ap (λ u. is_same u t) h ∙ same_as_itself t) refl
  present_there t (i ∷ is) (suc n) h = by (is_same i.term t) (present_there t is n h)
    where
      by : (b : Bool) → has_term t is ≡ true → (b || has_term t is) ≡ true
      by true e = refl
      by false e = e

  all_left : (t : Tree) (is : List Item) → Precedes keys t is → without_term t is ≡ is
  all_left t [] p = refl
  all_left t (i ∷ is) p = rw (differs_back t i.term p.0) (ap (λ js. i ∷ js) (all_left t is p.1))

  comes_before : (t u : Tree) (is : List Item) (n : ℕ) → Precedes keys t is → StandsAt u is n → tuple_cmp keys t u ≡ Less
  comes_before t u [] n p h = absurd h
  comes_before t u (i ∷ is) zero p h = subst (λ v. tuple_cmp keys t v ≡ Less) h p.0
  comes_before t u (i ∷ is) (suc n) p h = comes_before t u is n p.1 h

  taken_there : (t : Tree) (is : List Item) (n : ℕ) → Rising is → StandsAt t is n → without_term t is ≡ remove is n
  taken_there t [] n r h = absurd h
  taken_there t (i ∷ is) zero r h = rw (ap (λ u. is_same u t) h ∙ same_as_itself t) (all_left t is (subst (λ u. Precedes keys u is) h r.0))
  taken_there t (i ∷ is) (suc n) r h = rw (differs i.term t (comes_before i.term t is n r.0 h)) (ap (λ js. i ∷ js) (taken_there t is n r.1 h))

  -- of items that rise only the one at its place has a term
  pub removed_there : (t : Tree) (is : List Item) (n : ℕ) → rises keys is ≡ true → StandsAt t is n → without_term t is ≡ remove is n
  removed_there t is n r h = taken_there t is n (rising_from is r) h

  -- ---- places by numbers

  abbrev pub term_at : List ListItem → ℕ → Tree
  term_at items k = seen (item_with items k).term

  precedes_at : (t : Tree) (items : List ListItem) (k : ℕ) → Precedes keys t (items_seen items) → k < length items
      → tuple_cmp keys t (term_at items k) ≡ Less
  precedes_at t [] k p h = absurd (omega arith)
  precedes_at t (i ∷ items) zero p h = p.0
  precedes_at t (i ∷ items) (suc k) p h = precedes_at t items k p.1 (omega arith)

  rising_at : (items : List ListItem) (j k : ℕ) → Rising (items_seen items) → j < k → k < length items
      → tuple_cmp keys (term_at items j) (term_at items k) ≡ Less
  rising_at [] j k r h l = absurd (omega arith)
  rising_at (i ∷ items) zero zero r h l = absurd (omega arith)
  rising_at (i ∷ items) zero (suc k) r h l = precedes_at (seen i.term) items k r.0 (omega arith)
  rising_at (i ∷ items) (suc j) zero r h l = absurd (omega arith)
  rising_at (i ∷ items) (suc j) (suc k) r h l = rising_at items j k r.1 (omega arith) (omega arith)

  -- the items before a place come before a tuple
  abbrev pub AreBelow : Tree → List ListItem → ℕ → Type 0
  AreBelow t items n = (k : ℕ) → k < n → tuple_cmp keys (term_at items k) t ≡ Less

  -- the items from a place on come behind it
  abbrev pub AreAbove : Tree → List ListItem → ℕ → Type 0
  AreAbove t items n = (k : ℕ) → n ≤ k → k < length items → tuple_cmp keys (term_at items k) t ≡ Greater

  pub below_on : (t : Tree) (items : List ListItem) (n : ℕ) → rises keys (items_seen items) ≡ true → n < length items
      → tuple_cmp keys (term_at items n) t ≡ Less → AreBelow t items (n + 1)
  below_on t items n r h e k l = by (eq_or_less k n (omega arith))
    where
      eq_or_less : (k n : ℕ) → k ≤ n → (k ≡ n) ⊎ (k < n)
      eq_or_less zero zero l = inl refl
      eq_or_less zero (suc n) l = inr (omega arith)
      eq_or_less (suc k) zero l = absurd (omega arith)
      eq_or_less (suc k) (suc n) l = elim (eq_or_less k n (omega arith)) [ inl q ↦ inl (ap suc q) | inr q ↦ inr (omega arith) ]

      by : (k ≡ n) ⊎ (k < n) → tuple_cmp keys (term_at items k) t ≡ Less
      by (inl q) = subst (λ j. tuple_cmp keys (term_at items j) t ≡ Less) (sym q) e
      by (inr q) = total.trans (term_at items k) (term_at items n) t (rising_at items k n (rising_from (items_seen items) r) q h) e

  pub above_on : (t : Tree) (items : List ListItem) (n : ℕ) → rises keys (items_seen items) ≡ true → n < length items
      → tuple_cmp keys (term_at items n) t ≡ Greater → AreAbove t items n
  above_on t items n r h e k l m = by (eq_or_less n k l)
    where
      eq_or_less : (k n : ℕ) → k ≤ n → (k ≡ n) ⊎ (k < n)
      eq_or_less zero zero l = inl refl
      eq_or_less zero (suc n) l = inr (omega arith)
      eq_or_less (suc k) zero l = absurd (omega arith)
      eq_or_less (suc k) (suc n) l = elim (eq_or_less k n (omega arith)) [ inl q ↦ inl (ap suc q) | inr q ↦ inr (omega arith) ]

      by : (n ≡ k) ⊎ (n < k) → tuple_cmp keys (term_at items k) t ≡ Greater
      by (inl q) = subst (λ j. tuple_cmp keys (term_at items j) t ≡ Greater) q e
      by (inr q) =
          less_back t (term_at items k)
          (total.trans t (term_at items n) (term_at items k) (greater_back (term_at items n) t e)
          (rising_at items n k (rising_from (items_seen items) r) q m))

  precedes_from : (t : Tree) (items : List ListItem) → AreAbove t items 0 → Precedes keys t (items_seen items)
  precedes_from t [] a = tt
  precedes_from t (i ∷ items) a =
      (greater_back (seen i.term) t (a 0 (omega arith) (omega arith)), precedes_from t items (λ k l m. a (suc k) (omega arith) (omega arith)))

  -- so it is the tuple's place
  pub place_from : (t : Tree) (items : List ListItem) (n : ℕ) → n ≤ length items → AreBelow t items n → AreAbove t items n
      → IsPlace keys t (items_seen items) n
  place_from t items zero h b a = precedes_from t items a
  place_from t [] (suc n) h b a = absurd (omega arith)
  place_from t (i ∷ items) (suc n) h b a =
      (b 0 (omega arith), place_from t items n (omega arith) (λ k l. b (suc k) (omega arith)) (λ k l m. a (suc k) (omega arith) (omega arith)))

  pub stands_from : (t : Tree) (items : List ListItem) (n : ℕ) → n < length items → is_valid (term_at items n) ≡ true → is_valid t ≡ true
      → tuple_cmp keys (term_at items n) t ≡ Equal
      → StandsAt t (items_seen items) n
  stands_from t [] n h v w e = absurd (omega arith)
  stands_from t (i ∷ items) zero h v w e = tuple_keys_tell keys (seen i.term) t [] [] v w
      (ap (λ k. k ++ []) (equal_bits (tuple_key keys (seen i.term)) (tuple_key keys t) e))
  stands_from t (i ∷ items) (suc n) h v w e = stands_from t items n (omega arith) v w e
