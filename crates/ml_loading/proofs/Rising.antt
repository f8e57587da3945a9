-- Lists of tuples that rise in the order of their keys: there is one with given members.
use Rattle.std.proofs.Common.{◌≡◌, ℕ, Bool, true, false, ◌⊎◌, inl, inr, List, [], ◌∷◌, ◌++◌, refl, sym, ap, ◌∙◌, subst, cond}
use Rattle.std.specs.List.{dedup, dedup_from}
use Rattle.std.specs.declared.cmp.Ordering.{Ordering}
use Rattle.std.specs.declared.cmp.Ordering.TheVariants.{Less, Equal, Greater}
use Rattle.std.specs.Ordering.{is_eq, is_gt, ordering_reverse}
use Rattle.std.specs.Cmp.{IsTotalOrder, bool_cmp_total}
use Rattle.std.proofs.lemmas.Cmp.{on_total, lists_total, tied_itself, upto}
use Rattle.ml_term.specs.Tree.{Tree}
use Rattle.ml_term.specs.Valid.{is_valid}
use Rattle.ml_term.specs.Keys.{tuple_key, tuple_cmp}
use Rattle.ml_term.proofs.KeysTellTuples.{tuple_keys_tell, equal_bits}
use Rattle.ml_search.specs.Loading.{with_tuple, in_key_order}
use Rattle.ml_loading.proofs.Members.{Has}

module _ (keys : List ℕ) where
  abbrev by_keys : Tree → Tree → Ordering
  by_keys = tuple_cmp keys

  pub total : IsTotalOrder (tuple_cmp keys)
  total = on_total (tuple_key keys) (lists_total bool_cmp_total)

  abbrev IsValid : Tree → Type 0
  IsValid t = is_valid t ≡ true

  equal_is_same : (t u : Tree) → IsValid t → IsValid u → by_keys t u ≡ Equal → t ≡ u
  equal_is_same t u p q e = tuple_keys_tell keys t u [] [] p q (ap (λ k. k ++ []) (equal_bits (tuple_key keys t) (tuple_key keys u) e))

  less_back : (t u : Tree) → by_keys t u ≡ Greater → by_keys u t ≡ Less
  less_back t u e = total.antisymm u t ∙ ap ordering_reverse e

  never_less : (t : Tree) → by_keys t t ≡ Less → ⊥
  never_less t e = let clash : Equal ≡ Less = sym (tied_itself total t) ∙ e in cc

  never_both : (t u : Tree) → by_keys t u ≡ Less → by_keys u t ≡ Less → ⊥
  never_both t u e f = let clash : Less ≡ Greater = sym e ∙ total.antisymm t u ∙ ap ordering_reverse f in cc

  -- a tuple comes before each of some others
  abbrev Precedes : Tree → List Tree → Type 0
  Precedes t us = (u : Tree) → Has u us → by_keys t u ≡ Less

  abbrev pub Rises : List Tree → Type 0
  Rises [] = Unit {0}
  Rises (t ∷ ts) = Precedes t ts × Rises ts

  -- a member of the second list, where the first members are the same
  abbrev Within : List Tree → List Tree → Type 0
  Within ts us = (v : Tree) → Has v ts → Has v us

  firsts_same : (t u : Tree) (ts us : List Tree) → Rises (t ∷ ts) → Rises (u ∷ us) → Has t (u ∷ us) → Has u (t ∷ ts) → t ≡ u
  firsts_same t u ts us r s (inl e) k = e
  firsts_same t u ts us r s (inr h) (inl e) = sym e
  firsts_same t u ts us r s (inr h) (inr k) = absurd (never_both t u (r.0 u k) (s.0 t h))

  behind_first : (t : Tree) (ts us : List Tree) → Precedes t ts → Within ts (t ∷ us) → Within ts us
  behind_first t ts us r w v h = elim (w v h) [ inl e ↦ absurd (never_less t (r t (subst (λ v. Has v ts) e h))) | inr k ↦ k ]

  -- what the members of the whole lists say of those behind the first
  within_rest : (t : Tree) (ts us : List Tree) → Within (t ∷ ts) (t ∷ us) → Within ts (t ∷ us)
  within_rest t ts us w v h = w v (inr h)

  pub one_list : (ts us : List Tree) → Rises ts → Rises us → Within ts us → Within us ts → ts ≡ us
  one_list [] [] r s w z = refl
  one_list [] (u ∷ us) r s w z = absurd (z u (inl refl))
  one_list (t ∷ ts) [] r s w z = absurd (w t (inl refl))
  one_list (t ∷ ts) (u ∷ us) r s w z =
      let same : t ≡ u = firsts_same t u ts us r s (w t (inl refl)) (z u (inl refl)) in
      let further = behind_first t ts us r.0 (subst (λ c. Within ts (c ∷ us)) (sym same) (λ v h. w v (inr h))) in
      let back = behind_first u us ts s.0 (subst (λ c. Within us (c ∷ ts)) same (λ v h. z v (inr h))) in
      let rest : ts ≡ us = one_list ts us r.1 s.1 further back in
      cc

  -- all of some terms are valid
  abbrev pub AllValid : List Tree → Type 0
  AllValid ts = (v : Tree) → Has v ts → IsValid v

  -- a tuple put at its place
  has_here : (t u v : Tree) (us : List Tree) → IsValid t → IsValid u → ((v ≡ t) ⊎ Has v us → Has v (with_tuple keys t us)) → (v ≡ t) ⊎ Has v (u ∷ us)
      → (o : Ordering) → by_keys t u ≡ o → Has v (with_tuple keys t (u ∷ us))
  has_here t u v us p q rest h Less e = rw e h
  has_here t u v us p q rest h Equal e = rw e (elim h [ inl k ↦ inl (k ∙ equal_is_same t u p q e) | inr k ↦ k ])
  has_here t u v us p q rest h Greater e = rw e (elim h [ inl k ↦ inr (rest (inl k)) | inr k ↦ elim k [ inl j ↦ inl j | inr j ↦ inr (rest (inr j)) ] ])

  has_with : (t : Tree) (us : List Tree) → IsValid t → AllValid us → (v : Tree) → (v ≡ t) ⊎ Has v us → Has v (with_tuple keys t us)
  has_with t [] p q v h = h
  has_with t (u ∷ us) p q v h = has_here t u v us p (q u (inl refl)) (λ k. has_with t us p (λ w j. q w (inr j)) v k) h (by_keys t u) refl

  here_has : (t u v : Tree) (us : List Tree) → (Has v (with_tuple keys t us) → (v ≡ t) ⊎ Has v us) → (o : Ordering) → by_keys t u ≡ o
      → Has v (with_tuple keys t (u ∷ us)) → (v ≡ t) ⊎ Has v (u ∷ us)
  here_has t u v us rest Less e h = rw e at h
  here_has t u v us rest Equal e h = inr (rw e at h)
  here_has t u v us rest Greater e h = elim (rw e at h) [ inl k ↦ inr (inl k) | inr k ↦ elim (rest k) [ inl j ↦ inl j | inr j ↦ inr (inr j) ] ]

  with_has : (t : Tree) (us : List Tree) (v : Tree) → Has v (with_tuple keys t us) → (v ≡ t) ⊎ Has v us
  with_has t [] v h = h
  with_has t (u ∷ us) v h = here_has t u v us (with_has t us v) (by_keys t u) refl h

  rises_with : (t : Tree) (us : List Tree) → Rises us → Rises (with_tuple keys t us)
  rises_with t [] r = ((λ u h. absurd h), tt)
  rises_with t (u ∷ us) r = by_order (rises_with t us r.1) (by_keys t u) refl
    where
      by_order : Rises (with_tuple keys t us) → (o : Ordering) → by_keys t u ≡ o → Rises (with_tuple keys t (u ∷ us))
      by_order rest Less e = rw e ((λ v h. elim h [ inl k ↦ subst (λ v. by_keys t v ≡ Less) (sym k) e | inr k ↦ total.trans t u v e (r.0 v k) ]), r)
      by_order rest Equal e = rw e r
      by_order rest Greater e = rw e (
        (λ v h. elim (with_has t us v h) [ inl k ↦ subst (λ v. by_keys u v ≡ Less) (sym k) (less_back t u e) | inr k ↦ r.0 v k ]),
        rest,
      )

  pub rises_all : (ts : List Tree) → Rises (in_key_order keys ts)
  rises_all [] = tt
  rises_all (t ∷ ts) = rises_with t (in_key_order keys ts) (rises_all ts)

  pub all_has : (ts : List Tree) → Within (in_key_order keys ts) ts
  all_has [] v h = h
  all_has (t ∷ ts) v h = elim (with_has t (in_key_order keys ts) v h) [ inl k ↦ inl k | inr k ↦ inr (all_has ts v k) ]

  pub has_all : (ts : List Tree) → AllValid ts → Within ts (in_key_order keys ts)
  has_all [] p v h = h
  has_all (t ∷ ts) p v h =
      has_with t (in_key_order keys ts) (p t (inl refl)) (λ w j. p w (inr (all_has ts w j))) v
      (elim h [ inl k ↦ inl k | inr k ↦ inr (has_all ts (λ w j. p w (inr j)) v k) ])

  -- tuples of which none comes before the one that stands before it
  abbrev pub IsSorted : List Tree → Type 0
  IsSorted [] = Unit {0}
  IsSorted (t ∷ []) = Unit {0}
  IsSorted (t ∷ u ∷ us) = (is_gt (by_keys t u) ≡ false) × IsSorted (u ∷ us)

  sorted_rest : (t : Tree) (us : List Tree) → IsSorted (t ∷ us) → IsSorted us
  sorted_rest t [] s = tt
  sorted_rest t (u ∷ us) s = s.1

  after_first : (t : Tree) (us : List Tree) → IsSorted (t ∷ us) → (v : Tree) → Has v us → is_gt (by_keys t v) ≡ false
  after_first t [] s v h = absurd h
  after_first t (u ∷ us) s v (inl e) = subst (λ v. is_gt (by_keys t v) ≡ false) (sym e) s.0
  after_first t (u ∷ us) s v (inr h) = upto total t u v s.0 (after_first u us s.1 v h)

  is_equal : (o : Ordering) → is_eq o ≡ true → o ≡ Equal
  is_equal Less e = cc
  is_equal Equal e = refl
  is_equal Greater e = cc

  -- repeats dropped
  module _ (same : Tree → Tree → Bool) where
    abbrev TellsSame : List Tree → Type 0
    TellsSame ts = (t u : Tree) → Has t ts → Has u ts → same t u ≡ is_eq (by_keys t u)

    dropped_here : (k t v : Tree) (ts : List Tree) → (Has v (dedup_from same k ts) → Has v (k ∷ ts)) → (Has v (dedup_from same t ts) → Has v (t ∷ ts))
        → (b : Bool) → Has v (cond b (dedup_from same k ts) (k ∷ dedup_from same t ts)) → Has v (k ∷ t ∷ ts)
    dropped_here k t v ts further other true h = elim (further h) [ inl e ↦ inl e | inr j ↦ inr (inr j) ]
    dropped_here k t v ts further other false h = elim h [ inl e ↦ inl e | inr j ↦ inr (other j) ]

    dropped_has : (k : Tree) (ts : List Tree) → Within (dedup_from same k ts) (k ∷ ts)
    dropped_has k [] v h = h
    dropped_has k (t ∷ ts) v h = dropped_here k t v ts (dropped_has k ts v) (dropped_has t ts v) (same t k) h

    -- what stands among some also stands among them and one more
    among : {X : Type 0} (k t w : X) (ts : List X) → Has w (k ∷ ts) → Has w (k ∷ t ∷ ts)
    among k t w ts (inl e) = inl e
    among k t w ts (inr i) = inr (inr i)

    told_same : (k t : Tree) (ts : List Tree) → AllValid (k ∷ t ∷ ts) → TellsSame (k ∷ t ∷ ts) → same t k ≡ true → t ≡ k
    told_same k t ts p q e = equal_is_same t k (p t (inr (inl refl))) (p k (inl refl)) (is_equal (by_keys t k) (sym (q t k (inr (inl refl)) (inl refl)) ∙ e))

    has_dropped_here : (k t v : Tree) (ts : List Tree) → AllValid (k ∷ t ∷ ts) → TellsSame (k ∷ t ∷ ts) → (Has v (k ∷ ts) → Has v (dedup_from same k ts))
        → (Has v (t ∷ ts) → Has v (dedup_from same t ts)) → Has v (k ∷ t ∷ ts) → (b : Bool) → same t k ≡ b →
        Has v (cond b (dedup_from same k ts) (k ∷ dedup_from same t ts))
    has_dropped_here k t v ts p q further other h true e =
        further (elim h [ inl i ↦ inl i | inr i ↦ elim i [ inl j ↦ inl (j ∙ told_same k t ts p q e) | inr j ↦ inr j ] ])
    has_dropped_here k t v ts p q further other h false e = elim h [ inl i ↦ inl i | inr i ↦ inr (other i) ]

    has_dropped : (k : Tree) (ts : List Tree) → AllValid (k ∷ ts) → TellsSame (k ∷ ts) → Within (k ∷ ts) (dedup_from same k ts)
    has_dropped k [] p q v h = h
    has_dropped k (t ∷ ts) p q v h =
        has_dropped_here k t v ts p q (has_dropped k ts (λ w j. p w (among k t w ts j)) (λ x y i j. q x y (among k t x ts i) (among k t y ts j)) v)
        (has_dropped t ts (λ w j. p w (inr j)) (λ x y i j. q x y (inr i) (inr j)) v) h (same t k) refl

    is_less : (k t : Tree) → (o p : Ordering) → by_keys k t ≡ o → is_gt o ≡ false → by_keys t k ≡ p → is_eq p ≡ false → by_keys k t ≡ Less
    is_less k t Less p e g f h = e
    is_less k t Equal p e g f h =
        let back : p ≡ Equal = sym f ∙ total.antisymm t k ∙ ap ordering_reverse e in let clash : true ≡ false = sym (ap is_eq back) ∙ h in cc
    is_less k t Greater p e g f h = cc

    then_less : (k t v : Tree) (o : Ordering) → IsValid t → IsValid v → by_keys k t ≡ Less → by_keys t v ≡ o → is_gt o ≡ false → by_keys k v ≡ Less
    then_less k t v Less p q e f g = total.trans k t v e f
    then_less k t v Equal p q e f g = subst (λ v. by_keys k v ≡ Less) (equal_is_same t v p q f) e
    then_less k t v Greater p q e f g = cc

    drops_here : (k t : Tree) (ts : List Tree) → IsSorted (k ∷ t ∷ ts) → AllValid (k ∷ t ∷ ts) → TellsSame (k ∷ t ∷ ts)
        → (IsSorted (k ∷ ts) → Rises (dedup_from same k ts)) → Rises (dedup_from same t ts) → (b : Bool) → same t k ≡ b
        → Rises (cond b (dedup_from same k ts) (k ∷ dedup_from same t ts))
    drops_here k t ts s p q further other true e = further (subst (λ x. IsSorted (x ∷ ts)) (told_same k t ts p q e) s.1)
    drops_here k t ts s p q further other false e =
        let less : by_keys k t ≡ Less = is_less k t (by_keys k t) (by_keys t k) refl s.0 refl (sym (q t k (inr (inl refl)) (inl refl)) ∙ e) in (
          (λ v h. elim (dropped_has t ts v h) [
            | inl i ↦ subst (λ v. by_keys k v ≡ Less) (sym i) less
            | inr i ↦ then_less k t v (by_keys t v) (p t (inr (inl refl))) (p v (inr (inr i))) less refl (after_first t ts s.1 v i)
          ]),
          other,
        )

    rises_dropped : (k : Tree) (ts : List Tree) → IsSorted (k ∷ ts) → AllValid (k ∷ ts) → TellsSame (k ∷ ts) → Rises (dedup_from same k ts)
    rises_dropped k [] s p q = ((λ u h. absurd h), tt)
    rises_dropped k (t ∷ ts) s p q =
        drops_here k t ts s p q (λ r. rises_dropped k ts r (λ w j. p w (among k t w ts j)) (λ x y i j. q x y (among k t x ts i) (among k t y ts j)))
        (rises_dropped t ts s.1 (λ w j. p w (inr j)) (λ x y i j. q x y (inr i) (inr j))) (same t k) refl

    -- sorted tuples without repeats are the tuples in key order, put in one after another
    pub dropped_is : (xs zs : List Tree) → IsSorted zs → AllValid xs → Within xs zs → Within zs xs → TellsSame zs → dedup same zs ≡ in_key_order keys xs
    dropped_is [] [] s p w z q = refl
    dropped_is (x ∷ xs) [] s p w z q = absurd (w x (inl refl))
    dropped_is xs (k ∷ ts) s p w z q =
        let valid : AllValid (k ∷ ts) = λ v h. p v (z v h) in
        one_list (dedup_from same k ts) (in_key_order keys xs) (rises_dropped k ts s valid q) (rises_all xs)
        (λ v h. has_all xs p v (z v (dropped_has k ts v h))) (λ v h. has_dropped k ts valid q v (w v (all_has xs v h)))
