-- Tuples put in key order: they rise, and are those that were given.
use Rattle.std.proofs.Common.{◌≡◌, true, ◌⊎◌, inl, inr, ℕ, List, [], ◌∷◌, ◌++◌, get_or, refl, sym, ap, ◌∙◌, subst, arith}
use Rattle.std.specs.Prelude.{Contains}
use Rattle.std.specs.List.{All, AllPairs}
use Rattle.std.specs.declared.cmp.Ordering.{Ordering}
use Rattle.std.specs.declared.cmp.Ordering.TheVariants.{Less, Equal, Greater}
use Rattle.std.specs.Ordering.{ordering_reverse}
use Rattle.std.specs.Cmp.{IsTotalOrder, bool_cmp_total, on_total}
use Rattle.std.specs.Cmp.Lexicographic.{lists_total}
use Rattle.std.proofs.lemmas.List.Elements.{All-nil, Contains-get_or}
use Rattle.std.proofs.lemmas.List.Kept.{AllPairs-cons}
use Rattle.ml_term.specs.Tree.{Tree}
use Rattle.ml_term.specs.Valid.{is_valid}
use Rattle.ml_term.specs.Keys.{tuple_key, tuple_cmp}
use Rattle.ml_term.proofs.KeysTellTuples.{tuple_keys_tell, equal_bits}
use Rattle.ml_search.specs.Loading.{with_tuple, in_key_order}
use Rattle.ml_file.proofs.ItemOrders.{contains_cases, contains_later, first_before, rest_rises}

-- an element is the first one of a list or one of the others
pub first_or_later : {X : Type 0} (x z : X) (xs : List X) → Contains (x ∷ xs) z → (z ≡ x) ⊎ Contains xs z
first_or_later x z xs h = elim (contains_cases x z xs h) [ inl e ↦ inl (sym e) | inr later ↦ inr later ]

pub is_first : {X : Type 0} (x z : X) (xs : List X) → z ≡ x → Contains (x ∷ xs) z
is_first x z xs e = (0, omega arith, sym e)

pub one_of : {X : Type 0} (x z : X) (xs : List X) → (z ≡ x) ⊎ Contains xs z → Contains (x ∷ xs) z
one_of x z xs h = elim h [ inl e ↦ is_first x z xs e | inr later ↦ contains_later x z xs later ]

pub none_in : {X : Type 0} (z : X) → Contains [] z → ⊥
none_in z h = omega (arith, h.1)

-- what is so of each element
pub all_from : {X : Type 0} (P : X → Type 0) (xs : List X) → ((z : X) → Contains xs z → P z) → All P xs
all_from P xs h k d l = h (get_or xs k d) (Contains-get_or xs k d l)

module _ (keys : List ℕ) where
  total : IsTotalOrder (tuple_cmp keys)
  total = on_total (tuple_key keys) (lists_total bool_cmp_total)

  -- a tuple comes before another one
  abbrev pub Precedes : Tree → Tree → Type 0
  Precedes t u = tuple_cmp keys t u ≡ Less

  -- all of some terms are valid
  abbrev pub AllValid : List Tree → Type 0
  AllValid ts = (v : Tree) → Contains ts v → is_valid v ≡ true

  equal_is_same : (t u : Tree) → is_valid t ≡ true → is_valid u ≡ true → tuple_cmp keys t u ≡ Equal → t ≡ u
  equal_is_same t u p q e = tuple_keys_tell keys t u [] [] p q (ap (λ k. k ++ []) (equal_bits (tuple_key keys t) (tuple_key keys u) e))

  less_back : (t u : Tree) → tuple_cmp keys t u ≡ Greater → tuple_cmp keys u t ≡ Less
  less_back t u e = total.antisymm u t ∙ ap ordering_reverse e

  -- a tuple put at its place
  has_here : (t u v : Tree) (us : List Tree) → is_valid t ≡ true → is_valid u ≡ true → ((v ≡ t) ⊎ Contains us v → Contains (with_tuple keys t us) v) →
      (v ≡ t) ⊎ Contains (u ∷ us) v
      → (o : Ordering) → tuple_cmp keys t u ≡ o → Contains (with_tuple keys t (u ∷ us)) v
  has_here t u v us p q rest h Less e = rw e (one_of t v (u ∷ us) h)
  has_here t u v us p q rest h Equal e = rw e (elim h [ inl k ↦ is_first u v us (k ∙ equal_is_same t u p q e) | inr k ↦ k ])
  has_here t u v us p q rest h Greater e = rw e (one_of u v (with_tuple keys t us) (elim h [
    | inl k ↦ inr (rest (inl k))
    | inr k ↦ elim (first_or_later u v us k) [ inl j ↦ inl j | inr j ↦ inr (rest (inr j)) ]
  ]))

  has_with : (t : Tree) (us : List Tree) → is_valid t ≡ true → AllValid us → (v : Tree) → (v ≡ t) ⊎ Contains us v → Contains (with_tuple keys t us) v
  has_with t [] p q v h = one_of t v [] h
  has_with t (u ∷ us) p q v h =
      has_here t u v us p (q u (is_first u u us refl)) (λ k. has_with t us p (λ w j. q w (contains_later u w us j)) v k) h (tuple_cmp keys t u) refl

  here_has : (t u v : Tree) (us : List Tree) → (Contains (with_tuple keys t us) v → (v ≡ t) ⊎ Contains us v) → (o : Ordering) → tuple_cmp keys t u ≡ o
      → Contains (with_tuple keys t (u ∷ us)) v → (v ≡ t) ⊎ Contains (u ∷ us) v
  here_has t u v us rest Less e h = first_or_later t v (u ∷ us) (rw e at h)
  here_has t u v us rest Equal e h = inr (rw e at h)
  here_has t u v us rest Greater e h =
      elim (first_or_later u v (with_tuple keys t us) (rw e at h)) [
        | inl k ↦ inr (is_first u v us k)
        | inr k ↦ elim (rest k) [ inl j ↦ inl j | inr j ↦ inr (contains_later u v us j) ]
      ]

  with_has : (t : Tree) (us : List Tree) (v : Tree) → Contains (with_tuple keys t us) v → (v ≡ t) ⊎ Contains us v
  with_has t [] v h = first_or_later t v [] h
  with_has t (u ∷ us) v h = here_has t u v us (with_has t us v) (tuple_cmp keys t u) refl h

  rises_with : (t : Tree) (us : List Tree) → AllPairs Precedes us → AllPairs Precedes (with_tuple keys t us)
  rises_with t [] r = AllPairs-cons Precedes t [] (All-nil (Precedes t)) r
  rises_with t (u ∷ us) r = by_order (rises_with t us (rest_rises Precedes u us r)) (tuple_cmp keys t u) refl
    where
      by_order : AllPairs Precedes (with_tuple keys t us) → (o : Ordering) → tuple_cmp keys t u ≡ o → AllPairs Precedes (with_tuple keys t (u ∷ us))
      by_order rest Less e =
          rw e (AllPairs-cons Precedes t (u ∷ us)
          (all_from (Precedes t) (u ∷ us) (λ v h. elim (first_or_later u v us h) [
            | inl k ↦ subst (Precedes t) (sym k) e
            | inr k ↦ total.trans t u v e (first_before Precedes u us r v k)
          ])) r)
      by_order rest Equal e = rw e r
      by_order rest Greater e =
          rw e (AllPairs-cons Precedes u (with_tuple keys t us)
          (all_from (Precedes u) (with_tuple keys t us) (λ v h. elim (with_has t us v h) [
            | inl k ↦ subst (Precedes u) (sym k) (less_back t u e)
            | inr k ↦ first_before Precedes u us r v k
          ])) rest)

  pub rises_all : (ts : List Tree) → AllPairs Precedes (in_key_order keys ts)
  rises_all [] = λ i j d l h. absurd (omega (arith, h))
  rises_all (t ∷ ts) = rises_with t (in_key_order keys ts) (rises_all ts)

  pub all_has : (ts : List Tree) (v : Tree) → Contains (in_key_order keys ts) v → Contains ts v
  all_has [] v h = h
  all_has (t ∷ ts) v h = one_of t v ts (elim (with_has t (in_key_order keys ts) v h) [ inl k ↦ inl k | inr k ↦ inr (all_has ts v k) ])

  pub has_all : (ts : List Tree) → AllValid ts → (v : Tree) → Contains ts v → Contains (in_key_order keys ts) v
  has_all [] p v h = h
  has_all (t ∷ ts) p v h =
      has_with t (in_key_order keys ts) (p t (is_first t t ts refl)) (λ w j. p w (contains_later t w ts (all_has ts w j))) v
      (elim (first_or_later t v ts h) [ inl k ↦ inl k | inr k ↦ inr (has_all ts (λ w j. p w (contains_later t w ts j)) v k) ])
