-- The order in which the code sorts tuples, and what it leaves of them.
use Rattle.std.proofs.Common.{◌≡◌, ◌≢◌, ℕ, suc, ◌+◌, ◌==◌, ◌&&◌, nat_eq, Bool, true, false, inl, inr, List, [], ◌∷◌, get_or, refl, sym, ap, ◌∙◌, subst, cond}
use Rattle.std.proofs.Common.{arith, if◌then◌else◌}
use Rattle.std.specs.List.{All, dedup, dedup_from}
use Rattle.std.specs.List.Sorted.{IsPermutation, IsSortedBy}
use Rattle.std.specs.declared.cmp.Ordering.{Ordering}
use Rattle.std.specs.declared.cmp.Ordering.TheVariants.{Less, Equal, Greater}
use Rattle.std.specs.Ordering.{nat_cmp, bool_cmp, is_eq, is_gt, is_lt, on, then_cmp, ordering_then, ordering_reverse}
use Rattle.std.specs.Cmp.{IsTotalOrder, IsStrictWeakOrder, bool_cmp_total}
use Rattle.std.specs.Cmp.Lexicographic.{slice_cmp}
use Rattle.std.specs.FinMap.{nat_cmp-IsAntisymmetric}
use Rattle.std.proofs.lemmas.Cmp.{on_total, then_total, lists_total, nat_cmp_total, tied_itself}
use Rattle.std.proofs.lemmas.Bool.Decides.{nat_tests}
use Rattle.std.proofs.lemmas.List.Elements.{All-nil, All-cons, All-head, All-tail}
use Rattle.std.proofs.lemmas.List.Sorted.{ranks_by, IsPermutation-map, All-permutation}
use Rattle.ml_term.specs.Seen.{seen}
use Rattle.ml_term.specs.Tree.{Tree}
use Rattle.ml_term.specs.Keys.{tuple_key, tuple_cmp}
use Rattle.ml_term.specs.Valid.{is_valid}
use Rattle.ml_term.proofs.Orderings.{decides_alone}
use Rattle.ml_search.specs.Loading.{in_key_order}
use Rattle.ml_loading.specs.declared.valid_term.ValidTerm.{ValidTerm}
use Rattle.ml_loading.specs.KeyOrder.{size, place_cmp}
use Rattle.ml_loading.specs.Lists.{trees}
use Rattle.ml_loading.proofs.Members.{Has, has_moved, has_moved_back}
use Rattle.ml_loading.proofs.Rising.{AllValid, IsSorted, dropped_is, total}

abbrev tree_of : ValidTerm → Tree
tree_of t = seen t.term

module _ (keys : List ℕ) (n : ℕ) where
  -- the order as one of pairs
  abbrev ranks : ℕ × List Bool → ℕ × List Bool → Ordering
  ranks = then_cmp (on (λ p. p.0) nat_cmp) (on (λ p. p.1) (slice_cmp bool_cmp))

  ranks_total : IsTotalOrder ranks
  ranks_total = then_total (on_total (λ p. p.0) nat_cmp_total) (on_total (λ p. p.1) (lists_total bool_cmp_total))

  abbrev rank : Tree → ℕ × List Bool
  rank t = (size t, cond (size t == n) (tuple_key keys t) [])

  then_nothing : (o : Ordering) → o ≡ ordering_then o Equal
  then_nothing Less = refl
  then_nothing Equal = refl
  then_nothing Greater = refl

  apart : (a b : ℕ) → (a ≡ b → ⊥) → nat_cmp a b ≢ Equal
  apart a b d e = d (nat_cmp-IsAntisymmetric a b e)

  placed_by : (a b : ℕ) (ts us : List Bool) (p q : Bool) → nat_eq a n ≡ p → nat_eq b n ≡ q
      → (if p && q then slice_cmp bool_cmp ts us else nat_cmp a b) ≡ ordering_then (nat_cmp a b) (slice_cmp bool_cmp (cond p ts []) (cond q us []))
  placed_by a b ts us true true e f =
      let same : a ≡ b = grind (arith, nat_tests) in
      let tie : nat_cmp a b ≡ Equal = subst (λ c. nat_cmp a c ≡ Equal) same (tied_itself nat_cmp_total a) in rw tie refl
  placed_by a b ts us true false e f = sym (decides_alone (nat_cmp a b) (slice_cmp bool_cmp ts []) (apart a b (λ g. grind (arith, nat_tests))))
  placed_by a b ts us false true e f = sym (decides_alone (nat_cmp a b) (slice_cmp bool_cmp [] us) (apart a b (λ g. grind (arith, nat_tests))))
  placed_by a b ts us false false e f = then_nothing (nat_cmp a b)

  placed : (t u : Tree) → place_cmp keys n t u ≡ ranks (rank t) (rank u)
  unfolding place_cmp
  placed t u = placed_by (size t) (size u) (tuple_key keys t) (tuple_key keys u) (size t == n) (size u == n) refl refl

  -- whether a tuple goes before another one
  abbrev pub goes_before : ValidTerm → ValidTerm → Bool
  goes_before x y = is_lt (place_cmp keys n (tree_of x) (tree_of y))

  pub goes_in_order : IsStrictWeakOrder goes_before
  goes_in_order = record {
    one_way = λ x y h. told y x ∙ by_rank.one_way x y (sym (told x y) ∙ h);
    chain = λ x y z h k. told x z ∙ by_rank.chain x y z (sym (told x y) ∙ h) (sym (told y z) ∙ k);
  }
    where
      by_rank : IsStrictWeakOrder (λ x y. is_lt (ranks (rank (tree_of x)) (rank (tree_of y))))
      by_rank = ranks_by ranks_total (λ x. rank (tree_of x))

      told : (x y : ValidTerm) → goes_before x y ≡ is_lt (ranks (rank (tree_of x)) (rank (tree_of y)))
      told x y = ap is_lt (placed (tree_of x) (tree_of y))

  -- tuples with n arguments are compared by their keys
  by_keys : (t u : Tree) → size t ≡ n → size u ≡ n → place_cmp keys n t u ≡ tuple_cmp keys t u
  unfolding place_cmp
  by_keys t u e f =
      let p : nat_eq (size t) n ≡ true = grind (arith, nat_tests) in
      let q : nat_eq (size u) n ≡ true = grind (arith, nat_tests) in
      rw (p, q) refl

  not_greater : (t u : Tree) (o : Ordering) → tuple_cmp keys u t ≡ o → is_lt o ≡ false → is_gt (tuple_cmp keys t u) ≡ false
  not_greater t u Less e h = cc
  not_greater t u Equal e h = ap is_gt ((total keys).antisymm t u ∙ ap ordering_reverse e)
  not_greater t u Greater e h = ap is_gt ((total keys).antisymm t u ∙ ap ordering_reverse e)

  abbrev HasArity : ValidTerm → Type 0
  HasArity t = size (tree_of t) ≡ n

  sorted_trees : (xs : List ValidTerm) → All HasArity xs → IsSortedBy goes_before xs → IsSorted keys (trees xs)
  sorted_trees [] p h = tt
  sorted_trees (x ∷ []) p h = tt
  sorted_trees (x ∷ y ∷ ys) p h =
      let one : HasArity x = All-head HasArity x (y ∷ ys) p in
      let rest : All HasArity (y ∷ ys) = All-tail HasArity x (y ∷ ys) p in
      let two : HasArity y = All-head HasArity y ys rest in
      let first : goes_before y x ≡ false = h 0 x (omega arith) (omega arith) in (
        not_greater (tree_of x) (tree_of y) (tuple_cmp keys (tree_of y) (tree_of x)) refl (sym (ap is_lt (by_keys (tree_of y) (tree_of x) two one)) ∙ first),
        sorted_trees (y ∷ ys) rest (λ k d l m.
            let up : suc k + 1 ≡ suc (k + 1) = omega arith in
            subst (λ i. goes_before (get_or (x ∷ y ∷ ys) i d) (get_or (x ∷ y ∷ ys) (suc k) d) ≡ false) up (h (suc k) d (omega arith) (omega arith))),
      )

  sizes : (xs : List ValidTerm) → All HasArity xs → (v : Tree) → Has v (trees xs) → size v ≡ n
  sizes [] p v h = absurd h
  sizes (x ∷ xs) p v (inl e) = ap size e ∙ All-head HasArity x xs p
  sizes (x ∷ xs) p v (inr h) = sizes xs (All-tail HasArity x xs p) v h

  all_valid : (xs : List ValidTerm) → AllValid keys (trees xs)
  all_valid [] v h = absurd h
  all_valid (x ∷ xs) v (inl e) = subst (λ t. is_valid t ≡ true) (sym e) x.valid
  all_valid (x ∷ xs) v (inr h) = all_valid xs v h

  -- repeats
  abbrev pub is_repeat : ValidTerm → ValidTerm → Bool
  is_repeat x y = is_eq (place_cmp keys n (tree_of x) (tree_of y))

  abbrev same_place : Tree → Tree → Bool
  same_place t u = is_eq (place_cmp keys n t u)

  trees_from : (k : ValidTerm) (xs : List ValidTerm) → trees (dedup_from is_repeat k xs) ≡ dedup_from same_place (tree_of k) (trees xs)
  trees_from k [] = refl
  trees_from k (x ∷ xs) = by_test (trees_from k xs) (trees_from x xs) (is_repeat x k)
    where
      by_test : trees (dedup_from is_repeat k xs) ≡ dedup_from same_place (tree_of k) (trees xs) →
          trees (dedup_from is_repeat x xs) ≡ dedup_from same_place (tree_of x) (trees xs)
          → (b : Bool) → trees (cond b (dedup_from is_repeat k xs) (k ∷ dedup_from is_repeat x xs))
          ≡ cond b (dedup_from same_place (tree_of k) (trees xs)) (tree_of k ∷ dedup_from same_place (tree_of x) (trees xs))
      by_test further other true = further
      by_test further other false = ap (λ ts. tree_of k ∷ ts) other

  trees_dropped : (xs : List ValidTerm) → trees (dedup is_repeat xs) ≡ dedup same_place (trees xs)
  trees_dropped [] = refl
  trees_dropped (x ∷ xs) = trees_from x xs

  abbrev HasSize : Tree → Type 0
  HasSize t = size t ≡ n

  of_tuples : (xs : List ValidTerm) → All HasSize (trees xs) → All HasArity xs
  of_tuples [] p = All-nil HasArity
  of_tuples (x ∷ xs) p = All-cons HasArity x xs (All-head HasSize (tree_of x) (trees xs) p) (of_tuples xs (All-tail HasSize (tree_of x) (trees xs) p))

  -- what a sort and a dropping of repeats leave
  pub left_is : (xs ys zs : List ValidTerm) → All HasSize (trees xs) → IsPermutation xs ys → IsSortedBy goes_before ys → zs ≡ dedup is_repeat ys →
      trees zs ≡ in_key_order keys (trees xs)
  left_is xs ys zs p moved sorted left =
      let q : All HasArity ys = All-permutation HasArity xs ys moved (of_tuples xs p) in
      let trees_moved = IsPermutation-map tree_of xs ys moved in
      ap trees left
      ∙ trees_dropped ys
      ∙ dropped_is keys same_place (trees xs) (trees ys) (sorted_trees ys q sorted) (all_valid xs) (has_moved (trees xs) (trees ys) trees_moved)
      (has_moved_back (trees xs) (trees ys) trees_moved)
      (λ t u h k. ap is_eq (by_keys t u (sizes ys q t h) (sizes ys q u k)))
