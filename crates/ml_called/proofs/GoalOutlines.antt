-- The outline of a term that is no connective of two.
use Rattle.std.specs.Prelude.{◌≡◌, ℕ, zero, suc, ◌+◌, ◌<◌, false, cond, List, [], ◌∷◌, ◌++◌, length, take}
use Rattle.std.proofs.Common.{refl, ap, sym, ◌∙◌, subst, arith}
use Rattle.std.proofs.lemmas.List.{map_push}
use Rattle.ml_term.specs.Tree.{Tree, variable, compound, compound_2, trees_of}
use Rattle.ml_term.specs.Seen.{seen, all_seen}
use Rattle.ml_term.specs.declared.term.Term.{Term}
use Rattle.ml_heap.specs.Changes.{Changes, cell_count, stands_for, tree_in}
use Rattle.ml_called.specs.Called.{numbered}
use Rattle.ml_called.specs.inside.Pairs.{is_joined}
use Rattle.ml_called.specs.inside.Outlines.{parts, outline, HasCells}
use Rattle.ml_called.proofs.ChangedTerms.{list_of_trees}
use Rattle.ml_called.proofs.RestoredTerms.{numbered_more}
use Rattle.ml_called.proofs.Slots.{one_cell, cells_on}

pub count_numbered : {A : Type 0} (n : ℕ) (xs : List A) → length (numbered n xs) ≡ length xs
count_numbered n [] = refl
count_numbered n (x ∷ xs) = omega (arith, count_numbered (n + 1) xs)

one_more : (ts : List Tree) (i : ℕ) → i < length ts → take (i + 1) ts ≡ take i ts ++ tree_in ts i ∷ []
one_more [] i l = absurd (omega (arith, l))
one_more (t ∷ ts) zero l = refl
one_more (t ∷ ts) (suc i) l =
    let e : suc i + 1 ≡ suc (i + 1) = omega arith in
    ap (λ k. take k (t ∷ ts)) e ∙ ap (λ us. t ∷ us) (one_more ts i (omega (arith, l)))

pub count_taken : (ts : List Tree) (i : ℕ) → i < length ts → length (take i ts) ≡ i
count_taken [] i l = absurd (omega (arith, l))
count_taken (t ∷ ts) zero l = refl
count_taken (t ∷ ts) (suc i) l = omega (arith, count_taken ts i (omega (arith, l)))

-- one argument's variable more
module _ (h : Changes) (ts : List Tree) (i : ℕ) (l : i < length ts) where
  pub one_variable : (n m : ℕ) (us new : List Term) (u : Term) → all_seen us ≡ numbered n (take i ts) → new ≡ us ++ u ∷ [] → seen u ≡ variable m → m ≡ n + i
      → all_seen new ≡ numbered n (take (i + 1) ts)
  one_variable n m us new u e d s p =
      let count : n + length (take i ts) ≡ m = omega (arith, count_taken ts i l, p) in
      ap all_seen d
      ∙ (map_push seen us u
      ∙ (ap (λ x. x ++ seen u ∷ []) e
      ∙ (ap (λ x. numbered n (take i ts) ++ x ∷ []) (s ∙ ap variable (sym count))
      ∙ (sym (numbered_more n (take i ts) (tree_in ts i ∷ [])) ∙ ap (numbered n) (sym (one_more ts i l))))))

  pub one_slot : (old slots new : List ℕ) (r : ℕ) → HasCells h old slots (take i ts) → r < cell_count h → stands_for h r ≡ tree_in ts i → new ≡ slots ++ r ∷ []
      → HasCells h old new (take (i + 1) ts)
  one_slot old slots new r c j e n =
      subst (λ (us : List Tree). HasCells h old new us) (sym (one_more ts i l))
      (cells_on h old slots new (take i ts) (tree_in ts i ∷ []) c (one_cell h slots new r (tree_in ts i) j e n))

-- a compound that is no connective of two
module _ (f : List ℕ) (n : ℕ) where
  pub compound_outline : (ts : List Tree) → is_joined (compound f (trees_of ts)) ≡ false → outline n (compound f (trees_of ts))
      ≡ compound f (trees_of (numbered n ts))
  compound_outline [] j = refl
  compound_outline (t ∷ []) j = refl
  compound_outline (t ∷ u ∷ []) j = ap (λ b. cond b (compound_2 f (outline n t) (outline (n + length (parts t)) u)) (compound_2 f (variable n) (variable
      (n + 1)))) j
  compound_outline (t ∷ u ∷ v ∷ ts) j =
      ap (λ us. compound f (trees_of (variable n ∷ variable (n + 1) ∷ variable (n + 1 + 1) ∷ numbered (n + 1 + 1 + 1) us))) (list_of_trees ts)

  pub compound_parts : (ts : List Tree) → is_joined (compound f (trees_of ts)) ≡ false → parts (compound f (trees_of ts)) ≡ ts
  compound_parts [] j = refl
  compound_parts (t ∷ []) j = refl
  compound_parts (t ∷ u ∷ []) j = ap (λ b. cond b (parts t ++ parts u) (t ∷ u ∷ [])) j
  compound_parts (t ∷ u ∷ v ∷ ts) j = ap (λ us. t ∷ u ∷ v ∷ us) (list_of_trees ts)
