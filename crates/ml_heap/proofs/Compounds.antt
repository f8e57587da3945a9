-- The equation of two compounds: when it is split into those of the arguments, and when it clashes.
use Rattle.std.specs.Prelude.{◌≡◌, ℕ, true, false, Bool, ◌&&◌, ◌==◌, cond, List, [], ◌∷◌, map, length}
use Rattle.std.specs.Str.{bytes_eq}
use Rattle.std.proofs.Common.{inl, inr, refl, sym, ap, ◌∙◌, subst}
use Rattle.std.proofs.lemmas.Bool.{eq-eqb}
use Rattle.std.proofs.lemmas.Bool.Decides.{eqb_tells}
use Rattle.std.proofs.lemmas.Slice.Eq.{bytes_eq-Decides}
use Rattle.ml_term.specs.Tree.{Tree, compound, trees_of, list_of, arity}
use Rattle.ml_term.specs.Unify.{Step, decompose, clash, step}
use Rattle.ml_term.proofs.TermSizes.{arity_of_trees}
use Rattle.ml_heap.specs.Changes.{Changes, stands_for}
use Rattle.ml_heap.specs.Looks.{Tells}
use Rattle.ml_heap.specs.inside.Rules.{AreInside, pairs}
use Rattle.ml_heap.specs.declared.cell.Cell.{Cell}
use Rattle.ml_heap.specs.declared.cell.Cell.TheVariants.{Cmp}
use Rattle.ml_heap.proofs.HeapInvariant.{listed}

pub not_both : (b : Bool) → b ≡ true → b ≡ false → ⊥
not_both b e k = cc

same_number : (m n : ℕ) → (m == n) ≡ true → m ≡ n
same_number m n e = elim (eqb_tells m n) [ inl q ↦ q.1 | inr q ↦ absurd (cc (q.0, e)) ]

both_fail : (b c : Bool) (x : Step) → (b ≡ true → c ≡ true → ⊥) → cond (b && c) x clash ≡ clash
both_fail true true x h = absurd (h refl refl)
both_fail true false x h = refl
both_fail false c x h = refl

module _ (h : Changes) (t u : Tree) (f g qs ps : List ℕ) (e : t ≡ compound f (trees_of (map (stands_for h) qs)))
    (k : u ≡ compound g (trees_of (map (stands_for h) ps))) where
  abbrev ts : List Tree
  ts = map (stands_for h) qs

  abbrev us : List Tree
  us = map (stands_for h) ps

  pub split_of : f ≡ g → length qs ≡ length ps → step t u ≡ decompose (pairs h qs ps)
  split_of n l =
      let names : bytes_eq f g ≡ true = (bytes_eq-Decides f g).1 n in
      let arities : (arity (trees_of ts) == arity (trees_of us)) ≡ true =
      eq-eqb _ _ (arity_of_trees (stands_for h) qs ∙ (l ∙ sym (arity_of_trees (stands_for h) ps))) in
      rw (e, k, names, arities, listed ts, listed us) refl

  pub clash_of : (f ≡ g → length qs ≡ length ps → ⊥) → step t u ≡ clash
  clash_of d =
      rw (e, k) (both_fail (bytes_eq f g) (arity (trees_of ts) == arity (trees_of us)) _ (λ n a. d ((bytes_eq-Decides f g).0 n)
      (sym (arity_of_trees (stands_for h) qs) ∙ (same_number _ _ a ∙ arity_of_trees (stands_for h) ps))))

-- the same by what two cells tell, where their arguments are read by other names
module _ (h : Changes) (t u : Tree) (one other : Cell) (told_one : Tells h t one) (told_other : Tells h u other) (f g qs ps qs' ps' : List ℕ) (b d : Bool)
    (is_one : one ≡ Cmp f qs b) (is_other : other ≡ Cmp g ps d) (e : qs' ≡ qs) (k : ps' ≡ ps) where
  first : Tells h t (Cmp f qs' b)
  first = rw e (subst (Tells h t) is_one told_one)

  second : Tells h u (Cmp g ps' d)
  second = rw k (subst (Tells h u) is_other told_other)

  pub is_split : f ≡ g → length qs' ≡ length ps' → (length qs' ≡ length ps') × AreInside h qs' × AreInside h ps' × (step t u ≡ decompose (pairs h qs' ps'))
  is_split n l = (l, first.1, second.1, split_of h t u f g qs' ps' first.0 second.0 n l)

  pub is_clash : (f ≡ g → length qs' ≡ length ps' → ⊥) → step t u ≡ clash
  is_clash = clash_of h t u f g qs' ps' first.0 second.0
