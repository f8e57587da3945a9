-- What is printed of a ball, as the code tests it: of `error(Formal, _)` its first argument, and else the ball.
use Rattle.std.proofs.Common.{◌≡◌, ◌≢◌, ℕ, true, false, List, [], ◌∷◌, codes, length, get_or, refl, ap, sym, ◌∙◌, arith, cond}
use Rattle.std.specs.Str.{bytes_eq}
use Rattle.ml_term.specs.Seen.{seen, all_seen}
use Rattle.ml_term.specs.Tree.{compound, compound_2, trees_of}
use Rattle.ml_term.specs.declared.term.Term.{Term}
use Rattle.ml_term.specs.declared.term.Term.TheVariants.{Cmp}
use Rattle.ml_term.proofs.CompoundTrees.{seen_compound}
use Rattle.ml_search.specs.Errors.{formal_term}

compound_is : (term : Term) (f : List ℕ) (ts us : List Term) → term ≡ Cmp f ts → us ≡ ts → seen term ≡ compound f (trees_of (all_seen us))
compound_is term f ts us is same = ap seen is ∙ (seen_compound f ts ∙ ap (λ vs. compound f (trees_of (all_seen vs))) (sym same))

no_pair : (f : List ℕ) (us : List Term) → length us ≢ 2 → formal_term (compound f (trees_of (all_seen us))) ≡ compound f (trees_of (all_seen us))
no_pair f [] d = refl
no_pair f (x ∷ []) d = refl
no_pair f (x ∷ y ∷ []) d = absurd (d refl)
no_pair f (x ∷ y ∷ z ∷ us) d = refl

module _ (term : Term) (f : List ℕ) (ts us : List Term) (is : term ≡ Cmp f ts) (same : us ≡ ts) where
  -- not two arguments
  pub formal_by_count : length us ≢ 2 → formal_term (seen term) ≡ seen term
  formal_by_count d =
      let e = compound_is term f ts us is same in
      ap formal_term e ∙ (no_pair f us d ∙ sym e)

  by_name : (x y : Term) (b : _) → bytes_eq f (codes "error") ≡ b → us ≡ x ∷ y ∷ [] → formal_term (seen term) ≡ cond b (seen x) (compound_2 f (seen x) (seen y))
  by_name x y b e two =
      ap formal_term (compound_is term f ts us is same ∙ ap (λ vs. compound f (trees_of (all_seen vs))) two)
      ∙ ap (λ t. cond t (seen x) (compound_2 f (seen x) (seen y))) e

  -- two arguments of another name
  pub formal_by_name : (name : List ℕ) → length us ≡ 2 → name ≡ f → bytes_eq name (codes "error") ≡ false → formal_term (seen term) ≡ seen term
  formal_by_name name two n e = by us refl two
    where
      by : (vs : List Term) → us ≡ vs → length vs ≡ 2 → formal_term (seen term) ≡ seen term
      by [] q l = absurd (omega (arith, l))
      by (x ∷ []) q l = absurd (omega (arith, l))
      by (x ∷ y ∷ []) q l =
          by_name x y false (ap (λ k. bytes_eq k (codes "error")) (sym n) ∙ e) q
          ∙ sym (compound_is term f ts us is same ∙ ap (λ vs. compound f (trees_of (all_seen vs))) q)
      by (x ∷ y ∷ z ∷ vs) q l = absurd (omega (arith, l))

  -- an error
  pub formal_first : (name : List ℕ) (a : Term) → length us ≡ 2 → name ≡ f → bytes_eq name (codes "error") ≡ true → a ≡ get_or us 0 a →
      formal_term (seen term) ≡ seen a
  formal_first name a two n e first = by us refl two
    where
      by : (vs : List Term) → us ≡ vs → length vs ≡ 2 → formal_term (seen term) ≡ seen a
      by [] q l = absurd (omega (arith, l))
      by (x ∷ []) q l = absurd (omega (arith, l))
      by (x ∷ y ∷ []) q l =
          let here : x ≡ a = sym (first ∙ ap (λ vs. get_or vs 0 a) q) in
          by_name x y true (ap (λ k. bytes_eq k (codes "error")) (sym n) ∙ e) q ∙ ap seen here
      by (x ∷ y ∷ z ∷ vs) q l = absurd (omega (arith, l))
