-- Terms that compare equal are the same.
use Rattle.std.specs.Prelude.{◌≡◌, true}
use Rattle.std.specs.declared.cmp.Ordering.{Ordering}
use Rattle.std.specs.declared.cmp.Ordering.TheVariants.{Less, Equal, Greater}
use Rattle.std.specs.Ordering.{ordering_then}
use Rattle.std.proofs.Common.{refl, ap, ◌∙◌, arith}
use Rattle.std.proofs.lemmas.Map.Lookups.{exact_signed, exact_unsigned, exact_bytes}
use Rattle.ml_term.specs.Tree.{Tree, Trees, variable, integer, atom, compound, no_trees, tree, arity}
use Rattle.ml_term.specs.Order.{tree_cmp, trees_cmp}
use Rattle.ml_search.specs.Db.{is_equal, is_same}

both_tie : (o p : Ordering) → ordering_then o p ≡ Equal → (o ≡ Equal) × (p ≡ Equal)
both_tie Less p e = absurd (cc e)
both_tie Equal p e = (refl, e)
both_tie Greater p e = absurd (cc e)

equal_says : (o : Ordering) → is_equal o ≡ true → o ≡ Equal
equal_says Less h = absurd (cc h)
equal_says Equal h = refl
equal_says Greater h = absurd (cc h)

mutual
  tied_terms : (t u : Tree) → tree_cmp t u ≡ Equal → t ≡ u
  tied_terms (variable m) (variable n) e = ap variable (exact_unsigned m n e)
  tied_terms (integer y) (integer z) e = ap integer (exact_signed y z e)
  tied_terms (atom f) (atom g) e = ap atom (exact_bytes f g e)
  tied_terms (compound f ts) (compound g us) e =
      let p = both_tie _ _ e in
      let q = both_tie _ _ p.1 in ap (λ h. compound h ts) (exact_bytes f g q.0) ∙ ap (compound g) (tied_many ts us q.1)
  tied_terms t u e = absurd (cc e)

  tied_many : (ts us : Trees) → trees_cmp ts us ≡ Equal → ts ≡ us
  tied_many no_trees no_trees e = refl
  tied_many no_trees (tree u us) e = let n : 0 ≡ arity (tree u us) = exact_unsigned _ _ e in absurd (omega (arith, n))
  tied_many (tree t ts) no_trees e = let n : arity (tree t ts) ≡ 0 = exact_unsigned _ _ e in absurd (omega (arith, n))
  tied_many (tree t ts) (tree u us) e =
      let p = both_tie _ _ e in ap (λ x. tree x ts) (tied_terms t u p.0) ∙ ap (tree u) (tied_many ts us p.1)

pub same_terms : (t u : Tree) → is_same t u ≡ true → t ≡ u
same_terms t u h = tied_terms t u (equal_says (tree_cmp t u) h)
