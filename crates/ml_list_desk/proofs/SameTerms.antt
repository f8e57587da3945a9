-- Terms that the standard order takes for equal are the same.
use Rattle.std.proofs.Common.{◌≡◌, ℕ, ◌+◌, true, List, refl, ap, arith}
use Rattle.std.specs.declared.cmp.Ordering.{Ordering}
use Rattle.std.specs.declared.cmp.Ordering.TheVariants.{Less, Equal, Greater}
use Rattle.std.specs.Ordering.{nat_cmp, ordering_then}
use Rattle.std.specs.Cmp.Lexicographic.{slice_cmp}
use Rattle.std.specs.FinMap.{nat_cmp-IsAntisymmetric, int_cmp-IsAntisymmetric, slice_cmp-IsAntisymmetric}
use Rattle.std.proofs.lemmas.Cmp.{tied_itself, nat_cmp_total, int_cmp_total, nat_list_cmp_total}
use Rattle.ml_term.specs.Tree.{Tree, Trees, variable, integer, atom, compound, no_trees, tree, arity}
use Rattle.ml_term.specs.Order.{tree_cmp, trees_cmp}
use Rattle.ml_search.specs.Db.{is_equal, is_same}

both_equal : (o p : Ordering) → ordering_then o p ≡ Equal → (o ≡ Equal) × (p ≡ Equal)
both_equal Less p e = cc
both_equal Equal p e = (refl, e)
both_equal Greater p e = cc

names_equal : (f g : List ℕ) → slice_cmp nat_cmp f g ≡ Equal → f ≡ g
names_equal = slice_cmp-IsAntisymmetric nat_cmp-IsAntisymmetric

mutual
  equal_trees : (t u : Tree) → tree_cmp t u ≡ Equal → t ≡ u
  equal_trees (variable m) (variable n) e = ap variable (nat_cmp-IsAntisymmetric m n e)
  equal_trees (variable m) (integer z) e = cc
  equal_trees (variable m) (atom g) e = cc
  equal_trees (variable m) (compound g us) e = cc
  equal_trees (integer y) (variable n) e = cc
  equal_trees (integer y) (integer z) e = ap integer (int_cmp-IsAntisymmetric y z e)
  equal_trees (integer y) (atom g) e = cc
  equal_trees (integer y) (compound g us) e = cc
  equal_trees (atom f) (variable n) e = cc
  equal_trees (atom f) (integer z) e = cc
  equal_trees (atom f) (atom g) e = ap atom (names_equal f g e)
  equal_trees (atom f) (compound g us) e = cc
  equal_trees (compound f ts) (variable n) e = cc
  equal_trees (compound f ts) (integer z) e = cc
  equal_trees (compound f ts) (atom g) e = cc
  equal_trees (compound f ts) (compound g us) e =
      let arities = both_equal (nat_cmp (arity ts) (arity us)) (ordering_then (slice_cmp nat_cmp f g) (trees_cmp ts us)) e in
      let parts = both_equal (slice_cmp nat_cmp f g) (trees_cmp ts us) arities.1 in
      let name : f ≡ g = names_equal f g parts.0 in
      let args : ts ≡ us = equal_arguments ts us parts.1 in
      cc

  equal_arguments : (ts us : Trees) → trees_cmp ts us ≡ Equal → ts ≡ us
  equal_arguments no_trees no_trees e = refl
  equal_arguments no_trees (tree u us) e = let as_many : 0 ≡ 1 + arity us = nat_cmp-IsAntisymmetric 0 (1 + arity us) e in absurd (omega arith)
  equal_arguments (tree t ts) no_trees e = let as_many : 1 + arity ts ≡ 0 = nat_cmp-IsAntisymmetric (1 + arity ts) 0 e in absurd (omega arith)
  equal_arguments (tree t ts) (tree u us) e =
      let parts = both_equal (tree_cmp t u) (trees_cmp ts us) e in
      let first : t ≡ u = equal_trees t u parts.0 in
      let others : ts ≡ us = equal_arguments ts us parts.1 in
      cc

then_equal : (o p : Ordering) → o ≡ Equal → p ≡ Equal → ordering_then o p ≡ Equal
then_equal Less p e f = cc
then_equal Equal p e f = f
then_equal Greater p e f = cc

mutual
  ties_itself : (t : Tree) → tree_cmp t t ≡ Equal
  ties_itself (variable n) = tied_itself nat_cmp_total n
  ties_itself (integer z) = tied_itself int_cmp_total z
  ties_itself (atom f) = tied_itself nat_list_cmp_total f
  ties_itself (compound f ts) = then_equal _ _ (tied_itself nat_cmp_total (arity ts))
      (then_equal _ _ (tied_itself nat_list_cmp_total f) (tie_themselves ts))

  tie_themselves : (ts : Trees) → trees_cmp ts ts ≡ Equal
  tie_themselves no_trees = refl
  tie_themselves (tree t ts) = then_equal _ _ (ties_itself t) (tie_themselves ts)

is_equal_tells : (o : Ordering) → is_equal o ≡ true → o ≡ Equal
is_equal_tells Less e = cc
is_equal_tells Equal e = refl
is_equal_tells Greater e = cc

pub same_is_equal : (t u : Tree) → is_same t u ≡ true → t ≡ u
same_is_equal t u e = equal_trees t u (is_equal_tells (tree_cmp t u) e)

pub same_as_itself : (t : Tree) → is_same t t ≡ true
same_as_itself t = ap is_equal (ties_itself t)
