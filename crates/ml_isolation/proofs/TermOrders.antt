-- Orders of terms and of ids: each is total, and ties what is the same.
use Rattle.std.specs.Prelude.{◌≡◌, ℕ, true, false, List, []}
use Rattle.std.specs.Cmp.{IsTotalOrder, bool_cmp_total}
use Rattle.std.specs.Ordering.{ordering_then, ordering_reverse}
use Rattle.std.specs.declared.cmp.Ordering.{Ordering}
use Rattle.std.specs.declared.cmp.Ordering.TheVariants.{Less, Equal, Greater}
use Rattle.std.proofs.Common.{refl, ap, ◌++◌}
use Rattle.std.proofs.lemmas.Cmp.{tied_itself, nat_cmp_total, int_cmp_total, nat_list_cmp_total, lists_total, on_total, then_total}
use Rattle.ml_term.specs.Tree.{Tree, Trees, variable, integer, atom, compound, no_trees, tree, arity}
use Rattle.ml_term.specs.Order.{tree_cmp, trees_cmp}
use Rattle.ml_term.specs.Keys.{tuple_key, tuple_cmp}
use Rattle.ml_term.specs.Valid.{is_valid}
use Rattle.ml_term.proofs.KeysTellTuples.{tuple_keys_tell, equal_bits}
use Rattle.ml_search.specs.Db.{Place, at, mine, Id, place_cmp, id_cmp, is_less, is_equal, is_same}

then_equal : (o p : Ordering) → o ≡ Equal → p ≡ Equal → ordering_then o p ≡ Equal
then_equal Less p e f = e
then_equal Equal p e f = f
then_equal Greater p e f = e

mutual
  tree_ties : (t : Tree) → tree_cmp t t ≡ Equal
  tree_ties (variable n) = tied_itself nat_cmp_total n
  tree_ties (integer z) = tied_itself int_cmp_total z
  tree_ties (atom f) = tied_itself nat_list_cmp_total f
  tree_ties (compound f ts) = then_equal _ _ (tied_itself nat_cmp_total (arity ts)) (then_equal _ _ (tied_itself nat_list_cmp_total f) (trees_tie ts))

  trees_tie : (ts : Trees) → trees_cmp ts ts ≡ Equal
  trees_tie no_trees = refl
  trees_tie (tree t ts) = then_equal _ _ (tree_ties t) (trees_tie ts)

-- a term is the same as itself
pub same_term : (t : Tree) → is_same t t ≡ true
same_term t = ap is_equal (tree_ties t)

-- what the tests of an order say
pub is_less_says : (o : Ordering) → is_less o ≡ true → o ≡ Less
is_less_says Less h = refl
is_less_says Equal h = absurd (cc h)
is_less_says Greater h = absurd (cc h)

pub less_is_not_equal : (o : Ordering) → is_less o ≡ true → is_equal o ≡ false
less_is_not_equal Less h = refl
less_is_not_equal Equal h = absurd (cc h)
less_is_not_equal Greater h = refl

turned_less : (o p : Ordering) → o ≡ ordering_reverse p → is_less p ≡ false → (p ≡ Equal → ⊥) → is_less o ≡ true
turned_less o Less e h n = absurd (cc h)
turned_less o Equal e h n = absurd (n refl)
turned_less o Greater e h n = ap is_less e

turned_differs : (o p : Ordering) → o ≡ ordering_reverse p → is_less p ≡ true → is_equal o ≡ false
turned_differs o Less e h = ap is_equal e
turned_differs o Equal e h = absurd (cc h)
turned_differs o Greater e h = absurd (cc h)

-- a total order
pub less_through : {A : Type 0} (R : A → A → Ordering) → IsTotalOrder R → (x y z : A) → is_less (R x y) ≡ true → is_less (R y z) ≡ true → is_less (R x z) ≡ true
less_through R total x y z p q = ap is_less (total.trans x y z (is_less_says (R x y) p) (is_less_says (R y z) q))

pub not_less_turned : {A : Type 0} (R : A → A → Ordering) → IsTotalOrder R → (x y : A) → is_less (R x y) ≡ false → (R x y ≡ Equal → ⊥) → is_less (R y x) ≡ true
not_less_turned R total x y h n = turned_less (R y x) (R x y) (total.antisymm y x) h n

pub later_differs : {A : Type 0} (R : A → A → Ordering) → IsTotalOrder R → (x y : A) → is_less (R y x) ≡ true → is_equal (R x y) ≡ false
later_differs R total x y h = turned_differs (R x y) (R y x) (total.antisymm x y) h

-- tuples by their keys
pub key_total : (keys : List ℕ) → IsTotalOrder (tuple_cmp keys)
key_total keys = on_total (tuple_key keys) (lists_total bool_cmp_total)

pub key_tells : (keys : List ℕ) (t u : Tree) → is_valid t ≡ true → is_valid u ≡ true → tuple_cmp keys t u ≡ Equal → t ≡ u
key_tells keys t u p q e = tuple_keys_tell keys t u [] [] p q (ap (λ k. k ++ []) (equal_bits (tuple_key keys t) (tuple_key keys u) e))

-- places, and ids
place_turned : (p q : Place) → place_cmp p q ≡ ordering_reverse (place_cmp q p)
place_turned (at m) (at n) = nat_cmp_total.antisymm m n
place_turned (at m) mine = refl
place_turned mine (at n) = refl
place_turned mine mine = refl

place_through : (p q r : Place) → place_cmp p q ≡ Less → place_cmp q r ≡ Less → place_cmp p r ≡ Less
place_through (at l) (at m) (at n) e f = nat_cmp_total.trans l m n e f
place_through (at l) (at m) mine e f = refl
place_through (at l) mine (at n) e f = absurd (cc f)
place_through (at l) mine mine e f = refl
place_through mine (at m) r e f = absurd (cc e)
place_through mine mine r e f = absurd (cc e)

place_same : (p q r : Place) → place_cmp p q ≡ Equal → place_cmp p r ≡ place_cmp q r
place_same (at l) (at m) (at n) e = nat_cmp_total.congr l m n e
place_same (at l) (at m) mine e = refl
place_same (at l) mine r e = absurd (cc e)
place_same mine (at m) r e = absurd (cc e)
place_same mine mine r e = refl

place_total : IsTotalOrder place_cmp
place_total = record { antisymm = place_turned; trans = place_through; congr = place_same }

pub id_total : IsTotalOrder id_cmp
id_total = then_total (on_total (λ (a : Id). a.place) place_total) (on_total (λ (a : Id). a.change) nat_cmp_total)
