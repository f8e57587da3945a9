-- The trees of a heap whose changes are valid are terms of the language.
use Rattle.std.specs.Prelude.{◌≡◌, ℕ, zero, suc, ◌^◌, ◌<◌, ◌≤◌, nat_lt, nat_le, ◌+◌, ◌==◌, cond, Bool, true, false, ◌&&◌, pos, List, [], ◌∷◌, ◌++◌, map, length}
use Rattle.std.specs.List.{list_all}
use Rattle.std.proofs.Common.{refl, sym, ap, ◌∙◌, subst, arith}
use Rattle.std.proofs.Math.ListN.{get_or-map}
use Rattle.std.proofs.lemmas.Bool.{and_parts, and_from, lt-ltb}
use Rattle.ml_term.specs.Tree.{Tree, Trees, variable, integer, atom, compound, no_trees, tree, trees_of, arity, substitute_in}
use Rattle.ml_term.specs.Unify.{value_of, apply, binding}
use Rattle.ml_term.specs.Valid.{is_valid, are_valid}
use Rattle.ml_term.proofs.TermSizes.{arity_of_trees}
use Rattle.ml_term.proofs.Substitutions.{arity_kept}
use Rattle.ml_heap.specs.Changes.{Changes, variable_made, integer_made, atom_made, compound_made, variable_bound, numbers_left_out, ground_found, state}
use Rattle.ml_heap.specs.Changes.{tree_in, bind_in, stands_for, variable_count}
use Rattle.ml_heap.specs.inside.Layout.{is_valid_change}

-- all trees of a list are valid
abbrev AllValid : List Tree → Type 0
AllValid ts = (r : ℕ) → is_valid (tree_in ts r) ≡ true

mutual
  replaced : (n : ℕ) (u t : Tree) → is_valid u ≡ true → is_valid t ≡ true → is_valid (apply (binding n u) t) ≡ true
  replaced n u (variable k) a b = either (n == k)
    where
      either : (c : Bool) → is_valid (cond c u (variable k)) ≡ true
      either true = a
      either false = b
  replaced n u (integer z) a b = b
  replaced n u (atom f) a b = b
  replaced n u (compound f ts) a b =
      let whole = and_parts _ _ b in
      let front = and_parts _ _ whole.0 in
      let head = and_parts _ _ front.0 in
      and_from _ _
      (and_from _ _ (and_from _ _ head.0 (ap (nat_le 1) (arity_kept (value_of (binding n u)) ts) ∙ head.1))
      (ap (λ k. nat_le k 255) (arity_kept (value_of (binding n u)) ts) ∙ front.1))
      (all_replaced n u ts a whole.1)

  all_replaced : (n : ℕ) (u : Tree) (ts : Trees) → is_valid u ≡ true → are_valid ts ≡ true → are_valid (substitute_in (value_of (binding n u)) ts) ≡ true
  all_replaced n u no_trees a b = refl
  all_replaced n u (tree t ts) a b = let parts = and_parts _ _ b in and_from _ _ (replaced n u t a parts.0) (all_replaced n u ts a parts.1)

one_more : (t : Tree) (ts : List Tree) → is_valid t ≡ true → AllValid ts → AllValid (ts ++ t ∷ [])
one_more t [] b a zero = b
one_more t [] b a (suc r) = refl
one_more t (u ∷ us) b a zero = a 0
one_more t (u ∷ us) b a (suc r) = one_more t us b (λ r. a (suc r)) r

of_places : (ts : List Tree) → AllValid ts → (qs : List ℕ) → are_valid (trees_of (map (tree_in ts) qs)) ≡ true
of_places ts a [] = refl
of_places ts a (q ∷ qs) = and_from _ _ (a q) (of_places ts a qs)

a_compound : (ts : List Tree) (f qs : List ℕ) → AllValid ts → is_valid_change (compound_made f qs) ≡ true →
    is_valid (compound f (trees_of (map (tree_in ts) qs))) ≡ true
a_compound ts f qs a v =
    let front = and_parts _ _ v in
    let head = and_parts _ _ front.0 in
    and_from _ _ (and_from _ _ (and_from _ _ head.0 (ap (nat_le 1) (arity_of_trees (tree_in ts) qs) ∙ head.1))
    (ap (λ k. nat_le k 255) (arity_of_trees (tree_in ts) qs) ∙ front.1)) (of_places ts a qs)

all_bound : (v u : Tree) (ts : List Tree) → is_valid u ≡ true → AllValid ts → AllValid (bind_in v u ts)
all_bound (variable n) u ts b a = λ r. ap is_valid (get_or-map (apply (binding n u)) ts r (integer (pos 0))) ∙ replaced n u (tree_in ts r) b (a r)
all_bound (integer z) u ts b a = a
all_bound (atom f) u ts b a = a
all_bound (compound f us) u ts b a = a

all_valid : (h : Changes) → list_all is_valid_change h ≡ true → (state h).created ≤ 2 ^ 32 → AllValid (state h).trees
unfolding state
all_valid [] v l = λ r. refl
all_valid (variable_made ∷ h) v l = one_more (variable (state h).created) (state h).trees (lt-ltb (state h).created (2 ^ 32) (omega arith))
    (all_valid h v (omega arith))
all_valid (integer_made z ∷ h) v l = let parts = and_parts _ _ v in one_more (integer z) (state h).trees parts.0 (all_valid h parts.1 l)
all_valid (atom_made f ∷ h) v l = let parts = and_parts _ _ v in one_more (atom f) (state h).trees parts.0 (all_valid h parts.1 l)
all_valid (compound_made f qs ∷ h) v l =
    let parts = and_parts _ _ v in
    let older = all_valid h parts.1 l in
    one_more (compound f (trees_of (map (tree_in (state h).trees) qs))) (state h).trees (a_compound (state h).trees f qs older parts.0) older
all_valid (variable_bound w q ∷ h) v l = let older = all_valid h v l in
    all_bound (tree_in (state h).trees w) (tree_in (state h).trees q) (state h).trees (older q) older
all_valid (numbers_left_out n ∷ h) v l = all_valid h v (omega arith)
all_valid (ground_found r ∷ h) v l = all_valid h v l

pub stands_for_a_term : (h : Changes) → list_all is_valid_change h ≡ true → variable_count h ≤ 2 ^ 32 → (r : ℕ) → is_valid (stands_for h r) ≡ true
stands_for_a_term h v l r = all_valid h v l r
