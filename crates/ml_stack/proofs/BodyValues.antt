-- The trees that a body has by an environment, after a map is applied to the environment's trees.
use Rattle.std.specs.Prelude.{◌≡◌, ℕ, Bool, ◌||◌, true, List, [], ◌∷◌, map}
use Rattle.std.specs.List.{list_any}
use Rattle.std.proofs.Common.{refl, sym, ap, ◌∙◌}
use Rattle.std.proofs.lemmas.Bool.{or_left}
use Rattle.std.proofs.Math.Bool.{or-true}
use Rattle.ml_term.specs.Tree.{Tree, substitute, occurs}
use Rattle.ml_term.specs.Unify.{Map, value_of, apply}
use Rattle.ml_term.proofs.Substitutions.{twice, alike, as_it_is}
use Rattle.ml_search.specs.Bodies.{Body, true_goal, fail_goal, cut, conjunction, disjunction, if_then, if_then_else, call, once, not_provable, findall, catch}
use Rattle.ml_search.specs.Bodies.{throw, predication, in_body}
use Rattle.ml_stack.specs.Variables.{occurs_in}

-- where a variable occurs in one part or another
pub right_of : (a b : Bool) → b ≡ true → (a || b) ≡ true
right_of a b e = rw e (or-true a)

module _ (f g : ℕ → Tree) (m : Map) where
  -- what is to be shown of the variables that occur
  abbrev Follows : (ℕ → Bool) → Type 0
  Follows p = (n : ℕ) → p n ≡ true → g n ≡ apply m (f n)

  pub tree_follows : (t : Tree) → Follows (λ n. occurs n t) → substitute g t ≡ apply m (substitute f t)
  tree_follows t h = alike g (λ n. apply m (f n)) t h ∙ sym (twice (value_of m) f t)

  pub trees_follow : (ts : List Tree) → Follows (λ n. list_any (occurs n) ts) → map (substitute g) ts ≡ map (apply m) (map (substitute f) ts)
  trees_follow [] h = refl
  trees_follow (t ∷ ts) h =
      ap (λ x. x ∷ map (substitute g) ts) (tree_follows t (λ n e. h n (or_left _ _ e)))
      ∙ ap (λ x. apply m (substitute f t) ∷ x) (trees_follow ts (λ n e. h n (right_of _ _ e)))

  three_follow : (t u v : Tree) (k : Tree → Tree → Tree → Body) → Follows (λ n. occurs n t || (occurs n u || occurs n v))
      → k (substitute g t) (substitute g u) (substitute g v) ≡ k (apply m (substitute f t)) (apply m (substitute f u)) (apply m (substitute f v))
  three_follow t u v k h =
      ap (λ x. k x (substitute g u) (substitute g v)) (tree_follows t (λ n e. h n (or_left _ _ e)))
      ∙ ap (λ x. k (apply m (substitute f t)) x (substitute g v)) (tree_follows u (λ n e. h n (right_of _ _ (or_left _ _ e))))
      ∙ ap (λ x. k (apply m (substitute f t)) (apply m (substitute f u)) x) (tree_follows v (λ n e. h n (right_of _ _ (right_of _ _ e))))

  -- a body's trees by the second environment are those by the first one under the map
  pub body_follows : (b : Body) → Follows (λ n. occurs_in n b) → in_body (substitute g) b ≡ in_body (apply m) (in_body (substitute f) b)
  body_follows true_goal h = refl
  body_follows fail_goal h = refl
  body_follows cut h = refl
  body_follows (conjunction a b) h =
      ap (λ x. conjunction x (in_body (substitute g) b)) (body_follows a (λ n e. h n (or_left _ _ e)))
      ∙ ap (λ x. conjunction (in_body (apply m) (in_body (substitute f) a)) x) (body_follows b (λ n e. h n (right_of _ _ e)))
  body_follows (disjunction a b) h =
      ap (λ x. disjunction x (in_body (substitute g) b)) (body_follows a (λ n e. h n (or_left _ _ e)))
      ∙ ap (λ x. disjunction (in_body (apply m) (in_body (substitute f) a)) x) (body_follows b (λ n e. h n (right_of _ _ e)))
  body_follows (if_then a b) h =
      ap (λ x. if_then x (in_body (substitute g) b)) (body_follows a (λ n e. h n (or_left _ _ e)))
      ∙ ap (λ x. if_then (in_body (apply m) (in_body (substitute f) a)) x) (body_follows b (λ n e. h n (right_of _ _ e)))
  body_follows (if_then_else c a b) h =
      ap (λ x. if_then_else x (in_body (substitute g) a) (in_body (substitute g) b)) (body_follows c (λ n e. h n (or_left _ _ e)))
      ∙ ap (λ x. if_then_else (in_body (apply m) (in_body (substitute f) c)) x (in_body (substitute g) b))
      (body_follows a (λ n e. h n (right_of _ _ (or_left _ _ e))))
      ∙ ap (λ x. if_then_else (in_body (apply m) (in_body (substitute f) c)) (in_body (apply m) (in_body (substitute f) a)) x)
      (body_follows b (λ n e. h n (right_of _ _ (right_of _ _ e))))
  body_follows (call t) h = ap call (tree_follows t h)
  body_follows (once t) h = ap once (tree_follows t h)
  body_follows (not_provable t) h = ap not_provable (tree_follows t h)
  body_follows (findall t u v) h = three_follow t u v findall h
  body_follows (catch t u v) h = three_follow t u v catch h
  body_follows (throw t) h = ap throw (tree_follows t h)
  body_follows (predication k ts) h = ap (predication k) (trees_follow ts h)

-- the empty map changes nothing
pub same_tree : (t : Tree) → apply [] t ≡ t
same_tree t = as_it_is t

pub same_trees : (ts : List Tree) → map (apply []) ts ≡ ts
same_trees [] = refl
same_trees (t ∷ ts) = ap (λ x. x ∷ map (apply []) ts) (same_tree t) ∙ ap (λ x. t ∷ x) (same_trees ts)

same_three : (k : Tree → Tree → Tree → Body) (t u v : Tree) → k (apply [] t) (apply [] u) (apply [] v) ≡ k t u v
same_three k t u v = ap (λ x. k x (apply [] u) (apply [] v)) (same_tree t) ∙ ap (λ x. k t x (apply [] v)) (same_tree u) ∙ ap (λ x. k t u x) (same_tree v)

pub same_body : (b : Body) → in_body (apply []) b ≡ b
same_body true_goal = refl
same_body fail_goal = refl
same_body cut = refl
same_body (conjunction a b) = ap (λ x. conjunction x (in_body (apply []) b)) (same_body a) ∙ ap (λ x. conjunction a x) (same_body b)
same_body (disjunction a b) = ap (λ x. disjunction x (in_body (apply []) b)) (same_body a) ∙ ap (λ x. disjunction a x) (same_body b)
same_body (if_then a b) = ap (λ x. if_then x (in_body (apply []) b)) (same_body a) ∙ ap (λ x. if_then a x) (same_body b)
same_body (if_then_else c a b) =
    ap (λ x. if_then_else x (in_body (apply []) a) (in_body (apply []) b)) (same_body c)
    ∙ ap (λ x. if_then_else c x (in_body (apply []) b)) (same_body a) ∙ ap (λ x. if_then_else c a x) (same_body b)
same_body (call t) = ap call (same_tree t)
same_body (once t) = ap once (same_tree t)
same_body (not_provable t) = ap not_provable (same_tree t)
same_body (findall t u v) = same_three findall t u v
same_body (catch t u v) = same_three catch t u v
same_body (throw t) = ap throw (same_tree t)
same_body (predication k ts) = ap (predication k) (same_trees ts)
