-- Sizes of bodies, goals and branches: no map changes them.
use Rattle.std.specs.Prelude.{◌≡◌, ℕ, zero, suc, ◌+◌, ◌≤◌, List, [], ◌∷◌, ◌++◌, drop}
use Rattle.std.proofs.Common.{refl, arith}
use Rattle.ml_term.specs.Tree.{Tree}
use Rattle.ml_term.specs.Unify.{Map, apply}
use Rattle.ml_search.specs.Bodies.{Body, conjunction, disjunction, if_then, if_then_else, in_body, body_size}
use Rattle.ml_search.specs.Actions.{Continuation, success, run_body, cut_to, count_inference, unify, erase, catch_mark, Branch, map_continuation}
use Rattle.ml_search.specs.Search.{continuation_size, branches_size}

pub body_keeps_size : (f : Tree → Tree) (b : Body) → body_size (in_body f b) ≡ body_size b
body_keeps_size f (conjunction a b) = omega (arith, body_keeps_size f a, body_keeps_size f b)
body_keeps_size f (disjunction a b) = omega (arith, body_keeps_size f a, body_keeps_size f b)
body_keeps_size f (if_then a b) = omega (arith, body_keeps_size f a, body_keeps_size f b)
body_keeps_size f (if_then_else a b c) = omega (arith, body_keeps_size f a, body_keeps_size f b, body_keeps_size f c)
body_keeps_size f _ = refl

pub body_has_size : (b : Body) → 1 ≤ body_size b
body_has_size (conjunction a b) = omega arith
body_has_size (disjunction a b) = omega arith
body_has_size (if_then a b) = omega arith
body_has_size (if_then_else a b c) = omega arith
body_has_size _ = omega arith

module _ {T : Type 0} where
  pub goals_keep_size : (m : Map) (gs : Continuation T) → continuation_size (map_continuation m gs) ≡ continuation_size gs
  goals_keep_size m success = refl
  goals_keep_size m (run_body g h gs) = omega (arith, body_keeps_size (apply m) g, goals_keep_size m gs)
  goals_keep_size m (cut_to h gs) = omega (arith, goals_keep_size m gs)
  goals_keep_size m (count_inference gs) = omega (arith, goals_keep_size m gs)
  goals_keep_size m (unify t u gs) = omega (arith, goals_keep_size m gs)
  goals_keep_size m (erase x gs) = omega (arith, goals_keep_size m gs)
  goals_keep_size m (catch_mark h c k saved ts gs) = omega (arith, goals_keep_size m gs)

  pub fewer_branches : (h : ℕ) (bs : List (Branch T)) → branches_size (drop h bs) ≤ branches_size bs
  fewer_branches zero bs = omega arith
  fewer_branches (suc h) [] = omega arith
  fewer_branches (suc h) (b ∷ bs) = omega (arith, fewer_branches h bs)

  pub more_branches : (xs ys : List (Branch T)) → branches_size (xs ++ ys) ≡ branches_size xs + branches_size ys
  more_branches [] ys = omega arith
  more_branches (b ∷ xs) ys = omega (arith, more_branches xs ys)
