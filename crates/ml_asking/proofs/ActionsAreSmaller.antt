-- What the table leaves where it uses no inference is smaller than the branch was.
use Rattle.std.specs.Prelude.{◌≡◌, ℕ, suc, ◌+◌, ◌^◌, ◌<◌, ◌≤◌, List, [], ◌∷◌, length, Option, Some, None, codes}
use Rattle.std.proofs.Common.{arith}
use Rattle.ml_term.specs.Tree.{Tree, rename, width}
use Rattle.ml_term.specs.Unify.{Map, unifier}
use Rattle.ml_search.specs.Errors.{error_ball, existence_error, resource_error}
use Rattle.ml_search.specs.ListTerms.{list_term}
use Rattle.ml_search.specs.Bodies.{Body, true_goal, fail_goal, cut, conjunction, disjunction, if_then, if_then_else, call, once, not_provable, findall, catch}
use Rattle.ml_search.specs.Bodies.{throw, predication, body_size}
use Rattle.ml_search.specs.Changes.{Effect, change_made, no_change}
use Rattle.ml_search.specs.Changes as C
use Rattle.ml_search.specs.Actions.{Continuation, success, run_body, cut_to, count_inference, unify, erase, catch_mark, Branch, End, end_of_answers, ball}
use Rattle.ml_search.specs.Actions.{out_of_inferences, Procedure, plain_builtin, declared_predicate, retract_clause, program_predicate, raise_error}
use Rattle.ml_search.specs.Actions.{insert_tuple, delete_tuple, assert_first, assert_last, unknown_procedure, Transition, replace_by, map_continuation}
use Rattle.ml_search.specs.Actions.{with_map, with_goals, continue_with, branch_by, throw_ball, raise_term, copies, next_after, findall_result}
use Rattle.ml_search.specs.Actions.{procedure_action, body_action, continuation_action}
use Rattle.ml_search.specs.Search.{by_effect, continuation_size}
use Rattle.ml_search.proofs.PowersOfThree.{power_is_positive, power_rises, two_powers}
use Rattle.ml_search.proofs.BranchSizes.{body_has_size, goals_keep_size}
use Rattle.ml_search.proofs.SizesFall.{Light, LightAct}
use Rattle.ml_asking.specs.Asking.{Member}

by_light : (o : Option Map) (b : Branch Member) (w : ℕ) → continuation_size b.goals < w → Light (3 ^ w) (replace_by (branch_by o b))
by_light None b w l = power_is_positive w
by_light (Some m) b w l = omega (arith, power_rises (continuation_size (map_continuation m b.goals)) w (omega (arith, goals_keep_size m b.goals)))

one_light : (gs : Continuation Member) (b : Branch Member) (w : ℕ) → continuation_size gs < w → Light (3 ^ w) (continue_with gs b)
one_light gs b w l = omega (arith, power_rises (continuation_size gs) w l)

two_light : (gs hs : Continuation Member) (b : Branch Member) (w : ℕ) → continuation_size gs < w → continuation_size hs < w →
    Light (3 ^ w) (replace_by (with_goals gs b ∷ with_goals hs b ∷ []))
two_light gs hs b w l k = omega (arith, two_powers (continuation_size gs) (continuation_size hs) w l k)

caught_light : (o : Option Map) (b : Branch Member) (a : Transition Member) (w : ℕ) → continuation_size b.goals < w → Light (3 ^ w) a →
    Light (3 ^ w) (elim o [ Some m ↦ replace_by (with_map m b ∷ []) | None ↦ a ])
caught_light None b a w l h = h
caught_light (Some m) b a w l h = by_light (Some m) b w l

thrown_light : (t : Tree) (next : ℕ) (gs : Continuation Member) (w : ℕ) → continuation_size gs ≤ w → Light (3 ^ w) (throw_ball t next gs)
thrown_light t next success w l = tt
thrown_light t next (run_body g h gs) w l = thrown_light t next gs w (omega arith)
thrown_light t next (cut_to h gs) w l = thrown_light t next gs w (omega arith)
thrown_light t next (count_inference gs) w l = thrown_light t next gs w (omega arith)
thrown_light t next (unify u v gs) w l = thrown_light t next gs w (omega arith)
thrown_light t next (erase x gs) w l = thrown_light t next gs w (omega arith)
thrown_light t next (catch_mark h c k saved ts gs) w l =
    caught_light (unifier (rename next t) c) (record { goals = run_body (call k) h saved; terms = ts; next = next + width t }) (throw_ball t next saved) w
    (omega arith) (thrown_light t next saved w (omega arith))

raised_light : (t : Tree) (b : Branch Member) → Light (3 ^ continuation_size b.goals) (raise_term t b)
raised_light t b = thrown_light (error_ball t b.next) b.next b.goals (continuation_size b.goals) (omega arith)

pub gathered_light : (l : Tree) (b : Branch Member) (e : End) (ts : List Tree) → Light (3 ^ (1 + continuation_size b.goals)) (findall_result l b e ts)
gathered_light l b out_of_inferences ts = tt
gathered_light l b (ball t) ts = thrown_light t b.next b.goals (1 + continuation_size b.goals) (omega arith)
gathered_light l b end_of_answers ts =
    by_light (unifier l (list_term (copies b.next ts))) (record { goals = b.goals; terms = b.terms; next = next_after b.next ts })
    (1 + continuation_size b.goals) (omega arith)

pub chosen_light : (w : ℕ) (e : Effect) (x y z : Transition Member) → Light w x → Light w y → Light w z → Light w (by_effect e x y z)
chosen_light w change_made x y z f g h = f
chosen_light w no_change x y z f g h = g
chosen_light w C.change_limit x y z f g h = h

known_light : (q : Procedure) (f : List ℕ) (ts : List Tree) (gs : Continuation Member) (n : ℕ) (b : Branch Member) →
    LightAct (3 ^ continuation_size b.goals) (procedure_action q f ts gs n b)
known_light unknown_procedure f ts gs n b = raised_light (existence_error f (length ts)) b
known_light (plain_builtin d) f ts gs n b = tt
known_light (declared_predicate how d) f ts gs n b = tt
known_light (retract_clause d h u) f ts gs n b = tt
known_light (program_predicate cs) f ts gs n b = tt
known_light (raise_error t) f ts gs n b = tt
known_light (insert_tuple t) f ts gs n b = tt
known_light (delete_tuple t) f ts gs n b = tt
known_light (assert_first c) f ts gs n b = tt
known_light (assert_last c) f ts gs n b = tt

module _ (known : List ℕ → List Tree → Procedure) where
  body_light : (x : Body) (h : ℕ) (gs : Continuation Member) (n : ℕ) (b : Branch Member) → b.goals ≡ run_body x h gs →
      LightAct (3 ^ continuation_size b.goals) (body_action known x h gs n b)
  body_light true_goal h gs n b e = rw e (one_light gs b (1 + continuation_size gs) (omega arith))
  body_light fail_goal h gs n b e = power_is_positive (continuation_size b.goals)
  body_light cut h gs n b e = rw e (one_light gs b (1 + continuation_size gs) (omega arith))
  body_light (conjunction x y) h gs n b e =
      rw e (one_light (run_body x h (run_body y h gs)) b (1 + body_size x + body_size y + continuation_size gs) (omega arith))
  body_light (disjunction x y) h gs n b e =
      rw e (two_light (run_body x h gs) (run_body y h gs) b (1 + body_size x + body_size y + continuation_size gs) (omega arith) (omega arith))
  body_light (if_then c x) h gs n b e =
      rw e
      (two_light (run_body c (suc n) (cut_to n (run_body x h gs))) (run_body fail_goal h gs) b (2 + body_size c + body_size x + continuation_size gs)
      (omega arith) (omega (arith, body_has_size c)))
  body_light (if_then_else c x y) h gs n b e =
      rw e
      (two_light (run_body c (suc n) (cut_to n (run_body x h gs))) (run_body y h gs) b (3 + body_size c + body_size x + body_size y + continuation_size gs)
      (omega arith) (omega arith))
  body_light (call g) h gs n b e = tt
  body_light (once g) h gs n b e = tt
  body_light (not_provable g) h gs n b e = tt
  body_light (catch g c q) h gs n b e = tt
  body_light (throw t) h gs n b e = tt
  body_light (findall x g l) h gs n b e = tt
  body_light (predication f ts) h gs n b e = known_light (known f ts) f ts gs n b

  pub goals_light : (gs : Continuation Member) (n : ℕ) (b : Branch Member) → b.goals ≡ gs →
      LightAct (3 ^ continuation_size b.goals) (continuation_action known gs n b)
  goals_light success n b e = power_is_positive (continuation_size b.goals)
  goals_light (run_body g h gs) n b e = body_light g h gs n b e
  goals_light (cut_to h gs) n b e = rw e (one_light gs b (1 + continuation_size gs) (omega arith))
  goals_light (count_inference gs) n b e = tt
  goals_light (unify t u gs) n b e = rw e (by_light (unifier t u) (with_goals gs b) (1 + continuation_size gs) (omega arith))
  goals_light (erase x gs) n b e = (
    rw e (one_light gs b (1 + continuation_size gs) (omega arith)),
    power_is_positive (continuation_size b.goals),
    raised_light
        (resource_error (codes "changes")) b,
  )
  goals_light (catch_mark h c q saved ts gs) n b e = rw e (one_light gs b (1 + (1 + continuation_size saved) + continuation_size gs) (omega arith))
