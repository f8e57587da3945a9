-- Each turn of the search lowers the number of inferences left, or keeps it and lowers the size of the branches.
use Rattle.std.specs.Prelude.{◌≡◌, ℕ, zero, suc, ◌+◌, ◌-◌, ◌^◌, ◌<◌, ◌≤◌, List, [], ◌∷◌, length, Option, Some, None, codes}
use Rattle.std.specs.List.{flat_map}
use Rattle.std.proofs.Common.{inl, inr, refl, arith}
use Rattle.ml_term.specs.Tree.{Tree, rename, width}
use Rattle.ml_term.specs.Unify.{Map, unifier}
use Rattle.ml_term.specs.Runs.{Next}
use Rattle.ml_term.specs.Falling.{FallsTo, FallsBelow, Falls, AlwaysFalls}
use Rattle.ml_search.specs.Program.{Program}
use Rattle.ml_search.specs.Errors.{error_ball, existence_error, resource_error}
use Rattle.ml_search.specs.Bodies.{Body, true_goal, fail_goal, cut, conjunction, disjunction, if_then, if_then_else, call, once, not_provable, findall, catch}
use Rattle.ml_search.specs.Bodies.{throw, predication, body_size}
use Rattle.ml_search.specs.Changes.{ItemName, Effect, change_made, no_change, change_limit, alter}
use Rattle.ml_search.specs.Actions.{Continuation, success, run_body, cut_to, count_inference, unify, erase, catch_mark, Branch, Procedure, plain_builtin}
use Rattle.ml_search.specs.Actions.{declared_predicate, retract_clause, program_predicate, raise_error, insert_tuple, delete_tuple, assert_first, assert_last}
use Rattle.ml_search.specs.Actions.{unknown_procedure, Transition, answer, end_search, replace_by, prune_to, resolve, Action, transition, after_inference, scan}
use Rattle.ml_search.specs.Actions.{update, search_apart, map_continuation, with_map, with_goals, continue_with, branch_by, throw_ball, raise_term}
use Rattle.ml_search.specs.Actions.{findall_result, procedure_action, body_action, continuation_action, action}
use Rattle.ml_search.specs.Procedures.{procedure_of}
use Rattle.ml_search.specs.Search.{State, Outcome, Turn, last_of, transition_turn, by_effect, use_inference, action_turn, branch_turn, turn, continuation_size}
use Rattle.ml_search.specs.Search.{branches_size}
use Rattle.ml_search.proofs.PowersOfThree.{power_is_positive, power_rises, two_powers}
use Rattle.ml_search.proofs.BranchSizes.{body_has_size, goals_keep_size, fewer_branches, more_branches}

module _ {T : Type 0} where
  -- what is done leaves branches smaller than w
  abbrev pub Light : ℕ → Transition T → Type 0
  Light w (answer ts) = 1 ≤ w
  Light w (end_search e) = Unit {0}
  Light w (replace_by bs) = branches_size bs < w
  Light w (prune_to h a) = Light w a
  Light w (resolve t b cs) = ⊥

  by_light : (o : Option Map) (b : Branch T) (w : ℕ) → continuation_size b.goals < w → Light (3 ^ w) (replace_by (branch_by o b))
  by_light None b w l = power_is_positive w
  by_light (Some m) b w l = omega (arith, power_rises (continuation_size (map_continuation m b.goals)) w (omega (arith, goals_keep_size m b.goals)))

  one_light : (gs : Continuation T) (b : Branch T) (w : ℕ) → continuation_size gs < w → Light (3 ^ w) (continue_with gs b)
  one_light gs b w l = omega (arith, power_rises (continuation_size gs) w l)

  two_light : (gs hs : Continuation T) (b : Branch T) (w : ℕ) → continuation_size gs < w → continuation_size hs < w →
      Light (3 ^ w) (replace_by (with_goals gs b ∷ with_goals hs b ∷ []))
  two_light gs hs b w l k = omega (arith, two_powers (continuation_size gs) (continuation_size hs) w l k)

  caught_light : (o : Option Map) (b : Branch T) (a : Transition T) (w : ℕ) → continuation_size b.goals < w → Light (3 ^ w) a →
      Light (3 ^ w) (elim o [ Some m ↦ replace_by (with_map m b ∷ []) | None ↦ a ])
  caught_light None b a w l h = h
  caught_light (Some m) b a w l h = by_light (Some m) b w l

  thrown_light : (t : Tree) (next : ℕ) (gs : Continuation T) (w : ℕ) → continuation_size gs ≤ w → Light (3 ^ w) (throw_ball t next gs)
  thrown_light t next success w l = tt
  thrown_light t next (run_body g h gs) w l = thrown_light t next gs w (omega arith)
  thrown_light t next (cut_to h gs) w l = thrown_light t next gs w (omega arith)
  thrown_light t next (count_inference gs) w l = thrown_light t next gs w (omega arith)
  thrown_light t next (unify u v gs) w l = thrown_light t next gs w (omega arith)
  thrown_light t next (erase x gs) w l = thrown_light t next gs w (omega arith)
  thrown_light t next (catch_mark h c k saved ts gs) w l =
      caught_light (unifier (rename next t) c) (record { goals = run_body (call k) h saved; terms = ts; next = next + width t }) (throw_ball t next saved) w
      (omega arith) (thrown_light t next saved w (omega arith))

  raised_light : (t : Tree) (b : Branch T) → Light (3 ^ continuation_size b.goals) (raise_term t b)
  raised_light t b = thrown_light (error_ball t b.next) b.next b.goals (continuation_size b.goals) (omega arith)

  -- an act that uses no inference is light; one that uses an inference may leave anything
  abbrev pub LightAct : ℕ → Action T → Type 0
  LightAct w (transition a) = Light w a
  LightAct w (after_inference a) = Unit {0}
  LightAct w (scan how d t b) = ⊥
  LightAct w (update c x y z) = Light w x × Light w y × Light w z
  LightAct w (search_apart x g l b) = ⊥

  known_light : (q : Procedure) (f : List ℕ) (ts : List Tree) (gs : Continuation T) (n : ℕ) (b : Branch T) →
      LightAct (3 ^ continuation_size b.goals) (procedure_action q f ts gs n b)
  known_light unknown_procedure f ts gs n b = raised_light (existence_error f (length ts)) b
  known_light (plain_builtin d) f ts gs n b = tt
  known_light (declared_predicate how d) f ts gs n b = tt
  known_light (retract_clause d h u) f ts gs n b = tt
  known_light (program_predicate cs) f ts gs n b = tt
  known_light (raise_error t) f ts gs n b = tt
  known_light (insert_tuple t) f ts gs n b = tt
  known_light (delete_tuple t) f ts gs n b = tt
  known_light (assert_first c) f ts gs n b = tt
  known_light (assert_last c) f ts gs n b = tt

module _ (procedure_of : List ℕ → List Tree → Procedure) {T : Type 0} where
  body_light : (x : Body) (h : ℕ) (gs : Continuation T) (n : ℕ) (b : Branch T) → b.goals ≡ run_body x h gs →
      LightAct (3 ^ continuation_size b.goals) (body_action procedure_of x h gs n b)
  body_light true_goal h gs n b e = rw e (one_light gs b (1 + continuation_size gs) (omega arith))
  body_light fail_goal h gs n b e = power_is_positive (continuation_size b.goals)
  body_light cut h gs n b e = rw e (one_light gs b (1 + continuation_size gs) (omega arith))
  body_light (conjunction x y) h gs n b e =
      rw e (one_light (run_body x h (run_body y h gs)) b (1 + body_size x + body_size y + continuation_size gs) (omega arith))
  body_light (disjunction x y) h gs n b e =
      rw e (two_light (run_body x h gs) (run_body y h gs) b (1 + body_size x + body_size y + continuation_size gs) (omega arith) (omega arith))
  body_light (if_then c x) h gs n b e =
      rw e
      (two_light (run_body c (suc n) (cut_to n (run_body x h gs))) (run_body fail_goal h gs) b (2 + body_size c + body_size x + continuation_size gs)
      (omega arith) (omega (arith, body_has_size c)))
  body_light (if_then_else c x y) h gs n b e =
      rw e
      (two_light (run_body c (suc n) (cut_to n (run_body x h gs))) (run_body y h gs) b (3 + body_size c + body_size x + body_size y + continuation_size gs)
      (omega arith) (omega arith))
  body_light (call g) h gs n b e = tt
  body_light (once g) h gs n b e = tt
  body_light (not_provable g) h gs n b e = tt
  body_light (catch g c q) h gs n b e = tt
  body_light (throw t) h gs n b e = tt
  body_light (findall x g l) h gs n b e = tt
  body_light (predication f ts) h gs n b e = known_light (procedure_of f ts) f ts gs n b

  goals_light : (gs : Continuation T) (n : ℕ) (b : Branch T) → b.goals ≡ gs → LightAct (3 ^ continuation_size b.goals) (continuation_action procedure_of gs n b)
  goals_light success n b e = power_is_positive (continuation_size b.goals)
  goals_light (run_body g h gs) n b e = body_light g h gs n b e
  goals_light (cut_to h gs) n b e = rw e (one_light gs b (1 + continuation_size gs) (omega arith))
  goals_light (count_inference gs) n b e = tt
  goals_light (unify t u gs) n b e = rw e (by_light (unifier t u) (with_goals gs b) (1 + continuation_size gs) (omega arith))
  goals_light (erase x gs) n b e = (
    rw e (one_light gs b (1 + continuation_size gs) (omega arith)),
    power_is_positive (continuation_size b.goals),
    raised_light
        (resource_error (codes "changes")) b,
  )
  goals_light (catch_mark h c q saved ts gs) n b e = rw e (one_light gs b (1 + (1 + continuation_size saved) + continuation_size gs) (omega arith))

-- the two numbers of a state, and that of an outcome
abbrev pub inferences : State → ℕ
inferences s = s.left

abbrev pub size : State → ℕ
size s = branches_size s.branches

abbrev pub last_inferences : Outcome → ℕ
last_inferences o = o.left

abbrev TurnFalls : State → Turn → Type 0
TurnFalls = FallsTo inferences size last_inferences

abbrev NextFalls : State → Next State Outcome → Type 0
NextFalls = Falls inferences size last_inferences

-- what is done keeps the number of inferences left
abbrev Keeps : ℕ → Turn → Type 0
Keeps n (inl o) = o.left ≡ n
Keeps n (inr t) = t.left ≡ n

go_keeps : (a : Transition ItemName) (r : List (Branch ItemName)) (s : State) → Keeps s.left (transition_turn a r s)
go_keeps (answer ts) r s = refl
go_keeps (end_search e) r s = refl
go_keeps (replace_by bs) r s = refl
go_keeps (prune_to h a) r s = go_keeps a (last_of h r) s
go_keeps (resolve t b cs) r s = refl

keeps_falls : (s : State) (n : ℕ) (x : Turn) → n < s.left → Keeps n x → TurnFalls s x
keeps_falls s n (inl o) l e = omega arith
keeps_falls s n (inr t) l e = inl (omega arith)

keeps_below : (s : State) (n : ℕ) (x : Turn) → n < s.left → Keeps n x → FallsBelow inferences size last_inferences s x
keeps_below s n (inl o) l e = omega arith
keeps_below s n (inr t) l e = omega arith

light_falls : (s u : State) (w : ℕ) (a : Transition ItemName) (r : List (Branch ItemName)) → Light w a → u.left ≡ s.left →
    w + branches_size r ≤ branches_size s.branches → TurnFalls s (transition_turn a r u)
light_falls s u w (answer ts) r h e l = inr (e, omega (arith, h))
light_falls s u w (end_search q) r h e l = omega arith
light_falls s u w (replace_by bs) r h e l = inr (e, omega (arith, h, more_branches bs r))
light_falls s u w (prune_to n a) r h e l = light_falls s u w a (last_of n r) h e (omega (arith, fewer_branches (length r - n) r))
light_falls s u w (resolve t b cs) r h e l = absurd h

-- after an inference is used
using_falls : (n : ℕ) (s u : State) (f : State → Next State Outcome) → u.left ≡ n → u.left ≤ s.left → ((v : State) → v.left < s.left → NextFalls s (f v)) →
    NextFalls s (use_inference n u f)
using_falls zero s u f e l h = omega arith
using_falls (suc n) s u f e l h = h (record u { left = n }) (omega arith)

chosen_light : (w : ℕ) (e : Effect) (x y z : Transition ItemName) → Light w x → Light w y → Light w z → Light w (by_effect e x y z)
chosen_light w change_made x y z h i j = h
chosen_light w no_change x y z h i j = i
chosen_light w change_limit x y z h i j = j

module _ (program : Program) where
  later_falls : (a : Action ItemName) (r : List (Branch ItemName)) (s u : State) → u.left < s.left → NextFalls s (action_turn program a r u)
  later_falls (transition a) r s u l = keeps_falls s u.left (transition_turn a r u) l (go_keeps a r u)
  later_falls (after_inference a) r s u l = using_falls u.left s u (λ v. action_turn program a r v) refl (omega arith) (λ v k. later_falls a r s v k)
  later_falls (scan how d t b) r s u l = inl l
  later_falls (update c x y z) r s u l =
      keeps_falls s u.left (transition_turn (by_effect (alter program.decls c u.lists).0 x y z) r (record u { lists = (alter program.decls c u.lists).1 })) l
      (go_keeps (by_effect (alter program.decls c u.lists).0 x y z) r (record u { lists = (alter program.decls c u.lists).1 }))
  later_falls (search_apart x g q b) r s u l = (
    l,
    λ o k. keeps_below s o.left _ (omega (arith, k))
        (go_keeps (findall_result q b o.end (flat_map (λ x. x) o.found)) r (record { branches = r; found = u.found; lists = o.lists; left = o.left })),
  )

  act_falls : (a : Action ItemName) (r : List (Branch ItemName)) (s : State) (w : ℕ) → LightAct w a → w + branches_size r ≤ branches_size s.branches →
      NextFalls s (action_turn program a r s)
  act_falls (transition a) r s w h l = light_falls s s w a r h refl l
  act_falls (after_inference a) r s w h l = using_falls s.left s s (λ v. action_turn program a r v) refl (omega arith) (λ v k. later_falls a r s v k)
  act_falls (scan how d t b) r s w h l = absurd h
  act_falls (update c x y z) r s w h l =
      light_falls s (record s { lists = (alter program.decls c s.lists).1 }) w (by_effect (alter program.decls c s.lists).0 x y z) r
      (chosen_light w (alter program.decls c s.lists).0 x y z h.0 h.1 h.2) refl l
  act_falls (search_apart x g q b) r s w h l = absurd h

  branch_falls : (bs : List (Branch ItemName)) (s : State) → s.branches ≡ bs → NextFalls s (branch_turn program bs s)
  branch_falls [] s e = omega arith
  branch_falls (b ∷ r) s e =
      act_falls (action (procedure_of program) (length r) b) r s (3 ^ continuation_size b.goals) (goals_light (procedure_of program) b.goals (length r) b refl)
      (rw e (omega arith))

  -- every turn falls
  pub turns_fall : AlwaysFalls inferences size last_inferences (turn program)
  turns_fall s = branch_falls s.branches s refl
