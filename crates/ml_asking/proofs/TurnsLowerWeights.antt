-- A search that asks ends over any desk whose cursors give fewer items than a number: each turn, with whatever its reply leads to, lowers the number of
-- inferences left, or keeps it and lowers the weight.
use Rattle.std.specs.Prelude.{◌≡◌, ℕ, zero, suc, ◌+◌, ◌-◌, ◌^◌, ◌<◌, ◌≤◌, ◌⊎◌, List, [], ◌∷◌, length, drop, Option, Some, None}
use Rattle.std.specs.List.{flat_map}
use Rattle.std.proofs.Common.{inl, inr, refl, subst, arith}
use Rattle.ml_term.specs.Tree.{Tree}
use Rattle.ml_term.specs.Unify.{Map, unifier}
use Rattle.ml_search.specs.Program.{Clause, Program}
use Rattle.ml_search.specs.Bodies.{body_from, body_size}
use Rattle.ml_search.specs.Changes.{puts, takes, puts_first, puts_last, drops}
use Rattle.ml_search.specs.Actions.{Continuation, success, run_body, cut_to, count_inference, unify, erase, catch_mark, Branch, End, end_of_answers}
use Rattle.ml_search.specs.Actions.{out_of_inferences, Procedure, Usage, as_tuple, as_clause, to_retract, Transition, answer, end_search, replace_by, prune_to}
use Rattle.ml_search.specs.Actions.{resolve, Action, transition, after_inference, scan, update, search_apart, map_continuation, branch_by, shift_variables}
use Rattle.ml_search.specs.Actions.{by_clause, by_item, findall_result, continuation_action, action}
use Rattle.ml_search.specs.Procedures.{procedure_of}
use Rattle.ml_search.specs.Search.{last_of, by_effect, continuation_size, branches_size}
use Rattle.ml_search.specs.Operations.{Reply, next, cursor, item, no_item, added, present, removed, absent, full}
use Rattle.ml_search.specs.Replay.{item_head}
use Rattle.ml_search.proofs.PowersOfThree.{power_is_positive, power_rises}
use Rattle.ml_search.proofs.BranchSizes.{body_keeps_size, goals_keep_size}
use Rattle.ml_search.proofs.SizesFall.{Light, LightAct}
use Rattle.ml_asking.specs.Asking as L
use Rattle.ml_asking.specs.Asking.{Member, ChoicePoint, branch_choice, clause_choices, item_choices, FindallFrame, AskingSearch, Move, finish, go_on, request}
use Rattle.ml_asking.specs.Asking.{push_branches, push_clauses, with_choice_points, effect_of}
use Rattle.ml_asking.specs.Expand.{is_stored}
use Rattle.ml_asking.specs.Weights.{branch_weight, clauses_weight, choice_points_weight, frames_weight, weight, IsBelow, FallsBelow}
use Rattle.ml_asking.proofs.BranchCounts.{clause_branch, item_branch, item_is}
use Rattle.ml_asking.proofs.ActionsAreSmaller.{gathered_light, chosen_light, goals_light}

at_most_power : (x n : ℕ) → x ≤ n → 3 ^ x ≤ 3 ^ n
at_most_power x n l = elim (below_or x n l) [ inl h ↦ omega (arith, power_rises x n h) | inr e ↦ rw e (omega arith) ]
  where
    below_or : (a b : ℕ) → a ≤ b → (a < b) ⊎ (a ≡ b)
    below_or a b c = grind arith

light_enough : (gs : Continuation Member) → branch_weight gs ≤ 3 ^ continuation_size gs
light_enough (count_inference gs) = power_is_positive (1 + continuation_size gs)
light_enough success = omega arith
light_enough (run_body g h gs) = omega arith
light_enough (cut_to h gs) = omega arith
light_enough (unify t u gs) = omega arith
light_enough (erase x gs) = omega arith
light_enough (catch_mark h c k saved ts gs) = omega arith

-- a branch as it was, and with a map
clause_weight : (o : Option Map) (b : Branch Member) (c : Clause) (n : ℕ) →
    branches_size (branch_by o (clause_branch n b c)) ≤ 3 ^ (body_size (body_from c.body) + continuation_size b.goals)
clause_weight None b c n = omega arith
clause_weight (Some m) b c n =
    let bc = clause_branch n b c in
    let q : continuation_size (map_continuation m bc.goals) ≤ body_size (body_from c.body) + continuation_size b.goals =
    omega (arith, goals_keep_size m bc.goals, body_keeps_size (shift_variables b.next) (body_from c.body)) in
    omega (arith, at_most_power (continuation_size (map_continuation m bc.goals)) (body_size (body_from c.body) + continuation_size b.goals) q)

module _ (most : ℕ) where
  onto_weight : (bs : List (Branch Member)) (r : List ChoicePoint) →
      choice_points_weight most (push_branches bs r) ≤ branches_size bs + choice_points_weight most r
  onto_weight [] r = omega arith
  onto_weight (b ∷ bs) r = omega (arith, light_enough b.goals, onto_weight bs r)

  drop_weight : (n : ℕ) (r : List ChoicePoint) → choice_points_weight most (drop n r) ≤ choice_points_weight most r
  drop_weight zero r = omega arith
  drop_weight (suc n) [] = omega arith
  drop_weight (suc n) (e ∷ r) = omega (arith, drop_weight n r)

  course_falls : (l n : ℕ) (ws : List FindallFrame) (ends : End → AskingSearch → Move) →
      ((e : End) (m : AskingSearch) → m.frames ≡ ws → m.left ≡ l → FallsBelow most l n (ends e m)) →
      (w : ℕ) (a : Transition Member) (r : List ChoicePoint) (m : AskingSearch)
      → m.frames ≡ ws → m.left ≡ l → Light w a → w + choice_points_weight most r + frames_weight most ws ≤ n →
      FallsBelow most l n (L.transition_move ends a r m)
  course_falls l n ws ends h w (answer ts) r m q e g k = inr (e, rw q (omega (arith, g, k)))
  course_falls l n ws ends h w (end_search x) r m q e g k = h x m q e
  course_falls l n ws ends h w (replace_by bs) r m q e g k = inr (e, rw q (omega (arith, g, k, onto_weight bs r)))
  course_falls l n ws ends h w (prune_to i a) r m q e g k =
      course_falls l n ws ends h w a (last_of i r) m q e g (omega (arith, k, drop_weight (length r - i) r))
  course_falls l n ws ends h w (resolve t b cs) r m q e g k = absurd g

  concludes_falls : (l n : ℕ) (ws : List FindallFrame) (e : End) (found : List (List Tree)) (left : ℕ) → left ≡ l → frames_weight most ws ≤ n →
      FallsBelow most l n (L.concludes ws e found left)
  concludes_falls l n [] e found left q k = tt
  concludes_falls l n (o ∷ ws) e found left q k =
      course_falls l n ws (λ e m. L.concludes ws e m.found m.left) (λ e m _ p. concludes_falls l n ws e m.found m.left p (omega (arith, k)))
      (3 ^ (1 + continuation_size o.branch.goals))
      (findall_result o.list o.branch e (flat_map (λ ts. ts) found)) o.choice_points
      (record { choice_points = []; found = o.found; left = left; frames = ws }) refl q (gathered_light o.list o.branch e (flat_map (λ ts. ts) found))
      (omega (arith, k))

  -- once an inference is used
  course_later : (l n : ℕ) (ends : End → AskingSearch → Move) → ((e : End) (m : AskingSearch) → m.left < l → FallsBelow most l n (ends e m)) →
      (a : Transition Member) (r : List ChoicePoint) (m : AskingSearch) → m.left < l → FallsBelow most l n (L.transition_move ends a r m)
  course_later l n ends h (answer ts) r m k = inl k
  course_later l n ends h (end_search x) r m k = h x m k
  course_later l n ends h (replace_by bs) r m k = inl k
  course_later l n ends h (prune_to i a) r m k = course_later l n ends h a (last_of i r) m k
  course_later l n ends h (resolve t b cs) r m k = inl k

  concludes_later : (l n : ℕ) (ws : List FindallFrame) (e : End) (found : List (List Tree)) (left : ℕ) → left < l →
      FallsBelow most l n (L.concludes ws e found left)
  concludes_later l n [] e found left k = tt
  concludes_later l n (o ∷ ws) e found left k =
      course_later l n (λ e m. L.concludes ws e m.found m.left) (λ e m p. concludes_later l n ws e m.found m.left p)
      (findall_result o.list o.branch e (flat_map (λ ts. ts) found)) o.choice_points
      (record { choice_points = []; found = o.found; left = left; frames = ws }) k

  opened_later : (l n : ℕ) (p : Reply) (how : Usage) (t : Tree) (b : Branch Member) (r : List ChoicePoint) (m : AskingSearch) → m.left < l →
      FallsBelow most l n (L.after_opening p how t b r m)
  opened_later l n (cursor c) how t b r m k = inl k
  opened_later l n (item x) how t b r m k = inl k
  opened_later l n no_item how t b r m k = inl k
  opened_later l n added how t b r m k = inl k
  opened_later l n present how t b r m k = inl k
  opened_later l n removed how t b r m k = inl k
  opened_later l n absent how t b r m k = inl k
  opened_later l n full how t b r m k = inl k

  below_or : (a b : ℕ) → a ≤ b → (a < b) ⊎ (a ≡ b)
  below_or a b c = grind arith

  using_later : (l n : ℕ) (left : ℕ) (m : AskingSearch) (f : AskingSearch → Move) → left ≤ l → m.left ≡ left → (m.left ≡ l → frames_weight most m.frames ≤ n) →
      ((m' : AskingSearch) → m'.left < l → FallsBelow most l n (f m'))
      → FallsBelow most l n (L.use_inference left m f)
  using_later l n zero m f k e w h = elim (below_or m.left l (omega (arith, e, k))) [
    | inl i ↦ concludes_later l n m.frames out_of_inferences m.found m.left i
    | inr i ↦ concludes_falls l n m.frames out_of_inferences m.found m.left i
        (w i)
  ]
  using_later l n (suc i) m f k e w h = h (record m { left = i }) (omega (arith, k))

  changed_later : (l n : ℕ) (p : Reply) (x y z : Transition Member) (r : List ChoicePoint) (m : AskingSearch) → m.left < l →
      FallsBelow most l n (L.transition_move L.ends_here (by_effect (effect_of p) x y z) r m)
  changed_later l n p x y z r m k =
      course_later l n L.ends_here (λ e m p. concludes_later l n m.frames e m.found m.left p) (by_effect (effect_of p) x y z) r m k

  act_later : (l n : ℕ) (a : Action Member) (r : List ChoicePoint) (m : AskingSearch) → m.left < l → FallsBelow most l n (L.action_move a r m)
  act_later l n (transition a) r m k = course_later l n L.ends_here (λ e m p. concludes_later l n m.frames e m.found m.left p) a r m k
  act_later l n (after_inference a) r m k =
      using_later l n m.left m (λ m. L.action_move a r m) (omega (arith, k)) refl (λ e. absurd (omega (arith, e, k))) (λ m' i. act_later l n a r m' i)
  act_later l n (scan how d t b) r m k = λ p _. opened_later l n p how t b r m k
  act_later l n (update (puts t) x y z) r m k = λ p _. changed_later l n p x y z r m k
  act_later l n (update (takes t) x y z) r m k = λ p _. changed_later l n p x y z r m k
  act_later l n (update (puts_first t) x y z) r m k = λ p _. changed_later l n p x y z r m k
  act_later l n (update (puts_last t) x y z) r m k = λ p _. changed_later l n p x y z r m k
  act_later l n (update (drops i) x y z) r m k = λ p _. changed_later l n p x y z r m k
  act_later l n (search_apart x g q b) r m k = inl k

  ends_falls : (l n : ℕ) (ws : List FindallFrame) → frames_weight most ws ≤ n → (e : End) (m : AskingSearch) → m.frames ≡ ws → m.left ≡ l →
      FallsBelow most l n (L.ends_here e m)
  ends_falls l n ws k e m q p = concludes_falls l n m.frames e m.found m.left p (rw q k)

  changed_falls : (n w : ℕ) (p : Reply) (x y z : Transition Member) (r : List ChoicePoint) (m : AskingSearch) → Light w x → Light w y → Light w z →
      w + choice_points_weight most r + frames_weight most m.frames ≤ n
      → FallsBelow most m.left n (L.transition_move L.ends_here (by_effect (effect_of p) x y z) r m)
  changed_falls n w p x y z r m f g h k =
      course_falls m.left n m.frames L.ends_here (ends_falls m.left n m.frames (omega (arith, k))) w (by_effect (effect_of p) x y z) r m refl refl
      (chosen_light w (effect_of p) x y z f g h) k

  act_falls : (n w : ℕ) (a : Action Member) (r : List ChoicePoint) (m : AskingSearch) → LightAct w a →
      w + choice_points_weight most r + frames_weight most m.frames ≤ n → FallsBelow most m.left n (L.action_move a r m)
  act_falls n w (transition a) r m g k = course_falls m.left n m.frames L.ends_here (ends_falls m.left n m.frames (omega (arith, k))) w a r m refl refl g k
  act_falls n w (after_inference a) r m g k =
      using_later m.left n m.left m (λ m. L.action_move a r m) (omega arith) refl (λ _. omega (arith, k)) (λ m' i. act_later m.left n a r m' i)
  act_falls n w (scan how d t b) r m g k = absurd g
  act_falls n w (update (puts t) x y z) r m g k = λ p _. changed_falls n w p x y z r m g.0 g.1 g.2 k
  act_falls n w (update (takes t) x y z) r m g k = λ p _. changed_falls n w p x y z r m g.0 g.1 g.2 k
  act_falls n w (update (puts_first t) x y z) r m g k = λ p _. changed_falls n w p x y z r m g.0 g.1 g.2 k
  act_falls n w (update (puts_last t) x y z) r m g k = λ p _. changed_falls n w p x y z r m g.0 g.1 g.2 k
  act_falls n w (update (drops i) x y z) r m g k = λ p _. changed_falls n w p x y z r m g.0 g.1 g.2 k
  act_falls n w (search_apart x h q b) r m g k = absurd g

  rest_weight : (t : Tree) (b : Branch Member) (cs : List Clause) (r : List ChoicePoint) →
      choice_points_weight most (push_clauses t b cs r) ≤ 1 + clauses_weight b cs + choice_points_weight most r
  rest_weight t b [] r = omega arith
  rest_weight t b (c ∷ cs) r = omega arith

  item_weight : (how : Usage) (o : Option Map) (b : Branch Member) (x : Member) (t : Tree) (n : ℕ) (e : List ChoicePoint) →
      choice_points_weight most (push_branches (branch_by o (item_branch how n b x t)) e) ≤ 1 + choice_points_weight most e
  item_weight how None b x t n e = omega arith
  item_weight as_tuple (Some m) b x t n e = omega arith
  item_weight as_clause (Some m) b x t n e = omega arith
  item_weight (to_retract u) (Some m) b x t n e = omega arith

  by_item_weight : (how : Usage) (goal : Tree) (b : Branch Member) (x : Member) (t : Tree) (n : ℕ) (e : List ChoicePoint) →
      choice_points_weight most (push_branches (by_item how goal n b x t) e) ≤ 1 + choice_points_weight most e
  by_item_weight how goal b x t n e =
      rw (item_is how goal n b x t) (item_weight how (unifier goal (shift_variables b.next (item_head (is_stored how) t))) b x t n e)

  given_falls : (p : Reply) (how : Usage) (t : Tree) (b : Branch Member) (c i : ℕ) (r : List ChoicePoint) (m : AskingSearch) → IsBelow most (next c i) p
      → FallsBelow most m.left (choice_points_weight most (item_choices how t b c i ∷ r) + frames_weight most m.frames) (L.after_fetch p how t b c i r m)
  given_falls (item x) how t b c i r m k =
      inr (refl, omega (arith, by_item_weight how t b (record { cursor_number = c; item_number = i }) x (length r) (item_choices how t b c (suc i) ∷ r)))
  given_falls (cursor d) how t b c i r m k = inr (refl, omega arith)
  given_falls no_item how t b c i r m k = inr (refl, omega arith)
  given_falls added how t b c i r m k = inr (refl, omega arith)
  given_falls present how t b c i r m k = inr (refl, omega arith)
  given_falls removed how t b c i r m k = inr (refl, omega arith)
  given_falls absent how t b c i r m k = inr (refl, omega arith)
  given_falls full how t b c i r m k = inr (refl, omega arith)

  module _ (procedure_of : List ℕ → List Tree → Procedure) where
    ready_light : (gs : Continuation Member) (n : ℕ) (b : Branch Member) → b.goals ≡ gs → LightAct (branch_weight gs) (continuation_action procedure_of gs n b)
    ready_light (count_inference gs) n b e = tt
    ready_light success n b e =
        subst (λ z. LightAct (3 ^ continuation_size z) (continuation_action procedure_of success n b)) e (goals_light procedure_of success n b e)
    ready_light (run_body g h gs) n b e =
        subst (λ z. LightAct (3 ^ continuation_size z) (continuation_action procedure_of (run_body g h gs) n b)) e
        (goals_light procedure_of (run_body g h gs) n b e)
    ready_light (cut_to h gs) n b e =
        subst (λ z. LightAct (3 ^ continuation_size z) (continuation_action procedure_of (cut_to h gs) n b)) e (goals_light procedure_of (cut_to h gs) n b e)
    ready_light (unify t u gs) n b e =
        subst (λ z. LightAct (3 ^ continuation_size z) (continuation_action procedure_of (unify t u gs) n b)) e (goals_light procedure_of (unify t u gs) n b e)
    ready_light (erase x gs) n b e =
        subst (λ z. LightAct (3 ^ continuation_size z) (continuation_action procedure_of (erase x gs) n b)) e (goals_light procedure_of (erase x gs) n b e)
    ready_light (catch_mark h c q saved ts gs) n b e =
        subst (λ z. LightAct (3 ^ continuation_size z) (continuation_action procedure_of (catch_mark h c q saved ts gs) n b)) e
        (goals_light procedure_of (catch_mark h c q saved ts gs) n b e)

  module _ (program : Program) where
    entry_falls : (es : List ChoicePoint) (m : AskingSearch) →
        FallsBelow most m.left (choice_points_weight most es + frames_weight most m.frames) (L.choice_point_turn program es m)
    entry_falls [] m = concludes_falls m.left (0 + frames_weight most m.frames) m.frames end_of_answers m.found m.left refl (omega arith)
    entry_falls (branch_choice b ∷ r) m =
        act_falls (choice_points_weight most (branch_choice b ∷ r) + frames_weight most m.frames) (branch_weight b.goals)
        (action (procedure_of program) (length r) b) r m (ready_light (procedure_of program) b.goals (length r) b refl) (omega arith)
    entry_falls (clause_choices t b [] ∷ r) m = inr (refl, omega arith)
    entry_falls (clause_choices t b (c ∷ cs) ∷ r) m =
        inr (
          refl,
          omega (
            arith,
            onto_weight (by_clause t (length r) b c) (push_clauses t b cs r),
            clause_weight (unifier t (shift_variables b.next c.head)) b c
                (length r),
            rest_weight t b cs r,
          ),
        )
    entry_falls (item_choices how t b c i ∷ r) m = λ p k. given_falls p how t b c i r m k

    -- a turn, with whatever its reply leads to, lowers the number of inferences left, or keeps it and lowers the weight
    pub turn_falls : (m : AskingSearch) → FallsBelow most m.left (weight most m) (L.turn program m)
    turn_falls m = entry_falls m.choice_points m
