-- The table does with what goals stand for what it does with the goals.
use Rattle.std.specs.Prelude.{◌≡◌, ℕ, suc, ◌+◌, ◌≤◌, Bool, true, false, List, [], ◌∷◌, length, Option, Some, None, codes}
use Rattle.std.proofs.Common.{refl, sym, ap, ◌∙◌, arith}
use Rattle.ml_term.specs.Tree.{Tree, width, rename}
use Rattle.ml_term.specs.Unify.{Map, unifier}
use Rattle.ml_search.specs.Errors.{error_ball, existence_error, resource_error, is_too_large}
use Rattle.ml_search.specs.ListTerms.{list_term}
use Rattle.ml_search.specs.Bodies.{Body, true_goal, fail_goal, cut, conjunction, disjunction, if_then, if_then_else, call, once, not_provable, findall, catch}
use Rattle.ml_search.specs.Bodies.{throw, predication, body_from, goal_term, goal_fault, ball_fault, list_fault}
use Rattle.ml_search.specs.Builtins.{BuiltinResult, fails, binds, raises}
use Rattle.ml_search.specs.Changes.{ItemName, Alter, puts, takes, puts_first, puts_last, drops}
use Rattle.ml_search.specs.Actions.{Continuation, success, run_body, cut_to, count_inference, unify, erase, catch_mark, Branch, End, end_of_answers, ball}
use Rattle.ml_search.specs.Actions.{out_of_inferences, Procedure, plain_builtin, declared_predicate, retract_clause, program_predicate, raise_error}
use Rattle.ml_search.specs.Actions.{insert_tuple, delete_tuple, assert_first, assert_last, unknown_procedure, Transition, answer, end_search, replace_by}
use Rattle.ml_search.specs.Actions.{prune_to, resolve, Action, transition, after_inference, scan, update, search_apart, with_map, with_goals, continue_with}
use Rattle.ml_search.specs.Actions.{branch_by, throw_ball, raise_term, unless_fault, unless_too_large, after_builtin, copies, next_after, findall_result}
use Rattle.ml_search.specs.Actions.{procedure_action, body_action, continuation_action, action}
use Rattle.ml_search.specs.Search.{last_of}
use Rattle.ml_search.specs.Replay.{Cursor}
use Rattle.ml_asking.specs.Asking.{Member, ChoicePoint, branch_choice, push_branches}
use Rattle.ml_asking.specs.Expand.{branch_count, height, item_name, continuation_over_lists, branch_over_lists, Fits, IsThere}
use Rattle.ml_asking.proofs.BranchCounts.{last_all, last_suc, last_more, last_length, out_mapped, out_more, out_last, fits_above}

module _ (cs : List Cursor) where
  -- branches above choice points, each above those behind it, and what is done with them
  abbrev pub outs : List (Branch Member) → List ChoicePoint → List (Branch ItemName)
  outs [] r = []
  outs (b ∷ bs) r = branch_over_lists cs (push_branches bs r) b ∷ outs bs r

  abbrev pub out_course : List ChoicePoint → Transition Member → Transition ItemName
  out_course r (answer ts) = answer ts
  out_course r (end_search e) = end_search e
  out_course r (replace_by bs) = replace_by (outs bs r)
  out_course r (prune_to h a) = prune_to (height cs r h) (out_course (last_of h r) a)
  out_course r (resolve t b ks) = resolve t (branch_over_lists cs r b) ks

  abbrev pub out_alter : Alter Member → Alter ItemName
  out_alter (puts t) = puts t
  out_alter (takes t) = takes t
  out_alter (puts_first c) = puts_first c
  out_alter (puts_last c) = puts_last c
  out_alter (drops x) = drops (item_name cs x)

  abbrev pub out_act : List ChoicePoint → Action Member → Action ItemName
  out_act r (transition a) = transition (out_course r a)
  out_act r (after_inference a) = after_inference (out_act r a)
  out_act r (scan how d t b) = scan how d t (branch_over_lists cs r b)
  out_act r (update c x y z) = update (out_alter c) (out_course r x) (out_course r y) (out_course r z)
  out_act r (search_apart x g l b) = search_apart x g l (branch_over_lists cs r b)

  pub by_out : (r : List ChoicePoint) (o : Option Map) (b : Branch Member) → outs (branch_by o b) r ≡ branch_by o (branch_over_lists cs r b)
  by_out r None b = refl
  by_out r (Some m) b = rw (out_mapped (height cs r) (item_name cs) m b.goals) refl

  fits_up : (h n : ℕ) (gs : Continuation Member) → h ≤ n → Fits cs h gs → Fits cs n gs
  fits_up = fits_above (IsThere cs)

  caught_out : (h : ℕ) (r : List ChoicePoint) (o : Option Map) (b : Branch Member) (a : Transition Member) (a' : Transition ItemName) → h ≤ length r →
      Fits cs h b.goals → a' ≡ out_course (last_of h r) a
      →
      elim o [ Some m ↦ replace_by (with_map m (branch_over_lists cs r b) ∷ []) | None ↦ a' ]
      ≡ out_course (last_of h r) (elim o [ Some m ↦ replace_by (with_map m b ∷ []) | None ↦ a ])
  caught_out h r None b a a' l f e = e
  caught_out h r (Some m) b a a' l f e = rw (out_mapped (height cs (last_of h r)) (item_name cs) m b.goals, out_last cs h r b.goals l f) refl

  thrown_out : (r : List ChoicePoint) (t : Tree) (next : ℕ) (gs : Continuation Member) → Fits cs (length r) gs →
      throw_ball t next (continuation_over_lists cs r gs) ≡ out_course r (throw_ball t next gs)
  thrown_out r t next success f = refl
  thrown_out r t next (run_body g h gs) f = thrown_out r t next gs (fits_up h (length r) gs f.0 f.1)
  thrown_out r t next (cut_to h gs) f = thrown_out r t next gs (fits_up h (length r) gs f.0 f.1)
  thrown_out r t next (count_inference gs) f = thrown_out r t next gs f
  thrown_out r t next (unify u v gs) f = thrown_out r t next gs f
  thrown_out r t next (erase x gs) f = thrown_out r t next gs f.1
  thrown_out r t next (catch_mark h c q saved ts gs) f =
      let l = last_length h r f.0 in
      let g : Fits cs (length (last_of h r)) saved = fits_up h (length (last_of h r)) saved (omega (arith, l)) f.1 in
      let e : throw_ball t next (continuation_over_lists cs r saved) ≡ out_course (last_of h r) (throw_ball t next saved) =
      ap (throw_ball t next) (sym (out_last cs h r saved f.0 f.1)) ∙ thrown_out (last_of h r) t next saved g in
      ap (prune_to (height cs r h))
      (caught_out h r (unifier (rename next t) c) (record { goals = run_body (call q) h saved; terms = ts; next = next + width t })
      (throw_ball t next saved) (throw_ball t next (continuation_over_lists cs r saved)) f.0 (omega arith, f.1) e)

  raised_out : (r : List ChoicePoint) (t : Tree) (b : Branch Member) → Fits cs (length r) b.goals →
      raise_term t (branch_over_lists cs r b) ≡ out_course r (raise_term t b)
  raised_out r t b f = thrown_out r (error_ball t b.next) b.next b.goals f

  checked_out : (r : List ChoicePoint) (o : Option Tree) (b : Branch Member) (a : Action Member) (a' : Action ItemName) → Fits cs (length r) b.goals →
      a' ≡ out_act r a
      → unless_fault o (branch_over_lists cs r b) a' ≡ out_act r (unless_fault o b a)
  checked_out r None b a a' f e = e
  checked_out r (Some t) b a a' f e = ap transition (raised_out r t b f)

  sized_out : (r : List ChoicePoint) (o : Bool) (b : Branch Member) (a : Action Member) → Fits cs (length r) b.goals →
      unless_too_large o (branch_over_lists cs r b) (out_act r a) ≡ out_act r (unless_too_large o b a)
  sized_out r false b a f = refl
  sized_out r true b a f = ap transition (raised_out r (resource_error (codes "term")) b f)

  did_out : (r : List ChoicePoint) (d : BuiltinResult) (gs : Continuation Member) (b : Branch Member) → Fits cs (length r) b.goals →
      after_builtin d (continuation_over_lists cs r gs) (branch_over_lists cs r b) ≡ out_course r (after_builtin d gs b)
  did_out r fails gs b f = refl
  did_out r (binds m next) gs b f = rw (out_mapped (height cs r) (item_name cs) m gs) refl
  did_out r (raises t) gs b f = raised_out r t b f

  pub gathered_out : (r : List ChoicePoint) (l : Tree) (b : Branch Member) (e : End) (ts : List Tree) → Fits cs (length r) b.goals →
      findall_result l (branch_over_lists cs r b) e ts ≡ out_course r (findall_result l b e ts)
  gathered_out r l b out_of_inferences ts f = refl
  gathered_out r l b (ball t) ts f = thrown_out r t b.next b.goals f
  gathered_out r l b end_of_answers ts f =
      ap replace_by (sym (by_out r (unifier l (list_term (copies b.next ts))) (record { goals = b.goals; terms = b.terms; next = next_after b.next ts })))

  -- two branches, the second one behind the first
  two_out : (r : List ChoicePoint) (gs hs : Continuation Member) (b : Branch Member) (gs' : Continuation ItemName) →
      gs' ≡ continuation_over_lists cs (branch_choice (with_goals hs b) ∷ r) gs
      →
      replace_by (with_goals gs' (branch_over_lists cs r b) ∷ with_goals (continuation_over_lists cs r hs) (branch_over_lists cs r b) ∷ [])
      ≡ out_course r (replace_by (with_goals gs b ∷ with_goals hs b ∷ []))
  two_out r gs hs b gs' e = rw e refl

  -- the goals of a condition
  condition : (r : List ChoicePoint) (b : Branch Member) (c : Body) (gs : Continuation Member) → Fits cs (length r) gs
      →
      run_body c (suc (branch_count cs r)) (cut_to (branch_count cs r) (continuation_over_lists cs r gs))
      ≡ continuation_over_lists cs (branch_choice b ∷ r) (run_body c (suc (length r)) (cut_to (length r) gs))
  condition r b c gs f =
      let p : branch_count cs (branch_choice b ∷ r) ≡ suc (branch_count cs r) = omega arith in
      rw (last_suc (branch_choice b) r, last_more (length r) (branch_choice b) r (omega arith), last_all r, out_more cs (branch_choice b) r gs f, p) refl

  -- a change, where too many were made
  full_out : (c : Alter ItemName) (x y : Transition ItemName) (r : List ChoicePoint) (b : Branch Member) → Fits cs (length r) b.goals
      →
      after_inference (update c x y (raise_term (resource_error (codes "changes")) (branch_over_lists cs r b)))
      ≡ after_inference (update c x y (out_course r (raise_term (resource_error (codes "changes")) b)))
  full_out c x y r b w = ap (λ z. after_inference (update c x y z)) (raised_out r (resource_error (codes "changes")) b w)

  known_out : (q : Procedure) (f : List ℕ) (ts : List Tree) (gs : Continuation Member) (r : List ChoicePoint) (b : Branch Member) → Fits cs (length r) b.goals
      →
      procedure_action q f ts (continuation_over_lists cs r gs) (branch_count cs r) (branch_over_lists cs r b)
      ≡ out_act r (procedure_action q f ts gs (length r) b)
  known_out (plain_builtin d) f ts gs r b w = ap (λ x. after_inference (transition x)) (did_out r (d b.next) gs b w)
  known_out (declared_predicate how d) f ts gs r b w =
      ap after_inference (sized_out r (is_too_large (goal_term f ts)) b (scan how d (goal_term f ts) (with_goals gs b)) w)
  known_out (retract_clause d h u) f ts gs r b w = refl
  known_out (program_predicate ks) f ts gs r b w = refl
  known_out (raise_error t) f ts gs r b w = ap (λ x. after_inference (transition x)) (raised_out r t b w)
  known_out (insert_tuple t) f ts gs r b w =
      full_out (puts t) (continue_with (continuation_over_lists cs r gs) (branch_over_lists cs r b))
      (continue_with (continuation_over_lists cs r gs) (branch_over_lists cs r b)) r b w
  known_out (delete_tuple t) f ts gs r b w =
      full_out (takes t) (continue_with (continuation_over_lists cs r gs) (branch_over_lists cs r b)) (replace_by []) r b w
  known_out (assert_first c) f ts gs r b w =
      full_out (puts_first c) (continue_with (continuation_over_lists cs r gs) (branch_over_lists cs r b))
      (continue_with (continuation_over_lists cs r gs) (branch_over_lists cs r b)) r b w
  known_out (assert_last c) f ts gs r b w =
      full_out (puts_last c) (continue_with (continuation_over_lists cs r gs) (branch_over_lists cs r b))
      (continue_with (continuation_over_lists cs r gs) (branch_over_lists cs r b)) r b w
  known_out unknown_procedure f ts gs r b w = ap transition (raised_out r (existence_error f (length ts)) b w)

  module _ (known : List ℕ → List Tree → Procedure) where
    body_out : (r : List ChoicePoint) (x : Body) (h : ℕ) (gs : Continuation Member) (b : Branch Member) → Fits cs (length r) b.goals → h ≤ length r →
        Fits cs h gs
        →
        body_action known x (height cs r h) (continuation_over_lists cs r gs) (branch_count cs r) (branch_over_lists cs r b)
        ≡ out_act r (body_action known x h gs (length r) b)
    body_out r true_goal h gs b w l f = refl
    body_out r fail_goal h gs b w l f = refl
    body_out r cut h gs b w l f = rw (out_last cs h r gs l f) refl
    body_out r (conjunction x y) h gs b w l f = refl
    body_out r (disjunction x y) h gs b w l f =
        ap transition
        (two_out r (run_body x h gs) (run_body y h gs) b (continuation_over_lists cs r (run_body x h gs))
        (sym (out_more cs (branch_choice (with_goals (run_body y h gs) b)) r (run_body x h gs) (l, f))))
    body_out r (if_then_else c x y) h gs b w l f =
        ap transition
        (two_out r (run_body c (suc (length r)) (cut_to (length r) (run_body x h gs))) (run_body y h gs) b _
        (condition r (with_goals (run_body y h gs) b) c (run_body x h gs) (l, f)))
    body_out r (if_then c x) h gs b w l f =
        ap transition
        (two_out r (run_body c (suc (length r)) (cut_to (length r) (run_body x h gs))) (run_body fail_goal h gs) b _
        (condition r (with_goals (run_body fail_goal h gs) b) c (run_body x h gs) (l, f)))
    body_out r (call g) h gs b w l f =
        ap after_inference (checked_out r (goal_fault g) b (transition (continue_with (run_body (body_from g) (length r) gs) b)) _ w (rw (last_all r) refl))
    body_out r (once g) h gs b w l f =
        ap after_inference
        (checked_out r (goal_fault g) b (transition (continue_with (run_body (body_from g) (length r) (cut_to (length r) gs)) b)) _ w (rw (last_all r) refl))
    body_out r (not_provable g) h gs b w l f =
        let e : run_body fail_goal (branch_count cs r) (continuation_over_lists cs r gs) ≡ continuation_over_lists cs r (run_body fail_goal (length r) gs) =
        rw (last_all r) refl in
        ap after_inference
        (checked_out r (goal_fault g) b
        (transition
        (replace_by (with_goals (run_body (body_from g) (suc (length r)) (cut_to (length r) (run_body fail_goal (length r) gs))) b ∷ with_goals gs b ∷ [])))
        _ w
        (ap transition (two_out r (run_body (body_from g) (suc (length r)) (cut_to (length r) (run_body fail_goal (length r) gs))) gs b _
        (ap (λ x. run_body (body_from g) (suc (branch_count cs r)) (cut_to (branch_count cs r) x)) e
        ∙ condition r (with_goals gs b) (body_from g) (run_body fail_goal (length r) gs) (omega arith, fits_up h (length r) gs l f)))))
    body_out r (catch g c q) h gs b w l f =
        ap after_inference
        (checked_out r (goal_fault g) b (transition (continue_with (run_body (body_from g) (length r) (catch_mark (length r) c q gs b.terms gs)) b)) _ w
        (rw (last_all r) refl))
    body_out r (throw t) h gs b w l f =
        ap after_inference
        (checked_out r (ball_fault t) b (transition (throw_ball t b.next gs)) _ w (ap transition (thrown_out r t b.next gs (fits_up h (length r) gs l f))))
    body_out r (findall x g z) h gs b w l f =
        ap after_inference
        (checked_out r (goal_fault g) b (unless_fault (list_fault z) b (search_apart x g z (with_goals gs b))) _ w
        (checked_out r (list_fault z) b (search_apart x g z (with_goals gs b)) _ w refl))
    body_out r (predication f ts) h gs b w l e = known_out (known f ts) f ts gs r b w

    goals_out : (r : List ChoicePoint) (gs : Continuation Member) (b : Branch Member) → Fits cs (length r) b.goals → Fits cs (length r) gs
        →
        continuation_action known (continuation_over_lists cs r gs) (branch_count cs r) (branch_over_lists cs r b)
        ≡ out_act r (continuation_action known gs (length r) b)
    goals_out r success b w f = refl
    goals_out r (run_body g h gs) b w f = body_out r g h gs b w f.0 f.1
    goals_out r (cut_to h gs) b w f = rw (out_last cs h r gs f.0 f.1) refl
    goals_out r (count_inference gs) b w f = refl
    goals_out r (unify t u gs) b w f = ap (λ x. transition (replace_by x)) (sym (by_out r (unifier t u) (with_goals gs b)))
    goals_out r (erase x gs) b w f =
        ap (update (drops (item_name cs x)) (continue_with (continuation_over_lists cs r gs) (branch_over_lists cs r b)) (replace_by []))
        (raised_out r (resource_error (codes "changes")) b w)
    goals_out r (catch_mark h c q saved ts gs) b w f = refl

    pub act_out : (r : List ChoicePoint) (b : Branch Member) → Fits cs (length r) b.goals →
        action known (branch_count cs r) (branch_over_lists cs r b) ≡ out_act r (action known (length r) b)
    act_out r b w = goals_out r b.goals b w w
