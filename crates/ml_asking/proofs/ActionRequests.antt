-- What the table asks, whatever the goals: a fact of each call and each change, from what is known of goals.
use Rattle.std.specs.Prelude.{◌≡◌, ℕ, Bool, true, false, List, length, slice_get, Option, Some, None}
use Rattle.std.proofs.Common.{refl}
use Rattle.ml_term.specs.Tree.{Tree}
use Rattle.ml_term.specs.declared.declaration.Decl.{Decl}
use Rattle.ml_search.specs.Program.{Program, holds_of, is_clause_list}
use Rattle.ml_search.specs.Errors.{is_too_large}
use Rattle.ml_search.specs.Bodies.{Body, true_goal, fail_goal, cut, conjunction, disjunction, if_then, if_then_else, call, once, not_provable, findall, catch}
use Rattle.ml_search.specs.Bodies.{throw, predication, goal_term, goal_fault, ball_fault, list_fault}
use Rattle.ml_search.specs.Changes.{Alter, puts, takes, puts_first, puts_last, drops}
use Rattle.ml_search.specs.Actions.{Continuation, success, run_body, cut_to, count_inference, unify, erase, catch_mark, Branch, Usage, to_retract, Procedure}
use Rattle.ml_search.specs.Actions.{plain_builtin, declared_predicate, retract_clause, program_predicate, raise_error, insert_tuple, delete_tuple, assert_first}
use Rattle.ml_search.specs.Actions.{assert_last, unknown_procedure, Action, transition, after_inference, scan, update, search_apart, unless_fault}
use Rattle.ml_search.specs.Actions.{unless_too_large, with_goals, body_action, continuation_action, procedure_action, action}
use Rattle.ml_search.specs.Procedures.{procedure_of}
use Rattle.ml_asking.specs.Asking.{Member}
use Rattle.ml_asking.specs.Expand.{is_stored}
use Rattle.ml_asking.proofs.ProcedureFacts.{IsListOf, KnownWell, known_well}

module _ (calls_so : Usage → ℕ → Tree → Type 0) (alters_so : Alter Member → Type 0) where
  -- this holds of what is asked
  abbrev pub ActAsks : Action Member → Type 0
  ActAsks (transition a) = Unit {0}
  ActAsks (after_inference a) = ActAsks a
  ActAsks (scan how d t b) = calls_so how d t
  ActAsks (update c x y z) = alters_so c
  ActAsks (search_apart x g l b) = Unit {0}

  checked_asks : (o : Option Tree) (b : Branch Member) (a : Action Member) → ActAsks a → ActAsks (unless_fault o b a)
  checked_asks None b a h = h
  checked_asks (Some t) b a h = tt

  sized_asks : (o : Bool) (b : Branch Member) (a : Action Member) → (o ≡ false → ActAsks a) → ActAsks (unless_too_large o b a)
  sized_asks false b a h = h refl
  sized_asks true b a h = tt

  -- what is known of goals makes this hold
  abbrev pub KnownAsks : List ℕ → List Tree → Procedure → Type 0
  KnownAsks f ts (plain_builtin d) = Unit {0}
  KnownAsks f ts (declared_predicate how d) = is_too_large (goal_term f ts) ≡ false → calls_so how d (goal_term f ts)
  KnownAsks f ts (retract_clause d h b) = calls_so (to_retract b) d h
  KnownAsks f ts (program_predicate cs) = Unit {0}
  KnownAsks f ts (raise_error t) = Unit {0}
  KnownAsks f ts (insert_tuple t) = alters_so (puts t)
  KnownAsks f ts (delete_tuple t) = alters_so (takes t)
  KnownAsks f ts (assert_first c) = alters_so (puts_first c)
  KnownAsks f ts (assert_last c) = alters_so (puts_last c)
  KnownAsks f ts unknown_procedure = Unit {0}

  known_asks : (q : Procedure) (f : List ℕ) (ts : List Tree) (gs : Continuation Member) (n : ℕ) (b : Branch Member) → KnownAsks f ts q →
      ActAsks (procedure_action q f ts gs n b)
  known_asks (plain_builtin d) f ts gs n b h = tt
  known_asks (declared_predicate how d) f ts gs n b h = sized_asks (is_too_large (goal_term f ts)) b (scan how d (goal_term f ts) (with_goals gs b)) h
  known_asks (retract_clause d t u) f ts gs n b h = h
  known_asks (program_predicate cs) f ts gs n b h = tt
  known_asks (raise_error t) f ts gs n b h = tt
  known_asks (insert_tuple t) f ts gs n b h = h
  known_asks (delete_tuple t) f ts gs n b h = h
  known_asks (assert_first c) f ts gs n b h = h
  known_asks (assert_last c) f ts gs n b h = h
  known_asks unknown_procedure f ts gs n b h = tt

  module _ (procedure_of : List ℕ → List Tree → Procedure) (so : (f : List ℕ) (ts : List Tree) → KnownAsks f ts (procedure_of f ts))
      (drops_so : (x : Member) → alters_so (drops x)) where
    body_asks : (x : Body) (h : ℕ) (gs : Continuation Member) (n : ℕ) (b : Branch Member) → ActAsks (body_action procedure_of x h gs n b)
    body_asks true_goal h gs n b = tt
    body_asks fail_goal h gs n b = tt
    body_asks cut h gs n b = tt
    body_asks (conjunction x y) h gs n b = tt
    body_asks (disjunction x y) h gs n b = tt
    body_asks (if_then_else c x y) h gs n b = tt
    body_asks (if_then c x) h gs n b = tt
    body_asks (call g) h gs n b = checked_asks (goal_fault g) b _ tt
    body_asks (once g) h gs n b = checked_asks (goal_fault g) b _ tt
    body_asks (not_provable g) h gs n b = checked_asks (goal_fault g) b _ tt
    body_asks (catch g c q) h gs n b = checked_asks (goal_fault g) b _ tt
    body_asks (throw t) h gs n b = checked_asks (ball_fault t) b _ tt
    body_asks (findall x g z) h gs n b = checked_asks (goal_fault g) b _ (checked_asks (list_fault z) b _ tt)
    body_asks (predication f ts) h gs n b = known_asks (procedure_of f ts) f ts gs n b (so f ts)

    goals_ask : (gs : Continuation Member) (n : ℕ) (b : Branch Member) → ActAsks (continuation_action procedure_of gs n b)
    goals_ask success n b = tt
    goals_ask (run_body g h gs) n b = body_asks g h gs n b
    goals_ask (cut_to h gs) n b = tt
    goals_ask (count_inference gs) n b = tt
    goals_ask (unify t u gs) n b = tt
    goals_ask (erase x gs) n b = drops_so x
    goals_ask (catch_mark h c q saved ts gs) n b = tt

    pub act_asks : (n : ℕ) (b : Branch Member) → ActAsks (action procedure_of n b)
    act_asks n b = goals_ask b.goals n b

-- every list that is called is of the kind that the call wants
abbrev pub IsOfKind : List Decl → Usage → ℕ → Tree → Type 0
IsOfKind decls how d t = holds_of is_clause_list (slice_get decls d) ≡ is_stored how

pub of_kind : (decls : List Decl) (how : Usage) (d : ℕ) (f : List ℕ) (n : ℕ) (t : Tree) → IsListOf decls how d f n → IsOfKind decls how d t
of_kind decls how d f n t l = rw l.stands l.kind

abbrev pub ActMeets : List Decl → Action Member → Type 0
ActMeets decls = ActAsks (IsOfKind decls) (λ c. Unit {0})

module _ (program : Program) where
  known_meets : (f : List ℕ) (ts : List Tree) (q : Procedure) → KnownWell program.decls f ts q → KnownAsks (IsOfKind program.decls) (λ c. Unit {0}) f ts q
  known_meets f ts (plain_builtin d) w = tt
  known_meets f ts (declared_predicate how d) w = λ _. of_kind program.decls how d f (length ts) (goal_term f ts) w
  known_meets f ts (retract_clause d h b) w = rw w.list.stands w.list.kind
  known_meets f ts (program_predicate cs) w = tt
  known_meets f ts (raise_error t) w = tt
  known_meets f ts (insert_tuple t) w = tt
  known_meets f ts (delete_tuple t) w = tt
  known_meets f ts (assert_first c) w = tt
  known_meets f ts (assert_last c) w = tt
  known_meets f ts unknown_procedure w = tt

  pub act_meets : (n : ℕ) (b : Branch Member) → ActMeets program.decls (action (procedure_of program) n b)
  act_meets =
      act_asks (IsOfKind program.decls) (λ c. Unit {0}) (procedure_of program) (λ f ts. known_meets f ts (procedure_of program f ts) (known_well program f ts))
      (λ x. tt)
