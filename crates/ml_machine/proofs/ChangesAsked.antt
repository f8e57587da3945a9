-- What a goal that changes lists comes to is done: an error is raised, or a change or a cursor is asked for.
use Rattle.std.specs.Prelude.{◌≡◌, ℕ, suc, Bool, true, false, List, [], ◌∷◌, IsTrue}
use Rattle.std.proofs.Common.{refl, sym, ap, ◌∙◌, subst}
use Rattle.ml_term.specs.Tree.{Tree}
use Rattle.ml_term.specs.Seen.{seen}
use Rattle.ml_term.specs.Valid.{is_valid}
use Rattle.ml_term.specs.declared.term.Term.{Term}
use Rattle.ml_search.specs.Program.{Program}
use Rattle.ml_search.specs.Bodies.{predication}
use Rattle.ml_search.specs.Errors.{kept_small}
use Rattle.ml_search.specs.Operations.{Operation, Reply, opens, insert, delete, asserta, assertz}
use Rattle.ml_search.specs.Seen.{operation_seen}
use Rattle.ml_search.specs.Actions.{Continuation, run_body, Branch, with_goals, to_retract}
use Rattle.ml_search.specs.declared.operation.Op.{Op}
use Rattle.ml_search.specs.declared.operation.Op.TheVariants.{Open, Next, Insert, Delete, Assertz, Asserta, DeleteAt}
use Rattle.ml_asking.specs.Asking.{Member, branch_choice, AskingSearch, Move, request, with_choice_points, after_opening}
use Rattle.ml_asking.specs.TurnWords.{after_change, with_left, TurnsWith}
use Rattle.ml_asking.specs.Requests.{has_valid_term}
use Rattle.ml_asking.proofs.TurnRows.{store_refused, retract_turns, insert_turns, delete_turns, assert_first_turns, assert_last_turns}
use Rattle.ml_heap.specs.Changes.{stands_for}
use Rattle.ml_stack.specs.declared.choice.How.TheVariants.{Retract as RetractUse}
use Rattle.ml_stack.specs.Memories.{CompiledProcedure, tree}
use Rattle.ml_store_goals.specs.declared.goal.StoreGoal.TheVariants.{Raise, Change, Retract}
use Rattle.ml_machine.specs.declared.machine.Machine.{Machine}
use Rattle.ml_machine.specs.declared.position.Awaits.TheVariants.{Cursor, Change as ChangeReply}
use Rattle.ml_machine.specs.declared.position.Then.TheVariants.{Asks}
use Rattle.ml_machine.specs.Awaited.{for_cursor, for_change, unchanged}
use Rattle.ml_machine.specs.Controls.{IsRaising}
use Rattle.ml_machine.specs.StoreCalls.{IsStoring, IsStoringSome, StoresTo}
use Rattle.ml_machine.specs.Steps.{Follows, IsThen}
use Rattle.ml_machine.proofs.GoalsGiven.{given_turns}
use Rattle.ml_machine.proofs.StacksKept.{same_terms, search_changes}

module _ (p : Program) (ps : List CompiledProcedure) (s : Machine) (next : ℕ) where
  -- the error that is raised
  pub error_valid : (error : Term) → IsStoringSome s (Raise error) next → IsTrue (is_valid (seen error))
  error_valid error h = h.4.is.valid

  -- an error, which is the given one once both are kept small
  pub record RaisesSame (written : List (List Tree)) (error : Term) (v : Move) : Type 0 where
    pub term : Tree
    pub same : kept_small term ≡ kept_small (seen error)
    pub raising : IsRaising p ps s written term next v

  pub store_raises : (error : Term) (written : List (List Tree)) (v : Move) → IsStoring p ps s written (Raise error) next v → RaisesSame written error v
  store_raises error written v f =
      let gs : Continuation Member = run_body (predication f.f f.ts) f.height f.behind_goal in
      record {
        term = f.is.term;
        same = f.is.same;
        raising = record {
          m = with_left s.left (with_choice_points (branch_choice (with_goals gs f.b) ∷ f.w.choice_points) f.m);
          w = f.w;
          b = with_goals gs f.b;
          behind_goal = f.behind_goal;
          follows = given_turns p ps f.m f.b f.w.choice_points gs (suc s.left) _ f.follows f.used
              (store_refused p f.f f.ts f.is.term f.height f.behind_goal s.left f.is.is);
          behind = search_changes ps _ f.behind;
          terms = same_terms refl refl refl f.terms;
          continues = f.continues;
        };
      }

  -- a change is asked, by the turn of its goal
  change_by : (op : Op) (must : Bool) (written : List (List Tree)) (v : Move) (f : IsStoring p ps s written (Change op must) next v)
      → IsTrue (has_valid_term (operation_seen op))
      → TurnsWith (suc s.left) p (run_body (predication f.f f.ts) f.height f.behind_goal)
      (λ b r m. request (operation_seen op) (λ reply.
      after_change reply (unchanged must (with_goals f.behind_goal b)) f.behind_goal (with_goals f.behind_goal b) r (with_left s.left m)))
      → IsThen p ps s written v (Asks op (ChangeReply must next))
  change_by op must written v f valid turns =
      let gs : Continuation Member = run_body (predication f.f f.ts) f.height f.behind_goal in
      let b : Branch Member = with_goals f.behind_goal f.b in
      let m : AskingSearch = with_left s.left (with_choice_points (branch_choice (with_goals gs f.b) ∷ f.w.choice_points) f.m) in
      let reply : Reply → Move = λ x. after_change x (unchanged must b) f.behind_goal b f.w.choice_points m in
      record {
        reply = reply;
        follows = given_turns p ps f.m f.b f.w.choice_points gs (suc s.left) _ f.follows f.used turns;
        valid = valid;
        awaits = for_change {m = m} {b = b} (search_changes ps _ f.behind) (same_terms refl refl refl f.terms) f.continues (λ x. refl);
      }

  pub change_asked : (op : Op) (must : Bool) → StoresTo p ps s (Change op must) next s (Asks op (ChangeReply must next))
  change_asked (Insert t) true written v f = let e : true ≡ false = f.is.1 in absurd (cc e)
  change_asked (Insert t) false written v f =
      change_by (Insert t) false written v f f.is.2 (insert_turns p f.f f.ts (seen t) f.height f.behind_goal s.left f.is.0)
  change_asked (Delete t) false written v f = let e : false ≡ true = f.is.1 in absurd (cc e)
  change_asked (Delete t) true written v f =
      change_by (Delete t) true written v f f.is.2 (delete_turns p f.f f.ts (seen t) f.height f.behind_goal s.left f.is.0)
  change_asked (Asserta t) true written v f = let e : true ≡ false = f.is.1 in absurd (cc e)
  change_asked (Asserta t) false written v f =
      change_by (Asserta t) false written v f f.is.2 (assert_first_turns p f.f f.ts (seen t) f.height f.behind_goal s.left f.is.0)
  change_asked (Assertz t) true written v f = let e : true ≡ false = f.is.1 in absurd (cc e)
  change_asked (Assertz t) false written v f =
      change_by (Assertz t) false written v f f.is.2 (assert_last_turns p f.f f.ts (seen t) f.height f.behind_goal s.left f.is.0)
  change_asked (Open d t) must written v f = absurd f.is
  change_asked (Next c i) must written v f = absurd f.is
  change_asked (DeleteAt c i) must written v f = absurd f.is

  -- a cursor over the clauses to be taken out is asked for
  pub retract_asked : (list : ℕ) (pattern : Term) (head body : ℕ)
      → StoresTo p ps s (Retract list pattern head body) next s (Asks (Open list pattern) (Cursor RetractUse head body next))
  retract_asked list pattern head body written v f =
      let gs : Continuation Member = run_body (predication f.f f.ts) f.height f.behind_goal in
      let b : Branch Member = with_goals f.behind_goal f.b in
      let m : AskingSearch = with_left s.left (with_choice_points (branch_choice (with_goals gs f.b) ∷ f.w.choice_points) f.m) in
      let u : Tree = stands_for s.memory.heap body in
      let reply : Reply → Move = λ x. after_opening x (to_retract u) (seen pattern) b f.w.choice_points m in
      record {
        reply = reply;
        follows = given_turns p ps f.m f.b f.w.choice_points gs (suc s.left) _ f.follows f.used
            (retract_turns p f.f f.ts list f.height (seen pattern) u f.behind_goal s.left f.is.is);
        valid = f.is.valid;
        awaits = for_cursor {m = m} {b = b} (search_changes ps _ f.behind) (same_terms refl refl refl f.terms)
            (record { inside = f.is.head_inside; is = sym f.is.head_is }) (record { inside = f.is.body_inside; is = refl }) refl f.continues (λ x. refl);
      }
