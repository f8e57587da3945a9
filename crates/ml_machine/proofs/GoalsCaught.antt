-- A `catch/3` whose goal runs, and a ball that is thrown.
use Rattle.std.specs.Prelude.{◌≡◌, ℕ, suc, ◌+◌, ◌<◌, List, [], ◌∷◌, length, Some, None, IsTrue}
use Rattle.std.proofs.Common.{refl, sym, ap, ◌∙◌, subst, arith}
use Rattle.ml_term.specs.Tree.{Tree}
use Rattle.ml_term.specs.Seen.{seen}
use Rattle.ml_term.specs.Valid.{is_valid}
use Rattle.ml_term.specs.declared.term.Term.{Term}
use Rattle.ml_search.specs.Program.{Program}
use Rattle.ml_search.specs.Bodies.{throw, goal_fault, ball_fault}
use Rattle.ml_search.specs.Actions.{Continuation, run_body, catch_mark, with_goals}
use Rattle.ml_asking.specs.Asking.{Member, branch_choice, with_choice_points, Move}
use Rattle.ml_asking.specs.TurnWords.{throw_move, with_left}
use Rattle.ml_asking.proofs.TurnRows.{catch_turns, throw_turns, throw_refused}
use Rattle.ml_heap.specs.Changes.{cell_count}
use Rattle.ml_stack.specs.declared.frame.At.{At}
use Rattle.ml_stack.specs.declared.frame.Frame.TheVariants.{Caught}
use Rattle.ml_stack.specs.declared.moment.Moment.{Moment}
use Rattle.ml_stack.specs.Memories.{Contents, Grows, IsMoment, memory_of, now_of, with_frame, tree, IsTree, AreTrees, CompiledProcedure}
use Rattle.ml_stack.specs.Stands.{View, lower, Continues, Holds, of_caught, Stacked}
use Rattle.ml_stack.proofs.ChoicePoints.{as_many, lower_all}
use Rattle.ml_stack.proofs.Moments.{moment_now, is_moment_now, moment_stays, memory_stays}
use Rattle.ml_machine.specs.declared.machine.Machine.{Machine}
use Rattle.ml_machine.specs.declared.position.Position.TheVariants.{Runs as RunsAt, Throws}
use Rattle.ml_machine.specs.declared.position.Then.TheVariants.{Goes}
use Rattle.ml_machine.specs.Controls.{IsGiven, GivesTo, IsRaising, catching}
use Rattle.ml_machine.specs.Positions.{at_ball}
use Rattle.ml_machine.proofs.GrownFrames.{one_frame, frames_grow, link_stays}
use Rattle.ml_machine.proofs.StacksKept.{KeepsOthers, same_terms, search_changes, choices_of}
use Rattle.ml_machine.proofs.GoalsGiven.{given_turns, framed, high_is, IsHigh, RunsBody}

module _ (ps : List CompiledProcedure) where
  -- The frame of a `catch/3` that was pushed at this moment: what it keeps stands in the memory of
  -- the moment.
  pub caught_holds : (M N : Contents) (w : View) (moment : Moment) (catcher recovery height next : ℕ) (gs : Continuation Member) (ts : List Tree)
      → moment ≡ now_of M → N ≡ with_frame M (Caught height moment catcher recovery next) → height ≡ length w.choice_points
      → catcher < cell_count M.heap → recovery < cell_count M.heap → Stacked ps M w → Continues ps M w (length w.choice_points) next gs → AreTrees M w.terms ts
      → Holds ps N w (length w.choice_points) (Caught height moment catcher recovery next)
      (catch_mark (length w.choice_points) (tree M catcher) (tree M recovery) gs ts gs)
  caught_holds M N w moment catcher recovery height next gs ts now is high inside_1 inside_2 stacked c terms =
      let n : ℕ = length w.choice_points in
      let grown : Grows M N [] = frames_grow M N (one_frame M N _ is) in
      let was : IsMoment M moment = subst (λ m. IsMoment M m) (sym now) (is_moment_now M) in
      let back : memory_of N moment ≡ M = memory_stays M N [] grown moment was ∙ ap (λ m. memory_of M m) now ∙ moment_now M in
      let low : lower n w ≡ w = lower_all n w (omega (arith, as_many ps stacked)) (omega arith) in
      let stacked_back : Stacked ps (memory_of N moment) (lower n w) = subst (λ X. Stacked ps X (lower n w)) (sym back) (subst (λ v. Stacked ps M v)
      (sym low) stacked) in
      let saved : Continues ps (memory_of N moment) (lower n w) n next gs =
      subst (λ X. Continues ps X (lower n w) n next gs) (sym back) (subst (λ v. Continues ps M v n next gs) (sym low) c) in
      let catcher_back : IsTree (memory_of N moment) catcher (tree M catcher) = subst (λ X. IsTree X catcher (tree M catcher)) (sym back)
      (record { inside = inside_1; is = refl }) in
      let recovery_back : IsTree (memory_of N moment) recovery (tree M recovery) =
      subst (λ X. IsTree X recovery (tree M recovery)) (sym back) (record { inside = inside_2; is = refl }) in
      let terms_back : AreTrees (memory_of N moment) w.terms ts = subst (λ X. AreTrees X w.terms ts) (sym back) terms in
      subst (λ h. Holds ps N w n (Caught h moment catcher recovery next) (catch_mark n (tree M catcher) (tree M recovery) gs ts gs)) (sym high)
      (of_caught (omega arith) (moment_stays M N [] grown moment was) stacked_back saved (link_stays ps
      (one_frame M N _ is) c) catcher_back recovery_back terms_back)

module _ (p : Program) (ps : List CompiledProcedure) where
  module _ (s t : Machine) (keeps : KeepsOthers s t) (choices : t.stacks.choices.items ≡ s.stacks.choices.items) (goal next height : ℕ) (at : At)
      (is_height : IsHigh p ps s height) (fault : goal_fault (tree s.memory goal) ≡ None) (catcher recovery : ℕ) (moment : Moment) (now : moment
      ≡ now_of s.memory)
      (inside_1 : catcher < cell_count s.memory.heap) (inside_2 : recovery < cell_count s.memory.heap)
      (N : Contents) (link : ℕ) (is : N ≡ with_frame s.memory (Caught height moment catcher recovery next)) (is_link : link ≡ length s.memory.frames + 1)
      (grown : Grows N t.memory []) (heap : t.memory.heap ≡ N.heap) (runs : RunsBody p ps N t.memory goal height link at) where
    pub after_catch : GivesTo p ps s (catching s.memory catcher recovery) goal next t (Goes (RunsAt at))
    after_catch written v f =
        let w = f.w in
        let n : ℕ = length w.choice_points in
        let high : height ≡ n = high_is p ps height is_height f.behind in
        let none : goal_fault f.argument ≡ None = ap goal_fault f.is_argument.is ∙ fault in
        let mark : Continuation Member = catch_mark n (tree s.memory catcher) (tree s.memory recovery) f.behind_goal f.b.terms f.behind_goal in
        framed p ps s t keeps choices goal next height at is_height fault N
        (Caught height moment catcher recovery next) link is is_link grown heap runs written v f.m w f.b
        f.argument mark
        (given_turns p ps f.m f.b w.choice_points _ (suc s.left) _ f.follows f.used
        (catch_turns p f.argument (tree s.memory catcher) (tree s.memory recovery) f.height f.behind_goal s.left none))
        f.behind f.terms f.is_argument.is
        (caught_holds ps s.memory N w moment catcher recovery height next f.behind_goal f.b.terms now is high inside_1 inside_2
        (choices_of ps f.behind).stacked f.continues f.terms.terms)

  -- a ball with a fault
  pub ball_refused : (s : Machine) (ball next : ℕ) (error : Tree) → ball_fault (tree s.memory ball) ≡ Some error → (written : List (List Tree))
      (v : Move) → IsGiven p ps s written throw ball next v → IsRaising p ps s written error next v
  ball_refused s ball next error fault written v f =
      let g : Continuation Member = run_body (throw f.argument) f.height f.behind_goal in
      record {
        m = with_left s.left (with_choice_points (branch_choice (with_goals g f.b) ∷ f.w.choice_points) f.m);
        w = f.w;
        b = with_goals g f.b;
        behind_goal = f.behind_goal;
        follows = given_turns p ps f.m f.b f.w.choice_points g (suc s.left) _ f.follows f.used
            (throw_refused p f.argument error f.height f.behind_goal s.left (ap ball_fault f.is_argument.is ∙ fault));
        behind = search_changes ps _ f.behind;
        terms = same_terms refl refl refl f.terms;
        continues = f.continues;
      }

  -- a ball is thrown
  pub after_throw : (s : Machine) (ball next : ℕ) (term : Term) → ball_fault (tree s.memory ball) ≡ None → seen term ≡ tree s.memory ball
      → IsTrue (is_valid (seen term)) → GivesTo p ps s throw ball next s (Goes (Throws term next))
  after_throw s ball next term fault same valid written v f =
      let g : Continuation Member = run_body (throw f.argument) f.height f.behind_goal in
      let m = with_left s.left (with_choice_points (branch_choice (with_goals g f.b) ∷ f.w.choice_points) f.m) in
      let none : ball_fault f.argument ≡ None = ap ball_fault f.is_argument.is ∙ fault in
      let is : f.argument ≡ seen term = f.is_argument.is ∙ sym same in
      record {
        move = throw_move f.argument f.b.next f.behind_goal f.w.choice_points m;
        follows = given_turns p ps f.m f.b f.w.choice_points g (suc s.left) _ f.follows f.used (throw_turns p f.argument f.height f.behind_goal s.left none);
        is_at = at_ball {m = m} (search_changes ps _ f.behind) valid f.continues
            (ap (λ x. throw_move x f.b.next f.behind_goal f.w.choice_points m) is
            ∙ ap (λ k. throw_move (seen term) k f.behind_goal f.w.choice_points m) f.terms.next);
      }
