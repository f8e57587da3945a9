-- Control constructs that are given a goal: the goal runs, above a choice or with a frame behind it.
use Rattle.std.specs.Prelude.{◌≡◌, ℕ, suc, ◌+◌, ◌≤◌, List, [], ◌∷◌, ◌++◌, length, reverse, Some, None, slice_get}
use Rattle.std.proofs.Common.{refl, sym, ap, ◌∙◌, subst, arith, add-one, length-append, append_assoc}
use Rattle.std.proofs.lemmas.List.{length-reverse}
use Rattle.ml_term.specs.Tree.{Tree}
use Rattle.ml_search.specs.Program.{Program}
use Rattle.ml_search.specs.Bodies.{Body, call, once, not_provable, body_from, goal_fault, fail_goal}
use Rattle.ml_search.specs.Actions.{Continuation, run_body, cut_to, Branch, with_goals}
use Rattle.ml_asking.specs.Asking.{Member, ChoicePoint, branch_choice, AskingSearch, Move, with_choice_points}
use Rattle.ml_asking.specs.TurnWords.{at_goals, with_left, goal_argument, TurnsWith}
use Rattle.ml_asking.proofs.TurnRows.{goal_refused, call_turns, once_turns, unless_turns}
use Rattle.ml_heap.specs.Changes.{Changes, variable_count}
use Rattle.ml_stack.specs.declared.choice.Choice.{Choice}
use Rattle.ml_stack.specs.declared.frame.At.{At}
use Rattle.ml_stack.specs.declared.frame.Frame.{Frame}
use Rattle.ml_stack.specs.declared.frame.Frame.TheVariants.{Cut, Refute}
use Rattle.ml_stack.specs.Memories.{Contents, Grows, with_frame, tree, CompiledProcedure}
use Rattle.ml_stack.specs.Stands.{View, with_stacks, lower, HasTerms, Continues, goes, Holds, of_cut, of_refute, Runs, of_link, of_goes}
use Rattle.ml_stack.specs.Choices.{StandFor}
use Rattle.ml_stack.proofs.Below.{continues_below}
use Rattle.ml_stack.proofs.ChoicePoints.{as_many, stacked_grows}
use Rattle.ml_stack.proofs.ListEnds.{found_at_seam}
use Rattle.ml_machine.specs.declared.machine.Machine.{Machine}
use Rattle.ml_machine.specs.declared.position.Position.TheVariants.{Runs as RunsAt}
use Rattle.ml_machine.specs.declared.position.Then.TheVariants.{Goes}
use Rattle.ml_machine.specs.Controls.{IsGiven, GivesTo, IsRaising}
use Rattle.ml_machine.specs.Positions.{IsBehind, at_place}
use Rattle.ml_machine.specs.Steps.{Follows, IsThen}
use Rattle.ml_machine.proofs.MovesFollowed.{turn_follows}
use Rattle.ml_machine.proofs.GrownFrames.{one_frame, link_stays}
use Rattle.ml_machine.proofs.StacksKept.{KeepsOthers, same_terms, search_changes, stacks_change, choices_of}
use Rattle.ml_machine.proofs.CallsBuilt.{behind_grows, terms_grow}
use Rattle.ml_machine.proofs.Alternatives.{Pushes, same_below}

module _ (p : Program) (ps : List CompiledProcedure) where
  -- a turn of the first goal, which uses an inference or ends the search
  pub given_turns : {v : Move} (m : AskingSearch) (b : Branch Member) (r : List ChoicePoint) (gs : Continuation Member) (n : ℕ)
      (move : Branch Member → List ChoicePoint → AskingSearch → Move) → Follows p v (at_goals gs b r m) → m.left ≡ n → TurnsWith n p gs move →
      Follows p v (move (with_goals gs b) r (with_choice_points (branch_choice (with_goals gs b) ∷ r) m))
  given_turns {v = v} m b r gs n move f l t =
      turn_follows p v _ (with_choice_points (branch_choice (with_goals gs b) ∷ r) m) f
      (t (with_choice_points (branch_choice (with_goals gs b) ∷ r) m) (with_goals gs b) r refl refl l)

  -- a goal with a fault: its error is raised
  pub refused : (s : Machine) (construct : Tree → Body) (goal next : ℕ) (error : Tree) → ((t : Tree) → goal_argument (construct t) ≡ Some t)
      → goal_fault (tree s.memory goal) ≡ Some error → (written : List (List Tree)) (v : Move) → IsGiven p ps s written construct goal next v
      → IsRaising p ps s written error next v
  refused s construct goal next error has fault written v f =
      let g : Continuation Member = run_body (construct f.argument) f.height f.behind_goal in
      record {
        m = with_left s.left (with_choice_points (branch_choice (with_goals g f.b) ∷ f.w.choice_points) f.m);
        w = f.w;
        b = with_goals g f.b;
        behind_goal = f.behind_goal;
        follows = given_turns f.m f.b f.w.choice_points g (suc s.left) _ f.follows f.used
            (goal_refused p (construct f.argument) f.argument error f.height f.behind_goal s.left (has f.argument) (ap goal_fault f.is_argument.is ∙ fault));
        behind = search_changes ps _ f.behind;
        terms = same_terms refl refl refl f.terms;
        continues = f.continues;
      }

  -- what is read of a machine that is given a goal
  abbrev pub IsHigh : Machine → ℕ → Type 0
  IsHigh s height = height ≡ length s.stacks.choices.items

  pub high_is : {s : Machine} {written : List (List Tree)} {m : AskingSearch} {w : View} (height : ℕ) → IsHigh s height → IsBehind ps s written m w →
      height ≡ length w.choice_points
  high_is {s = s} height e i =
      let stand = choices_of ps i in
      omega (arith, e, as_many ps stand.stacked, ap length stand.seen, length-reverse s.stacks.choices.items)

  -- what the call says that makes a term to code
  abbrev pub RunsBody : Contents → Contents → ℕ → ℕ → ℕ → At → Type 0
  RunsBody N O goal height next at =
      (w : View) (n : ℕ) (gs : Continuation Member) → height ≤ n → Continues ps N w height next gs →
      Runs ps O w n at (run_body (body_from (tree N goal)) height gs)

  same_count : (M N : Contents) → N.heap ≡ M.heap → variable_count N.heap ≡ variable_count M.heap
  same_count M N e = ap (λ (h : Changes). variable_count h) e

  grown_over : (M N O : Contents) (f : Frame) → N ≡ with_frame M f → Grows N O [] → Grows M O []
  grown_over M N O f is g =
      let h : Grows (with_frame M f) O [] = subst (λ X. Grows X O []) is g in
      record {
        heap = h.heap;
        frames = (f ∷ h.frames.0, h.frames.1 ∙ append_assoc M.frames (f ∷ []) h.frames.0);
        slots = h.slots;
        saved = h.saved;
        codes = h.codes;
      }

  -- the goal runs with the choices that were there
  goal_runs : {s t : Machine} {written : List (List Tree)} {v : Move} (keeps : KeepsOthers s t) (choices : t.stacks.choices.items ≡ s.stacks.choices.items)
      (grown : Grows s.memory t.memory []) (heap : t.memory.heap ≡ s.memory.heap) (at : At) (m : AskingSearch) (w : View) (b : Branch Member)
      (gs : Continuation Member) → Follows p v (at_goals gs b w.choice_points (with_left s.left m)) → IsBehind ps s written (with_left s.left m) w
      → HasTerms s.memory w b → Runs ps t.memory w (length w.choice_points) at gs → IsThen p ps t written v (Goes (RunsAt at))
  goal_runs {s = s} {t = t} keeps choices grown heap at m w b gs f i h r =
      record {
        move = at_goals gs b w.choice_points (with_left s.left m);
        follows = f;
        is_at = at_place (search_changes ps (branch_choice (with_goals gs b) ∷ w.choice_points) (behind_grows ps [] keeps choices grown i)) refl
            (same_terms refl refl refl (terms_grow grown (same_count s.memory t.memory heap) h)) r refl;
      }

  module _ (s t : Machine) (keeps : KeepsOthers s t) (choices : t.stacks.choices.items ≡ s.stacks.choices.items) (goal next height : ℕ) (at : At)
      (is_height : IsHigh s height) (fault : goal_fault (tree s.memory goal) ≡ None) where
    pub after_call : Grows s.memory t.memory [] → t.memory.heap ≡ s.memory.heap → RunsBody s.memory t.memory goal height next at →
        GivesTo p ps s call goal next t (Goes (RunsAt at))
    after_call grown heap runs written v f =
        let w = f.w in
        let high : height ≡ length w.choice_points = high_is height is_height f.behind in
        let none : goal_fault f.argument ≡ None = ap goal_fault f.is_argument.is ∙ fault in
        let r : Runs ps t.memory w (length w.choice_points) at (run_body (body_from (tree s.memory goal)) height f.behind_goal) =
        runs w (length w.choice_points) f.behind_goal (omega (arith, high)) (subst (λ n. Continues ps s.memory w n next f.behind_goal)
        (sym high) f.continues) in
        let here : Runs ps t.memory w (length w.choice_points) at (run_body (body_from f.argument) (length w.choice_points) f.behind_goal) =
        subst (λ x. Runs ps t.memory w (length w.choice_points) at (run_body (body_from x) (length w.choice_points) f.behind_goal)) (sym f.is_argument.is)
        (subst (λ n. Runs ps t.memory w (length w.choice_points) at (run_body (body_from (tree s.memory goal)) n f.behind_goal)) high r) in
        goal_runs keeps choices grown heap at f.m w f.b _
        (given_turns f.m f.b w.choice_points _ (suc s.left) _ f.follows f.used (call_turns p f.argument f.height f.behind_goal s.left none))
        f.behind f.terms here

    -- N is memory with the frame
    module _ (N : Contents) (f : Frame) (link : ℕ) (is : N ≡ with_frame s.memory f) (is_link : link ≡ length s.memory.frames + 1) (grown : Grows N t.memory [])
        (heap : t.memory.heap ≡ N.heap) (runs : RunsBody N t.memory goal height link at) where
      same_heap : t.memory.heap ≡ s.memory.heap
      same_heap = heap ∙ ap (λ (X : Contents). X.heap) is

      same_tree : tree N goal ≡ tree s.memory goal
      same_tree = ap (λ X. tree X goal) is

      all_grown : Grows s.memory t.memory []
      all_grown = grown_over s.memory N t.memory f is grown

      found_frame : slice_get N.frames (length s.memory.frames) ≡ Some f
      found_frame = ap (λ (X : Contents). slice_get X.frames (length s.memory.frames)) is ∙ found_at_seam s.memory.frames f

      -- the goal runs, and behind it stands the frame
      pub framed : (written : List (List Tree)) (v : Move) (m : AskingSearch) (w : View) (b : Branch Member) (t' : Tree) (gs : Continuation Member)
          → Follows p v (at_goals (run_body (body_from t') (length w.choice_points) gs) b w.choice_points (with_left s.left m))
          → IsBehind ps s written (with_left s.left m) w → HasTerms s.memory w b → t' ≡ tree s.memory goal
          → Holds ps N w (length w.choice_points) f gs → IsThen p ps t written v (Goes (RunsAt at))
      framed written v m w b t' gs follows behind terms same h =
          let n : ℕ = length w.choice_points in
          let high : height ≡ n = high_is height is_height behind in
          let linked : Continues ps N w n link gs = subst (λ l. Continues ps N w n l gs) (sym (is_link
          ∙ add-one (length s.memory.frames))) (goes found_frame h) in
          let r : Runs ps t.memory w n at (run_body (body_from (tree N goal)) height gs) =
          runs w n gs (omega (arith, high)) (subst (λ k. Continues ps N w k link gs) (sym high) linked) in
          let here : Runs ps t.memory w n at (run_body (body_from t') n gs) =
          subst (λ x. Runs ps t.memory w n at (run_body (body_from x) n gs)) (sym (same ∙ sym same_tree))
          (subst (λ k. Runs ps t.memory w n at (run_body (body_from (tree N goal)) k gs)) high r) in
          goal_runs keeps choices all_grown same_heap at m w b _ follows behind terms here

    module _ (N : Contents) (link : ℕ) (is : N ≡ with_frame s.memory (Cut height next)) (is_link : link
        ≡ length s.memory.frames + 1) (grown : Grows N t.memory [])
        (heap : t.memory.heap ≡ N.heap) (runs : RunsBody N t.memory goal height link at) where
      pub after_once : GivesTo p ps s once goal next t (Goes (RunsAt at))
      after_once written v f =
          let n : ℕ = length f.w.choice_points in
          let high : height ≡ n = high_is height is_height f.behind in
          let none : goal_fault f.argument ≡ None = ap goal_fault f.is_argument.is ∙ fault in
          let behind : Continues ps N f.w n next f.behind_goal = link_stays ps (one_frame s.memory N _ is) f.continues in
          framed N (Cut height next) link is is_link grown heap runs written v f.m f.w f.b f.argument (cut_to n f.behind_goal)
          (given_turns f.m f.b f.w.choice_points _ (suc s.left) _ f.follows f.used (once_turns p f.argument f.height f.behind_goal s.left none))
          f.behind f.terms f.is_argument.is
          (subst (λ k. Holds ps N f.w n (Cut k next) (cut_to n f.behind_goal)) (sym high) (of_cut (omega arith) behind))

  module _ (s t : Machine) (keeps : KeepsOthers s t) (goal next height : ℕ) (at : At) (is_height : IsHigh s height)
      (fault : goal_fault (tree s.memory goal) ≡ None) where
    -- a choice was pushed, and N is memory with the frame
    module _ (c : Choice) (more : t.stacks.choices.items ≡ s.stacks.choices.items ++ c ∷ [])
        (pushed : Pushes ps s.memory s.stacks.choices.items t.stacks.choices.items next)
        (N : Contents) (up link : ℕ) (is : N ≡ with_frame s.memory (Refute height next)) (is_link : link ≡ length s.memory.frames + 1)
        (is_up : up ≡ length t.stacks.choices.items) (grown : Grows N t.memory []) (heap : t.memory.heap
        ≡ N.heap) (runs : RunsBody N t.memory goal up link at) where
      pub after_not_provable : GivesTo p ps s not_provable goal next t (Goes (RunsAt at))
      after_not_provable written v f =
          let w = f.w in
          let n : ℕ = length w.choice_points in
          let gs = f.behind_goal in
          let high : height ≡ n = high_is height is_height f.behind in
          let higher : up ≡ suc n =
          omega (arith, is_up, high, is_height, ap length more, length-append s.stacks.choices.items (c ∷ [])) in
          let none : goal_fault f.argument ≡ None = ap goal_fault f.is_argument.is ∙ fault in
          let all : Grows s.memory t.memory [] = grown_over s.memory N t.memory _ is grown in
          let e : ChoicePoint = branch_choice (with_goals gs f.b) in
          let u : View = with_stacks w (reverse t.stacks.choices.items) (e ∷ w.choice_points) in
          let before : StandFor ps s.memory s.stacks.choices.items w = choices_of ps f.behind in
          let after : StandFor ps s.memory t.stacks.choices.items u = pushed w e before (of_goes (of_link f.continues (same_terms refl refl refl f.terms))) in
          let after_all : StandFor ps t.memory t.stacks.choices.items u = record {
            seen = after.seen;
            stacked = stacked_grows ps s.memory t.memory [] u all
                after.stacked;
          } in
          let low : lower n u ≡ lower n w = same_below ps n s.stacks.choices.items t.stacks.choices.items c e more before (omega arith) in
          let behind : Continues ps N u n next gs = link_stays ps (one_frame s.memory N _ is) (continues_below ps u (sym low) f.continues) in
          let refuted : Continuation Member = cut_to n (run_body fail_goal n gs) in
          let found : slice_get N.frames (length s.memory.frames) ≡ Some (Refute height next) =
          ap (λ (X : Contents). slice_get X.frames (length s.memory.frames)) is ∙ found_at_seam s.memory.frames (Refute height next) in
          let linked : Continues ps N u (suc n) link refuted =
          subst (λ l. Continues ps N u (suc n) l refuted) (sym (is_link ∙ add-one (length s.memory.frames)))
          (goes found (subst (λ k. Holds ps N u (suc n) (Refute k next) refuted) (sym high) (of_refute (omega arith) behind))) in
          let r : Runs ps t.memory u (suc n) at (run_body (body_from (tree N goal)) up refuted) =
          runs u (suc n) refuted (omega (arith, higher)) (subst (λ k. Continues ps N u k link refuted) (sym higher) linked) in
          let same : f.argument ≡ tree N goal = f.is_argument.is ∙ sym (ap (λ X. tree X goal) is) in
          let g : Continuation Member = run_body (body_from f.argument) (suc n) refuted in
          let here : Runs ps t.memory u (suc n) at g =
          subst (λ x. Runs ps t.memory u (suc n) at (run_body (body_from x) (suc n) refuted)) (sym same)
          (subst (λ k. Runs ps t.memory u (suc n) at (run_body (body_from (tree N goal)) k refuted)) higher r) in
          record {
            move = at_goals g f.b (e ∷ w.choice_points) (with_left s.left f.m);
            follows = given_turns f.m f.b w.choice_points _ (suc s.left) _ f.follows f.used (unless_turns p f.argument f.height gs s.left none);
            is_at = at_place (stacks_change ps (reverse t.stacks.choices.items) (branch_choice (with_goals g f.b) ∷ e ∷ w.choice_points)
                (e ∷ w.choice_points) keeps after_all f.behind)
                refl (same_terms refl refl refl (terms_grow all (same_count s.memory t.memory (heap ∙ ap (λ (X : Contents). X.heap) is)) f.terms)) here refl;
          }
