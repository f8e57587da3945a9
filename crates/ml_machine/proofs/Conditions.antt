-- A step at a condition: the alternative is a choice, and the condition runs above it. Behind it the choice goes, and the outcome runs.
use Rattle.std.specs.Prelude.{◌≡◌, ℕ, suc, ◌+◌, Bool, false, true, List, [], ◌∷◌, ◌++◌, length, reverse}
use Rattle.std.proofs.Common.{refl, sym, ap, ◌∙◌, subst, arith, length-append}
use Rattle.std.proofs.lemmas.Bool.{or_left}
use Rattle.std.proofs.lemmas.List.{length-reverse}
use Rattle.ml_term.specs.Tree.{Tree, substitute}
use Rattle.ml_search.specs.Program.{Program}
use Rattle.ml_search.specs.Bodies.{Body, fail_goal, if_then, if_then_else, in_body}
use Rattle.ml_search.specs.Actions.{Continuation, run_body, cut_to, Branch, with_goals}
use Rattle.ml_asking.specs.Asking.{Member, ChoicePoint, branch_choice, AskingSearch, Move}
use Rattle.ml_asking.specs.TurnWords.{at_goals}
use Rattle.ml_asking.proofs.TurnRows.{choose_turns, only_if_turns}
use Rattle.ml_compile.specs.declared.instr.Instr.TheVariants.{Choose}
use Rattle.ml_stack.specs.declared.choice.Choice.{Choice}
use Rattle.ml_stack.specs.declared.frame.At.{At}
use Rattle.ml_stack.specs.declared.frame.Frame.TheVariants.{Body as BodyFrame, Cut}
use Rattle.ml_stack.specs.Memories.{Contents, value_in, with_frame, CompiledProcedure}
use Rattle.ml_stack.specs.Variables.{HasSlots}
use Rattle.ml_stack.specs.Stands.{View, lower, with_stacks, Continues, Runs, IsBranch, of_link, of_goes}
use Rattle.ml_stack.specs.Choices.{StandFor}
use Rattle.ml_stack.proofs.BodyValues.{right_of}
use Rattle.ml_stack.proofs.Below.{continues_below}
use Rattle.ml_stack.proofs.ChoicePoints.{as_many}
use Rattle.ml_machine.specs.declared.machine.Machine.{Machine}
use Rattle.ml_machine.specs.declared.position.Position.TheVariants.{Runs as RunsAt}
use Rattle.ml_machine.specs.declared.position.Then.TheVariants.{Goes}
use Rattle.ml_machine.specs.Instructions.{HasInstruction, EndsBehind, further, block_at}
use Rattle.ml_machine.specs.MoreFrames.{HasMoreFrames}
use Rattle.ml_machine.specs.Positions.{at_place}
use Rattle.ml_machine.specs.Steps.{Follows, StepsTo}
use Rattle.ml_machine.proofs.FirstGoals.{at_first, begun, is_choose, IsCondition, with_alternative, without_one}
use Rattle.ml_machine.proofs.GrownFrames.{one_frame, more_frames, terms_stay, choices_stay, link_stays, body_linked, cut_linked}
use Rattle.ml_machine.proofs.StacksKept.{KeepsOthers, stacks_change, choices_of}
use Rattle.ml_machine.proofs.ControlTurns.{first_turns}
use Rattle.ml_machine.proofs.Alternatives.{block_in, Pushes, same_below}

-- each part of a condition has its slots
record HasAllSlots (M : Contents) (env : ℕ) (x y z : Body) : Type 0 where
  condition : HasSlots M env x
  outcome : HasSlots M env y
  alternative : HasSlots M env z

none_in_fail : (M : Contents) (env : ℕ) → HasSlots M env fail_goal
none_in_fail M env n o = absurd (differ o)
  where
    differ : false ≡ true → ⊥
    differ e = cc

all_slots : {M : Contents} {x y z b : Body} (env : ℕ) → IsCondition x y z b → HasSlots M env b → HasAllSlots M env x y z
all_slots {M = M} {x = x} {y = y} {z = z} env (with_alternative e) h =
    let slots : HasSlots M env (if_then_else x y z) = subst (λ b. HasSlots M env b) e h in
    record {
      condition = λ n o. slots n (or_left _ _ o);
      outcome = λ n o. slots n (right_of _ _ (or_left _ _ o));
      alternative = λ n o. slots n (right_of _ _ (right_of _ _ o));
    }
all_slots {M = M} {x = x} {y = y} {z = z} env (without_one e f) h =
    let slots : HasSlots M env (if_then x y) = subst (λ b. HasSlots M env b) e h in
    record {
      condition = λ n o. slots n (or_left _ _ o);
      outcome = λ n o. slots n (right_of _ _ o);
      alternative = subst (λ b. HasSlots M env b) (sym f) (none_in_fail M env);
    }

module _ (p : Program) (ps : List CompiledProcedure) where
  -- the turn of a condition
  chosen : {v : Move} {x y z b : Body} (σ : Tree → Tree) (m : AskingSearch) (d : Branch Member) (r : List ChoicePoint) (gs behind : Continuation Member)
      (h : ℕ) →
      IsCondition x y z b
      → gs ≡ run_body (in_body σ b) h behind → Follows p v (at_goals gs d r m)
      → Follows p v
      (at_goals (run_body (in_body σ x) (suc (length r)) (cut_to (length r) (run_body (in_body σ y) h behind))) d
      (branch_choice (with_goals (run_body (in_body σ z) h behind) d) ∷ r) m)
  chosen {x = x} {y = y} {z = z} σ m d r gs behind h (with_alternative e) is f =
      first_turns p ps m d r gs _
      (λ b r m. at_goals (run_body (in_body σ x) (suc (length r)) (cut_to (length r) (run_body (in_body σ y) h behind))) b
      (branch_choice (with_goals (run_body (in_body σ z) h behind) b) ∷ r) m) f
      (is ∙ ap (λ b. run_body (in_body σ b) h behind) e) (choose_turns p (in_body σ x) (in_body σ y) (in_body σ z) h behind)
  chosen {v = v} {x = x} {y = y} {z = z} σ m d r gs behind h (without_one e k) is f =
      subst
      (λ b. Follows p v
      (at_goals (run_body (in_body σ x) (suc (length r)) (cut_to (length r) (run_body (in_body σ y) h behind))) d
      (branch_choice (with_goals (run_body (in_body σ b) h behind) d) ∷ r) m))
      (sym k)
      (first_turns p ps m d r gs _
      (λ b r m. at_goals (run_body (in_body σ x) (suc (length r)) (cut_to (length r) (run_body (in_body σ y) h behind))) b
      (branch_choice (with_goals (run_body fail_goal h behind) b) ∷ r) m) f
      (is ∙ ap (λ b. run_body (in_body σ b) h behind) e) (only_if_turns p (in_body σ x) (in_body σ y) h behind))

  -- N is memory with the rest of the block, O with the alternative too, P with the outcome, and t's memory with the cut
  module _ (s t : Machine) (keeps : KeepsOthers s t) (a : At) (second third end : ℕ) (ends : Bool) (N O P : Contents) (height behind link taken decided : ℕ)
      (grown : HasMoreFrames s.memory N) (is_O : O ≡ with_frame N (BodyFrame (block_at a third a.height behind))) (is_link : link ≡ length N.frames + 1)
      (is_P : P ≡ with_frame O (BodyFrame (block_at a second a.height behind))) (is_taken : taken ≡ length O.frames + 1)
      (is : t.memory ≡ with_frame P (Cut height taken)) (is_decided : decided ≡ length P.frames + 1)
      (is_height : height ≡ length s.stacks.choices.items)
      (goes_on : (w : View) (n : ℕ) (gs : Continuation Member) → EndsBehind ps s.memory a end ends → Runs ps s.memory w n (further a end) gs →
      Continues ps N w n behind gs)
      (pushed : Pushes ps O s.stacks.choices.items t.stacks.choices.items link) (c : Choice) (more : t.stacks.choices.items
      ≡ s.stacks.choices.items ++ c ∷ []) where
    pub after_choose : HasInstruction ps s.memory a (Choose second third end) → EndsBehind ps s.memory a end ends →
        StepsTo p ps s (RunsAt a) t (Goes (RunsAt (block_at a 1 (suc height) decided)))
    after_choose h ended written v i =
        let f = at_first p ps i in
        let g = begun ps (Choose second third end) (λ e. cc) f.first h in
        let k = is_choose second third end g.spells g.stands in
        let w = f.w in
        let n : ℕ = length w.choice_points in
        let σ : Tree → Tree = substitute (value_in s.memory a.env) in
        let stand : StandFor ps s.memory s.stacks.choices.items w = choices_of ps f.behind in
        let high : height ≡ n =
        omega (arith, is_height, as_many ps stand.stacked, ap length stand.seen, length-reverse s.stacks.choices.items) in
        let f1 : HasMoreFrames N O = one_frame N O _ is_O in
        let f2 : HasMoreFrames O P = one_frame O P _ is_P in
        let f3 : HasMoreFrames P t.memory = one_frame P t.memory _ is in
        let to_O : HasMoreFrames s.memory O = more_frames s.memory N O grown f1 in
        let to_t : HasMoreFrames s.memory t.memory = more_frames s.memory O t.memory to_O (more_frames O P t.memory f2 f3) in
        let rest : Runs ps s.memory w a.height (further a end) g.behind = subst (λ q. Runs ps s.memory w a.height
        (record a { place = q }) g.behind) k.end_is g.rest in
        let behind_N : Continues ps N w a.height behind g.behind = goes_on w a.height g.behind ended rest in
        let behind_O : Continues ps O w a.height behind g.behind = link_stays ps f1 behind_N in
        let slots = all_slots a.env k.is g.slots in
        let goals_y : Continuation Member = run_body (in_body σ k.y) a.height g.behind in
        let goals_z : Continuation Member = run_body (in_body σ k.z) a.height g.behind in
        let goals_x : Continuation Member = run_body (in_body σ k.x) (suc n) (cut_to n goals_y) in
        let alternative : Runs ps N w n (block_at a third a.height behind) goals_z =
        block_in ps k.z a n third a.height behind grown g.code k.alternative g.high slots.alternative behind_N in
        let branch : IsBranch ps O w link (with_goals goals_z f.b) =
        of_link (body_linked ps is_O is_link alternative) (terms_stay to_O refl refl refl f.terms) in
        let before : StandFor ps O s.stacks.choices.items w = choices_stay ps to_O stand in
        let e : ChoicePoint = branch_choice (with_goals goals_z f.b) in
        let u : View = with_stacks w (reverse t.stacks.choices.items) (e ∷ w.choice_points) in
        let after : StandFor ps O t.stacks.choices.items u = pushed w e before (of_goes branch) in
        let after_all : StandFor ps t.memory t.stacks.choices.items u = choices_stay ps (more_frames O P t.memory f2 f3) after in
        let low : lower n u ≡ lower n w = same_below ps n s.stacks.choices.items t.stacks.choices.items c e more before (omega arith) in
        let outcome : Runs ps O w n (block_at a second a.height behind) goals_y =
        block_in ps k.y a n second a.height behind to_O g.code k.outcome g.high slots.outcome behind_O in
        let outcome_linked : Continues ps P w n taken goals_y = body_linked ps is_P is_taken outcome in
        let outcome_above : Continues ps P u n taken goals_y = continues_below ps u (sym low) outcome_linked in
        let cut_here : Continues ps t.memory u (suc n) decided (cut_to n goals_y) =
        cut_linked ps (is ∙ ap (λ x. with_frame P (Cut x taken)) high) is_decided (omega arith) outcome_above in
        let condition : Runs ps t.memory u (suc n) (block_at a 1 (suc n) decided) goals_x =
        block_in ps k.x a (suc n) 1 (suc n) decided to_t g.code k.condition (omega arith) slots.condition cut_here in
        record {
          move = at_goals goals_x f.b (e ∷ w.choice_points) f.m;
          follows = chosen σ f.m f.b w.choice_points f.gs g.behind a.height k.is g.is f.follows;
          is_at = at_place (stacks_change ps (reverse t.stacks.choices.items) (branch_choice (with_goals goals_x f.b) ∷ e ∷ w.choice_points)
              (e ∷ w.choice_points) keeps after_all f.behind)
              refl (terms_stay to_t refl refl refl f.terms)
              (subst (λ x. Runs ps t.memory u (suc n) (block_at a 1 (suc x) decided) goals_x) (sym high) condition) refl;
        }

  -- the same, by what the calls say
  module _ (s t : Machine) (keeps : KeepsOthers s t) (a otherwise outcome condition : At) (second third end : ℕ) (ends : Bool) (N O P : Contents)
      (height up behind link taken decided : ℕ)
      (grown : HasMoreFrames s.memory N) (is_otherwise : otherwise ≡ block_at a third a.height behind) (is_outcome : outcome
      ≡ block_at a second a.height behind)
      (is_condition : condition ≡ block_at a 1 up decided) (is_up : up ≡ length t.stacks.choices.items)
      (is_O : O ≡ with_frame N (BodyFrame otherwise)) (is_link : link ≡ length N.frames + 1)
      (is_P : P ≡ with_frame O (BodyFrame outcome)) (is_taken : taken ≡ length O.frames + 1)
      (is : t.memory ≡ with_frame P (Cut height taken)) (is_decided : decided ≡ length P.frames + 1)
      (is_height : height ≡ length s.stacks.choices.items)
      (goes_on : (w : View) (n : ℕ) (gs : Continuation Member) → EndsBehind ps s.memory a end ends → Runs ps s.memory w n (further a end) gs →
      Continues ps N w n behind gs)
      (pushed : Pushes ps O s.stacks.choices.items t.stacks.choices.items link) (more : (c : Choice) × (t.stacks.choices.items
      ≡ s.stacks.choices.items ++ c ∷ [])) where
    pub after_choose_calls : HasInstruction ps s.memory a (Choose second third end) → EndsBehind ps s.memory a end ends →
        StepsTo p ps s (RunsAt a) t (Goes (RunsAt condition))
    after_choose_calls h ended =
        let one_up : up ≡ suc height = omega (arith, is_up, is_height, ap length more.1, length-append s.stacks.choices.items (more.0 ∷ [])) in
        subst (λ x. StepsTo p ps s (RunsAt a) t (Goes (RunsAt x))) (sym (is_condition ∙ ap (λ x. block_at a 1 x decided) one_up))
        (after_choose s t keeps a second third end ends N O P height behind link taken decided grown (is_O
        ∙ ap (λ x. with_frame N (BodyFrame x)) is_otherwise) is_link
        (is_P ∙ ap (λ x. with_frame O (BodyFrame x)) is_outcome) is_taken is is_decided is_height goes_on pushed more.0 more.1 h ended)
