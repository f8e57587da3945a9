-- A search inside a `findall/3` begins: the one that runs is put aside, and the goal runs with nothing to choose.
use Rattle.std.specs.Prelude.{◌≡◌, ℕ, suc, ◌<◌, List, [], ◌∷◌, length, None, Some, reverse}
use Rattle.std.proofs.Common.{refl, sym, ap, ◌∙◌, subst, arith}
use Rattle.std.proofs.lemmas.List.{length-map}
use Rattle.ml_term.specs.Tree.{Tree}
use Rattle.ml_search.specs.Program.{Program}
use Rattle.ml_search.specs.Bodies.{body_from, goal_fault, list_fault}
use Rattle.ml_search.specs.Actions.{Continuation, success, run_body, Branch, with_goals, inner_branch}
use Rattle.ml_asking.specs.Asking.{Member, branch_choice, AskingSearch, FindallFrame, Move, go_on, with_choice_points}
use Rattle.ml_asking.specs.TurnWords.{with_left}
use Rattle.ml_asking.proofs.TurnRows.{findall_turns, findall_refused}
use Rattle.ml_heap.specs.Changes.{Changes, cell_count, variable_count}
use Rattle.ml_stack.specs.declared.frame.At.{At}
use Rattle.ml_stack.specs.declared.level.Level.{Level}
use Rattle.ml_stack.specs.Memories.{Contents, Grows, tree, IsTree, AreTrees, CompiledProcedure}
use Rattle.ml_stack.specs.Stands.{View, HasTerms, ends, IsBranch, of_link, Runs, Stacked, bottom, above, Waiting, nobody, somebody}
use Rattle.ml_stack.specs.Answers.{Keeps}
use Rattle.ml_stack.specs.Levels.{StacksStand, inner_view}
use Rattle.ml_stack.proofs.ChoicePoints.{stacked_grows}
use Rattle.ml_machine.specs.declared.machine.Machine.{Machine}
use Rattle.ml_machine.specs.declared.position.Position.TheVariants.{Runs as RunsAt}
use Rattle.ml_machine.specs.declared.position.Then.TheVariants.{Goes}
use Rattle.ml_machine.specs.Controls.{IsGiven, GivesTo, IsRaising, finding}
use Rattle.ml_machine.specs.Positions.{IsBehind, at_place, AskForOne}
use Rattle.ml_machine.proofs.StacksKept.{same_terms, search_changes}
use Rattle.ml_machine.proofs.CallsBuilt.{terms_grow}
use Rattle.ml_machine.proofs.GoalsGiven.{given_turns, RunsBody}

-- how many terms each search that waits asks for, by what it stands for
abbrev FramesAsk : ℕ → List FindallFrame → Type 0
FramesAsk n [] = Unit {0}
FramesAsk n (o ∷ os) = (n ≡ 1) × FramesAsk (length o.branch.terms) os

as_many_terms : {M : Contents} {rs : List ℕ} {ts : List Tree} → AreTrees M rs ts → length ts ≡ length rs
as_many_terms {M = M} {rs = rs} a = ap length a.are ∙ length-map rs (tree M)

module _ (ps : List CompiledProcedure) where
  branch_terms : {M : Contents} {w : View} {l : ℕ} {b : Branch Member} → IsBranch ps M w l b → length b.terms ≡ length w.terms
  branch_terms (of_link c h) = as_many_terms h.terms

  mutual
    frames_stacked : {M : Contents} {w : View} → Stacked ps M w → (n : ℕ) → n ≡ length w.terms → AskForOne w.terms w.levels → FramesAsk n w.findalls
    frames_stacked {w = w} (bottom c e k) n same a = frames_ask k w.terms n same a
    frames_stacked (above c e m l k) n same a = frames_stacked k n same a

    frames_ask : {M : Contents} {ls : List Level} {os : List FindallFrame} → Waiting ps M ls os → (ts : List ℕ) (n : ℕ) → n ≡ length ts → AskForOne ts ls →
        FramesAsk n os
    frames_ask nobody ts n same a = tt
    frames_ask (somebody m k b t) ts n same a = (same ∙ a.0, frames_stacked k _ (branch_terms b) a.1)

  mutual
    stacked_asks : {M : Contents} {w : View} → Stacked ps M w → (n : ℕ) → n ≡ length w.terms → FramesAsk n w.findalls → AskForOne w.terms w.levels
    stacked_asks {w = w} (bottom c e k) n same a = waiting_asks k w.terms n same a
    stacked_asks (above c e m l k) n same a = stacked_asks k n same a

    waiting_asks : {M : Contents} {ls : List Level} {os : List FindallFrame} → Waiting ps M ls os → (ts : List ℕ) (n : ℕ) → n ≡ length ts → FramesAsk n os →
        AskForOne ts ls
    waiting_asks nobody ts n same a = tt
    waiting_asks (somebody m k b t) ts n same a = (sym same ∙ a.0, stacked_asks k _ (branch_terms b) a.1)

module _ (p : Program) (ps : List CompiledProcedure) where
  -- a list with a fault
  pub list_refused : (s : Machine) (template goal list next : ℕ) (error : Tree) → goal_fault (tree s.memory goal) ≡ None →
      list_fault (tree s.memory list) ≡ Some error
      → (written : List (List Tree)) (v : Move) → IsGiven p ps s written (finding s.memory template list) goal next v → IsRaising p ps s written error next v
  list_refused s template goal list next error fault found written v f =
      let g : Continuation Member = run_body (finding s.memory template list f.argument) f.height f.behind_goal in
      record {
        m = with_left s.left (with_choice_points (branch_choice (with_goals g f.b) ∷ f.w.choice_points) f.m);
        w = f.w;
        b = with_goals g f.b;
        behind_goal = f.behind_goal;
        follows = given_turns p ps f.m f.b f.w.choice_points g (suc s.left) _ f.follows f.used
            (findall_refused p (tree s.memory template) f.argument (tree s.memory list) error f.height f.behind_goal s.left
            (ap goal_fault f.is_argument.is ∙ fault) found);
        behind = search_changes ps _ f.behind;
        terms = same_terms refl refl refl f.terms;
        continues = f.continues;
      }

  -- s puts its search aside, and then memory grows
  module _ (s t : Machine) (answers : t.answers ≡ s.answers) (left : t.left ≡ s.left) (template goal list next : ℕ) (at : At)
      (fault : goal_fault (tree s.memory goal) ≡ None) (found : list_fault (tree s.memory list) ≡ None)
      (inside_1 : template < cell_count s.memory.heap) (inside_2 : list < cell_count s.memory.heap)
      (stands : (w : View) (o : FindallFrame) → StacksStand ps s.memory s.stacks w → o.choice_points ≡ w.choice_points →
      IsBranch ps s.memory w next o.branch → IsTree s.memory list o.list → StacksStand ps s.memory t.stacks (inner_view w template t.stacks.levels.items o))
      (keeps : (os : List FindallFrame) (o : FindallFrame) (written : List (List Tree)) → Keeps s.answers (reverse s.stacks.levels.items) os o.found written
      → Keeps s.answers (reverse t.stacks.levels.items) (o ∷ os) [] written)
      (grown : Grows s.memory t.memory []) (heap : t.memory.heap ≡ s.memory.heap) (runs : RunsBody p ps s.memory t.memory goal 0 0 at) where
    pub after_findall : GivesTo p ps s (finding s.memory template list) goal next t (Goes (RunsAt at))
    after_findall written v f =
        let w = f.w in
        let g : Continuation Member = run_body (finding s.memory template list f.argument) f.height f.behind_goal in
        let o : FindallFrame =
        record { choice_points = w.choice_points; found = f.m.found; branch = with_goals f.behind_goal f.b; list = tree s.memory list } in
        let u : View = inner_view w template t.stacks.levels.items o in
        let b : Branch Member = inner_branch (tree s.memory template) f.argument f.b.next in
        let m : AskingSearch = record { choice_points = branch_choice b ∷ []; found = []; left = s.left; frames = o ∷ f.m.frames } in
        let none : goal_fault f.argument ≡ None = ap goal_fault f.is_argument.is ∙ fault in
        let stand : StacksStand ps s.memory t.stacks u =
        stands w o f.behind.stacks refl (of_link f.continues (same_terms refl refl refl f.terms)) (record { inside = inside_2; is = refl }) in
        let many : length f.b.terms ≡ length w.terms = as_many_terms f.terms.terms in
        let frames : FramesAsk 1 (o ∷ w.findalls) = (refl, frames_stacked ps f.behind.stacks.stacked _ many f.behind.asks) in
        let behind : IsBehind ps t written m u = record {
          stacks = record {
            choices = stand.choices;
            terms = stand.terms;
            levels = stand.levels;
            stacked = stacked_grows ps s.memory t.memory [] u grown stand.stacked;
          };
          frames = ap (λ os. o ∷ os) f.behind.frames;
          left = sym left;
          found = subst (λ (h : Changes). Keeps h (reverse t.stacks.levels.items) (o ∷ w.findalls) [] written) (sym answers)
              (keeps w.findalls o written (subst (λ ls. Keeps s.answers ls w.findalls f.m.found written) f.behind.stacks.levels f.behind.found));
          asks = stacked_asks ps stand.stacked 1 refl frames;
        } in
        let terms : HasTerms t.memory u b =
        terms_grow grown (ap (λ (h : Changes). variable_count h) heap) (record {
          terms = record { inside = (inside_1, tt); are = refl };
          next = f.terms.next;
        }) in
        let r : Runs ps t.memory u 0 at (run_body (body_from (tree s.memory goal)) 0 success) = runs u 0 success (omega arith) ends in
        record {
          move = go_on m;
          follows = given_turns p ps f.m f.b w.choice_points g (suc s.left) _ f.follows f.used
              (findall_turns p (tree s.memory template) f.argument (tree s.memory list) f.height f.behind_goal s.left none found);
          is_at = at_place behind refl terms
              (subst (λ x. Runs ps t.memory u 0 at (run_body (body_from x) 0 success)) (sym f.is_argument.is) r) refl;
        }
