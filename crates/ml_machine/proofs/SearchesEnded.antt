-- The search inside a `findall/3` is over: the one that waits goes on with the list of its answers.
use Rattle.std.specs.Prelude.{◌≡◌, ℕ, ◌<◌, ◌≤◌, List, [], ◌∷◌, length, reverse, Some}
use Rattle.std.proofs.Common.{refl, sym, ap, ◌∙◌, subst}
use Rattle.ml_term.specs.Tree.{Tree}
use Rattle.ml_term.specs.Unify.{unifier}
use Rattle.ml_search.specs.Program.{Program}
use Rattle.ml_search.specs.ListTerms.{list_term}
use Rattle.ml_search.specs.Actions.{Branch, with_map, copies, next_after}
use Rattle.ml_asking.specs.Asking.{Member, ChoicePoint, branch_choice, FindallFrame, AskingSearch, Move, with_choice_points}
use Rattle.ml_asking.specs.TurnWords.{at_choices, resume_from}
use Rattle.ml_asking.proofs.TurnRows.{gathered_alike, gathered_unlike}
use Rattle.ml_heap.specs.Changes.{heap_of_mark, variable_count, cell_count}
use Rattle.ml_stack.specs.declared.level.Stacks.{Stacks}
use Rattle.ml_stack.specs.declared.level.FindallEnd.{FindallEnd}
use Rattle.ml_stack.specs.Memories.{Contents, tree, CompiledProcedure}
use Rattle.ml_stack.specs.Stands.{View, HasTerms, Continues, IsBranch, of_link, Stacked}
use Rattle.ml_stack.specs.Answers.{AreCopies, Keeps}
use Rattle.ml_stack.specs.Levels.{StacksStand, StacksStandForSome, HandsOver, GivesBack, outer_view}
use Rattle.ml_stack.proofs.Carried.{continues_carried}
use Rattle.ml_stack.proofs.ChoicePoints.{none_left, stacked_grows}
use Rattle.ml_machine.specs.declared.machine.Machine.{Machine}
use Rattle.ml_machine.specs.declared.position.Position.TheVariants.{Goes as GoesAt, Fails}
use Rattle.ml_machine.specs.declared.position.Then.TheVariants.{Goes}
use Rattle.ml_machine.specs.AnswersGathered.{all_of, list_of_copies, IsGathered, IsNotGathered}
use Rattle.ml_machine.specs.Positions.{IsBehind, at_link, at_failure, StandsForAny}
use Rattle.ml_machine.specs.Steps.{StepsTo}
use Rattle.ml_machine.proofs.MovesFollowed.{no_turn, turn_follows}
use Rattle.ml_machine.proofs.LastChoices.{failing, IsFailing}
use Rattle.ml_machine.proofs.BallsThrown.{trees_carried}
use Rattle.ml_machine.proofs.BallsOut.{taken_out}

branch_terms : {ps : List CompiledProcedure} {M : Contents} {w : View} {l : ℕ} {b : Branch Member} → IsBranch ps M w l b → HasTerms M w b
branch_terms (of_link c h) = h

branch_goals : {ps : List CompiledProcedure} {M : Contents} {w : View} {l : ℕ} {b : Branch Member} → IsBranch ps M w l b →
    Continues ps M w (length w.choice_points) l b.goals
branch_goals (of_link c h) = c

-- the list of copies, by the branch's next number and the wanted list
same_question : (o : FindallFrame) (N : Contents) (list : ℕ) (found : List (List Tree)) → o.list ≡ tree N list → o.branch.next ≡ variable_count N.heap →
    unifier o.list (list_term (copies o.branch.next (all_of found))) ≡ unifier (tree N list) (list_of_copies N found)
same_question o N list found l n =
    ap (λ x. unifier x (list_term (copies o.branch.next (all_of found)))) l ∙ ap (λ k. unifier (tree N list) (list_term (copies k (all_of found)))) n

module _ (p : Program) (ps : List CompiledProcedure) (s t : Machine) (N : Contents) (end : FindallEnd) (none : s.stacks.choices.items ≡ [])
    (hands : HandsOver s.stacks t.stacks (Some end)) (gives : (w : View) → StacksStand ps s.memory s.stacks w → GivesBack ps N t.stacks w (Some end))
    (answers : t.answers ≡ heap_of_mark s.answers end.kept) (left : t.left ≡ s.left) where
  no_choice : {written : List (List Tree)} {v : Move} (f : IsFailing ps s written v) → f.m.choice_points ≡ []
  no_choice f = f.choice_points ∙ none_left ps (f.behind.stacks.choices ∙ ap reverse none) f.behind.stacks.stacked

  pub after_alike : ((found : List (List Tree)) → AreCopies s.answers end.found.items found → IsGathered N t.memory end.list found) →
      StepsTo p ps s Fails t (Goes (GoesAt end.next))
  after_alike gathers written v j =
      let f = failing ps j in
      let k = taken_out ps N t.stacks end hands gives f.behind in
      let g = gathers f.m.found k.found in
      let u : View = outer_view t.stacks k.o k.os in
      let h = branch_terms k.branch in
      let all : List Tree = all_of f.m.found in
      let m : AskingSearch = resume_from k.o k.os f.m.left in
      let b : Branch Member = with_map g.map (record { goals = k.o.branch.goals; terms = k.o.branch.terms; next = next_after k.o.branch.next all }) in
      let es : List ChoicePoint = branch_choice b ∷ k.o.choice_points in
      let behind : IsBehind ps t written (with_choice_points es m) u = record {
        stacks = record {
          choices = k.stands.choices;
          terms = k.stands.terms;
          levels = k.stands.levels;
          stacked = stacked_grows ps N t.memory g.map u g.grown k.stands.stacked;
        };
        frames = refl;
        left = f.behind.left ∙ sym left;
        found = subst (λ x. Keeps x (reverse t.stacks.levels.items) k.os k.o.found written) (sym answers) k.keeps;
        asks = k.asks;
      } in
      record {
        move = at_choices es m;
        follows = turn_follows p v _ f.m (no_turn p v _ f.is)
            (gathered_alike p f.m k.o k.os g.map (no_choice f) k.frames (same_question k.o N end.list f.m.found k.list.is h.next ∙ g.unified));
        is_at = at_link {b = b} behind refl
            (record { terms = trees_carried g.grown h.terms; next = ap (λ n. next_after n all) h.next ∙ sym g.counted })
            (continues_carried N t.memory g.map g.grown ps (branch_goals k.branch)) refl;
      }

  pub after_unlike : ((found : List (List Tree)) → AreCopies s.answers end.found.items found → IsNotGathered N t.memory end.list found) →
      StepsTo p ps s Fails t (Goes Fails)
  after_unlike gathers written v j =
      let f = failing ps j in
      let k = taken_out ps N t.stacks end hands gives f.behind in
      let g = gathers f.m.found k.found in
      let u : View = outer_view t.stacks k.o k.os in
      let h = branch_terms k.branch in
      let m : AskingSearch = resume_from k.o k.os f.m.left in
      let behind : IsBehind ps t written (with_choice_points k.o.choice_points m) u = record {
        stacks = record {
          choices = k.stands.choices;
          terms = k.stands.terms;
          levels = k.stands.levels;
          stacked = subst (λ M. Stacked ps M u) (sym g.same) k.stands.stacked;
        };
        frames = refl;
        left = f.behind.left ∙ sym left;
        found = subst (λ x. Keeps x (reverse t.stacks.levels.items) k.os k.o.found written) (sym answers) k.keeps;
        asks = k.asks;
      } in
      record {
        move = at_choices k.o.choice_points m;
        follows = turn_follows p v _ f.m (no_turn p v _ f.is)
            (gathered_unlike p f.m k.o k.os (no_choice f) k.frames (same_question k.o N end.list f.m.found k.list.is h.next ∙ g.unlike));
        is_at = at_failure behind refl refl;
      }

-- stacks stand for something, and what is handed over is there
pub ending_stacks : {s : Machine} → StandsForAny s Fails → StacksStandForSome s.memory s.stacks
ending_stacks h = let f = failing h.0 h.1.2 in (h.0, f.w, f.behind.stacks)

pub record EndFacts (s : Machine) (N : Contents) (end : FindallEnd) : Type 0 where
  pub list : end.list < cell_count N.heap
  pub found : (found : List (List Tree)) × AreCopies s.answers end.found.items found
  pub kept : end.kept ≤ length s.answers

pub end_facts : {s : Machine} (N : Contents) (k : Stacks) (end : FindallEnd) → HandsOver s.stacks k (Some end) →
    ((ps : List CompiledProcedure) (w : View) → StacksStand ps s.memory s.stacks w → GivesBack ps N k w (Some end)) → StandsForAny s Fails → EndFacts s N end
end_facts N k end hands gives h =
    let f = failing h.0 h.1.2 in
    let x = taken_out h.0 N k end hands (gives h.0) f.behind in
    record { list = x.list.inside; found = (f.m.found, x.found); kept = x.kept }
