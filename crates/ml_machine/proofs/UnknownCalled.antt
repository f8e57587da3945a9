-- An unknown predicate is called: the error that says so is raised.
use Rattle.std.specs.Prelude.{◌≡◌, ℕ, List, ◌∷◌, length}
use Rattle.std.proofs.Common.{refl, ap, ◌∙◌, subst}
use Rattle.ml_term.specs.Tree.{Tree}
use Rattle.ml_search.specs.Program.{Program}
use Rattle.ml_search.specs.Bodies.{predication}
use Rattle.ml_search.specs.Errors.{existence_error}
use Rattle.ml_search.specs.Actions.{Continuation, run_body, Branch, with_goals}
use Rattle.ml_asking.specs.Asking.{Member, branch_choice, AskingSearch, Move, go_on, with_choice_points}
use Rattle.ml_asking.specs.TurnWords.{at_goals}
use Rattle.ml_asking.proofs.TurnRows.{unknown_turns}
use Rattle.ml_program.specs.declared.link.Link.TheVariants.{Unknown}
use Rattle.ml_program.specs.LinkedGoals.{control_of}
use Rattle.ml_program.specs.Links.{link_of}
use Rattle.ml_program.proofs.LinksTold.{tells_other, tells_unknown}
use Rattle.ml_stack.specs.Memories.{CompiledProcedure}
use Rattle.ml_machine.specs.declared.machine.Machine.{Machine}
use Rattle.ml_machine.specs.Steps.{Follows}
use Rattle.ml_machine.specs.Calls.{IsCall}
use Rattle.ml_machine.specs.Controls.{IsRaising}
use Rattle.ml_machine.proofs.MovesFollowed.{turn_follows}
use Rattle.ml_machine.proofs.StacksKept.{same_terms, search_changes}

pub unknown_raises : (p : Program) (ps : List CompiledProcedure) (s : Machine) (f : List ℕ) (n next : ℕ) → link_of p ps f n ≡ Unknown
    → (written : List (List Tree)) (v : Move) → IsCall p ps s written f n next v → IsRaising p ps s written (existence_error f n) next v
unknown_raises p ps s f n next is written v c =
    let here : link_of p ps f (length c.ts) ≡ Unknown = ap (link_of p ps f) c.many ∙ is in
    let body = tells_other p ps f c.ts (ap control_of here) in
    let goals : Continuation Member = run_body (predication f c.ts) c.height c.behind_goal in
    let b : Branch Member = with_goals goals c.b in
    let m : AskingSearch = with_choice_points (branch_choice b ∷ c.w.choice_points) c.m in
    let there : Follows p v (go_on m) =
    subst (λ x. Follows p v (at_goals (run_body x c.height c.behind_goal) c.b c.w.choice_points c.m)) body c.follows in
    let raised = turn_follows p v _ m there
    (unknown_turns p f c.ts c.height c.behind_goal (tells_unknown p ps f c.ts here) m b c.w.choice_points refl refl) in
    subst (λ k. IsRaising p ps s written (existence_error f k) next v) c.many (record {
      m = m;
      w = c.w;
      b = b;
      behind_goal = c.behind_goal;
      follows = raised;
      behind = search_changes ps (branch_choice b ∷ c.w.choice_points) c.behind;
      terms = same_terms refl refl refl c.terms;
      continues = c.continues;
    })
