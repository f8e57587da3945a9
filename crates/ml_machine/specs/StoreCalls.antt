-- A built-in that changes lists is called: what its checks come to is done.
use Rattle.std.specs.Prelude.{◌≡◌, ℕ, suc, List, length}
use Rattle.ml_term.specs.Tree.{Tree}
use Rattle.ml_search.specs.Program.{Program}
use Rattle.ml_search.specs.Bodies.{predication}
use Rattle.ml_search.specs.Procedures.{procedure_of}
use Rattle.ml_search.specs.Actions.{Continuation, run_body, Branch}
use Rattle.ml_asking.specs.Asking.{Member, AskingSearch, Move}
use Rattle.ml_asking.specs.TurnWords.{at_goals, with_left}
use Rattle.ml_stack.specs.Memories.{CompiledProcedure}
use Rattle.ml_stack.specs.Stands.{View, HasTerms, Continues}
use Rattle.ml_store_goals.specs.Goals.{IsStoreGoal}
use Rattle.ml_store_goals.specs.declared.goal.StoreGoal.{StoreGoal}
use Rattle.ml_machine.specs.declared.machine.Machine.{Machine}
use Rattle.ml_machine.specs.declared.position.Then.{Then}
use Rattle.ml_machine.specs.Positions.{IsBehind}
use Rattle.ml_machine.specs.Steps.{Follows, IsThen}

module _ (p : Program) (ps : List CompiledProcedure) where
  -- What a goal that changes lists comes to is known. The inference of the call was used; the
  -- search has the goal as its first one, and has yet to use it.
  pub record IsStoring (s : Machine) (written : List (List Tree)) (goal : StoreGoal) (next : ℕ)
      (v : Move) : Type 0 where
    pub f : List ℕ
    pub ts : List Tree
    pub m : AskingSearch
    pub w : View
    pub b : Branch Member
    pub height : ℕ
    pub behind_goal : Continuation Member
    pub is : IsStoreGoal s.memory.heap (procedure_of p f ts) goal
    pub follows : Follows p v
        (at_goals (run_body (predication f ts) height behind_goal) b w.choice_points m)
    pub used : m.left ≡ suc s.left
    pub behind : IsBehind ps s written (with_left s.left m) w
    pub terms : HasTerms s.memory w b
    pub continues : Continues ps s.memory w (length w.choice_points) next behind_goal

  -- For every move for which a machine stood when it was about to do so it stands after it.
  abbrev pub StoresTo : Machine → StoreGoal → ℕ → Machine → Then → Type 0
  StoresTo s goal next t then =
      (written : List (List Tree)) (v : Move) → IsStoring s written goal next v →
      IsThen p ps t written v then

-- some program has a machine about to do what a goal comes to
abbrev pub IsStoringSome : Machine → StoreGoal → ℕ → Type 0
IsStoringSome s goal next =
    (p : Program) × (ps : List CompiledProcedure) × (written : List (List Tree)) × (v : Move)
    × IsStoring p ps s written goal next v
