-- A control construct that is given a term. The code has the term in a cell, and has used the
-- inference of the call already; the search has the call as its first goal, and has yet to use it.
use Rattle.std.specs.Prelude.{◌≡◌, ℕ, suc, List, length}
use Rattle.ml_term.specs.Tree.{Tree}
use Rattle.ml_search.specs.Program.{Program}
use Rattle.ml_search.specs.Bodies.{Body, catch, findall}
use Rattle.ml_search.specs.Actions.{Continuation, run_body, Branch}
use Rattle.ml_asking.specs.Asking.{Member, AskingSearch, Move}
use Rattle.ml_asking.specs.TurnWords.{at_goals, raise_move, with_left}
use Rattle.ml_program.specs.declared.link.ControlCall.{ControlCall}
use Rattle.ml_program.specs.LinkedGoals.{IsControlBody}
use Rattle.ml_stack.specs.Memories.{Contents, CompiledProcedure, AreTrees, IsTree, tree}
use Rattle.ml_stack.specs.Stands.{View, HasTerms, Continues}
use Rattle.ml_machine.specs.declared.machine.Machine.{Machine}
use Rattle.ml_machine.specs.declared.position.Then.{Then}
use Rattle.ml_machine.specs.Positions.{IsBehind}
use Rattle.ml_machine.specs.Steps.{Follows, IsThen}

-- `catch/3` round a goal, with the catcher and the recovery of two cells
abbrev pub catching : Contents → ℕ → ℕ → Tree → Body
catching M catcher recovery t = catch t (tree M catcher) (tree M recovery)

-- `findall/3` round a goal, with the template and the list of two cells
abbrev pub finding : Contents → ℕ → ℕ → Tree → Body
finding M template list t = findall (tree M template) t (tree M list)

module _ (p : Program) (ps : List CompiledProcedure) where
  -- A control construct is called with the terms of the cells.
  pub record IsControlled (s : Machine) (written : List (List Tree)) (c : ControlCall) (next : ℕ)
      (v : Move) : Type 0 where
    pub ts : List Tree
    pub construct : Body
    pub m : AskingSearch
    pub w : View
    pub b : Branch Member
    pub height : ℕ
    pub behind_goal : Continuation Member
    pub is : IsControlBody c ts construct
    pub follows : Follows p v
        (at_goals (run_body construct height behind_goal) b w.choice_points m)
    pub used : m.left ≡ suc s.left
    pub behind : IsBehind ps s written (with_left s.left m) w
    pub terms : HasTerms s.memory w b
    pub arguments : AreTrees s.memory s.cells.items ts
    pub continues : Continues ps s.memory w (length w.choice_points) next behind_goal

  -- For every move for which a machine stood when it was about to call one it stands after it.
  abbrev pub ControlsTo : Machine → ControlCall → ℕ → Machine → Then → Type 0
  ControlsTo s c next t then =
      (written : List (List Tree)) (v : Move) → IsControlled s written c next v →
      IsThen p ps t written v then

  -- A control construct is given the term of a cell, and goes on at a link.
  pub record IsGiven (s : Machine) (written : List (List Tree)) (construct : Tree → Body)
      (cell next : ℕ) (v : Move) : Type 0 where
    pub argument : Tree
    pub m : AskingSearch
    pub w : View
    pub b : Branch Member
    pub height : ℕ
    pub behind_goal : Continuation Member
    pub follows : Follows p v
        (at_goals (run_body (construct argument) height behind_goal) b w.choice_points m)
    pub used : m.left ≡ suc s.left
    pub behind : IsBehind ps s written (with_left s.left m) w
    pub terms : HasTerms s.memory w b
    pub is_argument : IsTree s.memory cell argument
    pub continues : Continues ps s.memory w (length w.choice_points) next behind_goal

  -- For every move for which a machine stood when a construct was given a term it stands after it.
  abbrev pub GivesTo : Machine → (Tree → Body) → ℕ → ℕ → Machine → Then → Type 0
  GivesTo s construct cell next t then =
      (written : List (List Tree)) (v : Move) → IsGiven s written construct cell next v →
      IsThen p ps t written v then

  -- An error's term is raised by a goal behind which a link goes on. The ball has yet to be made.
  pub record IsRaising (s : Machine) (written : List (List Tree)) (error : Tree) (next : ℕ)
      (v : Move) : Type 0 where
    pub m : AskingSearch
    pub w : View
    pub b : Branch Member
    pub behind_goal : Continuation Member
    pub follows : Follows p v (raise_move error behind_goal b w.choice_points m)
    pub behind : IsBehind ps s written m w
    pub terms : HasTerms s.memory w b
    pub continues : Continues ps s.memory w (length w.choice_points) next behind_goal

  -- For every move for which a machine stood when an error was to be raised it stands after it.
  abbrev pub RaisesTo : Machine → Tree → ℕ → Machine → Then → Type 0
  RaisesTo s error next t then =
      (written : List (List Tree)) (v : Move) → IsRaising s written error next v →
      IsThen p ps t written v then

-- some program has a control construct called in a machine
abbrev pub IsControlledSome : Machine → ControlCall → ℕ → Type 0
IsControlledSome s c next =
    (p : Program) × (ps : List CompiledProcedure) × (written : List (List Tree)) × (v : Move)
    × IsControlled p ps s written c next v
