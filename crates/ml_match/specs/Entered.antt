-- What a heap and the slots are when a clause was entered: its variables are new ones, and its head
-- is unified with a call's arguments, if it can be. The code works one instruction after another;
-- here the unifier is that of all arguments.
use Rattle.std.specs.Prelude.{◌≡◌, ℕ, ◌+◌, ◌<◌, List, map, length, Option, Some, None}
use Rattle.std.specs.List.{zip}
use Rattle.ml_term.specs.Tree.{Tree, variable, list_of, width}
use Rattle.ml_term.specs.Keys.{arguments}
use Rattle.ml_term.specs.Unify.{Equation, Map, apply, mgu}
use Rattle.ml_search.specs.Program.{Clause, clause_term}
use Rattle.ml_search.specs.Bodies.{body_from}
use Rattle.ml_search.specs.Actions.{shift_variables}
use Rattle.ml_heap.specs.Changes.{Changes, variable_count}
use Rattle.ml_heap.specs.Carries.{Carries}
use Rattle.ml_compile.specs.declared.instr.Instr.{Instr}
use Rattle.ml_compile.specs.Spells.{IsBlock}
use Rattle.ml_match.specs.Slots.{HasSlot, slot_tree}

-- a call's arguments are to be those of a head, whose variables are numbered from a number on
abbrev pub head_equations : ℕ → List Tree → Tree → List Equation
head_equations next ts head = zip ts (map (shift_variables next) (list_of (arguments head)))

-- The arguments are unified by a map: the heap carries its trees under it, the slots of the
-- environment stand for what it has for the clause's variables, and a block of the clause's body
-- begins at the place.
pub record IsEntered (code : List Instr) (h h' : Changes) (slots : List ℕ) (env : ℕ) (c : Clause)
    (es : List Equation) (place : ℕ) : Type 0 where
  pub unifier : Map
  pub found : mgu es ≡ Some unifier
  pub carried : Carries h h' unifier
  pub have : (n : ℕ) → n < width (clause_term c.head c.body) → HasSlot h' slots (env + n)
  pub stand : (n : ℕ) → n < width (clause_term c.head c.body)
      → slot_tree h' slots env n ≡ apply unifier (variable (variable_count h + n))
  pub body : IsBlock code place (body_from c.body)

-- what it comes to: the place where the body begins, or none where nothing unifies the arguments
abbrev pub EnteringGives : List Instr → Changes → Changes → List ℕ → ℕ → Clause → List Equation →
    Option ℕ → Type 0
EnteringGives code h h' slots env c es None = mgu es ≡ None
EnteringGives code h h' slots env c es (Some place) = IsEntered code h h' slots env c es place

-- A clause was entered with some arguments: as many variables were created as it has, and as many
-- slots came behind the others.
pub record HasEntered (code : List Instr) (h h' : Changes) (slots slots' : List ℕ) (c : Clause)
    (ts : List Tree) (found : Option ℕ) : Type 0 where
  pub counted : variable_count h' ≡ variable_count h + width (clause_term c.head c.body)
  pub many : length slots' ≡ length slots + width (clause_term c.head c.body)
  pub outcome : EnteringGives code h h' slots' (length slots) c
      (head_equations (variable_count h) ts c.head) found
