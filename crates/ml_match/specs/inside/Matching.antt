-- The head of a clause while it is matched. No public clause cites this module.
use Rattle.std.specs.Prelude.{◌≡◌, ℕ, ◌+◌, ◌<◌, List, map, reverse, slice_get, Some}
use Rattle.ml_term.specs.Tree.{Tree, substitute}
use Rattle.ml_heap.specs.Changes.{Changes, Grows}
use Rattle.ml_term.specs.Unify.{Equation, Map, mgu, solve_equations}
use Rattle.ml_heap.specs.Carries.{Carries, IsAlone}
use Rattle.ml_compile.specs.declared.instr.Instr.{Instr}
use Rattle.ml_compile.specs.Spells.{Matches}
use Rattle.ml_match.specs.Slots.{HasSlot, slot_tree}
use Rattle.ml_match.specs.Built.{HasBuilt}

-- a slot has the cell of a variable that stands alone
pub record HasNewSlot (h : Changes) (slots : List ℕ) (place number : ℕ) : Type 0 where
  pub cell : ℕ
  pub slot : slice_get slots place ≡ Some cell
  pub alone : IsAlone h number cell

-- each variable below a number has a slot
abbrev pub HaveSlotsBelow : Changes → List ℕ → ℕ → ℕ → Type 0
HaveSlotsBelow h slots env n = (k : ℕ) → k < n → HasSlot h slots (env + k)

-- The terms from a place on are built, the first one last, whatever terms these are.
pub record IsWriting (old : Changes) (slots : List ℕ) (env : ℕ) (code : List Instr)
    (before : List ℕ) (to after at : ℕ) (h : Changes) (cells : List ℕ) : Type 0 where
  pub slots_are : HaveSlotsBelow old slots env after
  pub grown : Grows old h
  pub built : (met : ℕ) (ts : List Tree) → Matches code at to met ts after →
      HasBuilt h before cells (map (substitute (slot_tree old slots env)) (reverse ts))

-- An instruction of a head may be built in front of those that are.
pub record MayWrite (slots : List ℕ) (env : ℕ) (code : List Instr) (at : ℕ) (h : Changes)
    (cells : List ℕ) : Type 0 where
  pub old : Changes
  pub before : List ℕ
  pub to : ℕ
  pub met : ℕ
  pub after : ℕ
  pub terms : List Tree
  pub writing : IsWriting old slots env code before to after (at + 1) h cells
  pub matches : Matches code at to met terms after
  pub early : at < to

-- A call's equations are solved so far, where the heap has come from an older one: what is left is
-- told by what cells stand for now.
pub record IsSolving (es : List Equation) (old h : Changes) (left : List Equation) : Type 0 where
  pub map_so_far : Map
  pub carried : Carries old h map_so_far
  pub solved : mgu es ≡ solve_equations left map_so_far
