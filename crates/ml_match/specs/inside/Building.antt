-- The arguments of a goal while they are built. No public clause cites this module.
use Rattle.std.specs.Prelude.{ℕ, List, map}
use Rattle.ml_term.specs.Tree.{Tree, substitute}
use Rattle.ml_heap.specs.Changes.{Changes, Grows}
use Rattle.ml_compile.specs.declared.instr.Instr.{Instr}
use Rattle.ml_compile.specs.Spells.{Builds}
use Rattle.ml_match.specs.Slots.{HaveSlots, slot_tree}
use Rattle.ml_match.specs.Built.{IsCallAt, HasBuilt}

-- The cells behind others stand for the terms so far, which the instructions that are left turn
-- into all of them; each variable stands for what its slot had at the beginning.
pub record IsBuilding (old : Changes) (slots : List ℕ) (env : ℕ) (code : List Instr)
    (before : List ℕ) (q : ℕ) (ts : List Tree) (at : ℕ) (h : Changes) (cells : List ℕ) :
    Type 0 where
  pub terms : List Tree
  pub left : Builds code at q terms ts
  pub call : IsCallAt code q
  pub slots_are : HaveSlots old slots env ts
  pub grown : Grows old h
  pub built : HasBuilt h before cells (map (substitute (slot_tree old slots env)) terms)
