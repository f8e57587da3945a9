-- What an environment has for the variables of a clause: a cell for each, in the slots from a place
-- on.
use Rattle.std.specs.Prelude.{◌≡◌, ℕ, ◌+◌, ◌<◌, true, List, slice_get, slice_index_or, Some}
use Rattle.std.specs.List.{list_any}
use Rattle.ml_term.specs.Tree.{Tree, occurs}
use Rattle.ml_heap.specs.Changes.{Changes, cell_count, stands_for}

-- a slot has a cell of a heap
pub record HasSlot (h : Changes) (slots : List ℕ) (place : ℕ) : Type 0 where
  pub cell : ℕ
  pub slot : slice_get slots place ≡ Some cell
  pub inside : cell < cell_count h

-- each variable of some terms has a slot
abbrev pub HaveSlots : Changes → List ℕ → ℕ → List Tree → Type 0
HaveSlots h slots env ts = (n : ℕ) → list_any (occurs n) ts ≡ true → HasSlot h slots (env + n)

-- the tree of a variable, by its slot
abbrev pub slot_tree : Changes → List ℕ → ℕ → ℕ → Tree
slot_tree h slots env n = stands_for h (slice_index_or slots (env + n) 0)
