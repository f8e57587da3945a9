-- Which variables stand in a body, and that an environment has a cell for each.
use Rattle.std.specs.Prelude.{◌≡◌, ℕ, ◌+◌, ◌<◌, Bool, true, false, ◌||◌, slice_get, Some}
use Rattle.std.specs.List.{list_any}
use Rattle.ml_term.specs.Tree.{occurs}
use Rattle.ml_search.specs.Bodies.{Body, true_goal, fail_goal, cut, conjunction, disjunction}
use Rattle.ml_search.specs.Bodies.{if_then, if_then_else, call, once, not_provable, findall, catch}
use Rattle.ml_search.specs.Bodies.{throw, predication}
use Rattle.ml_heap.specs.Changes.{cell_count}
use Rattle.ml_stack.specs.Memories.{Contents}

-- whether a variable occurs in a body
abbrev pub occurs_in : ℕ → Body → Bool
occurs_in n true_goal = false
occurs_in n fail_goal = false
occurs_in n cut = false
occurs_in n (conjunction a b) = occurs_in n a || occurs_in n b
occurs_in n (disjunction a b) = occurs_in n a || occurs_in n b
occurs_in n (if_then c a) = occurs_in n c || occurs_in n a
occurs_in n (if_then_else c a b) = occurs_in n c || (occurs_in n a || occurs_in n b)
occurs_in n (call t) = occurs n t
occurs_in n (once t) = occurs n t
occurs_in n (not_provable t) = occurs n t
occurs_in n (findall t u v) = occurs n t || (occurs n u || occurs n v)
occurs_in n (catch t u v) = occurs n t || (occurs n u || occurs n v)
occurs_in n (throw t) = occurs n t
occurs_in n (predication f ts) = list_any (occurs n) ts

-- a variable has a slot in an environment, and the slot a cell
pub record HasSlot (M : Contents) (place : ℕ) : Type 0 where
  pub cell : ℕ
  pub slot : slice_get M.slots place ≡ Some cell
  pub inside : cell < cell_count M.heap

-- each variable of a body has one
abbrev pub HasSlots : Contents → ℕ → Body → Type 0
HasSlots M env b = (n : ℕ) → occurs_in n b ≡ true → HasSlot M (env + n)
