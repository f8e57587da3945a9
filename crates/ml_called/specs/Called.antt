-- What the code of a called body is. The code runs in an environment of slots, where the terms in
-- the body are variables; the term in the cell is taken in as the same body, with its own terms.
use Rattle.std.specs.Prelude.{◌≡◌, ℕ, ◌+◌, List, [], ◌∷◌, ◌++◌, ◌<◌, length, slice_index_or}
use Rattle.std.specs.Prelude.{slice_get, Some}
use Rattle.ml_term.specs.Tree.{Tree, variable, substitute}
use Rattle.ml_search.specs.Bodies.{Body, body_from, in_body}
use Rattle.ml_heap.specs.Changes.{Changes, AreCells, cell_count, stands_for}
use Rattle.ml_compile.specs.Spells.{IsBlock}
use Rattle.ml_compile.specs.declared.instr.Instr.{Instr}
use Rattle.ml_called.specs.Goals.{terms_in}

-- as many variables as a list is long, numbered from a number on
abbrev pub numbered : {A : Type 0} → ℕ → List A → List Tree
numbered n [] = []
numbered n (x ∷ xs) = variable n ∷ numbered (n + 1) xs

-- the tree of a variable, by the slot that an environment has for it
abbrev pub value_at : Changes → List ℕ → ℕ → ℕ → Tree
value_at h slots env n = stands_for h (slice_index_or slots (env + n) 0)

-- Code is one block, of a body whose terms are the variables from 0 on, from the left. Behind the
-- old slots stands a cell for each, and by these cells the body is that of a cell's term.
pub record IsCalled (h : Changes) (r : ℕ) (old new : List ℕ) (code : List Instr) : Type 0 where
  pub body : Body
  pub cells : List ℕ
  pub block : IsBlock code 0 body
  pub terms : terms_in body ≡ numbered 0 cells
  pub slots : new ≡ old ++ cells
  pub inside : AreCells (cell_count h) cells
  pub same : body_from (stands_for h r) ≡ in_body (substitute (value_at h new (length old))) body

-- there is a slot at a place, and its cell is one of the heap
pub record HasSlot (h : Changes) (slots : List ℕ) (place : ℕ) : Type 0 where
  pub cell : ℕ
  pub slot : slice_get slots place ≡ Some cell
  pub inside : cell < cell_count h
