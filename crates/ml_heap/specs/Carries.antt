-- What becomes of every older cell's tree from one moment of a heap to a later one, and which
-- variables stand in no other cell's tree. The layers above speak of a heap that works by these.
use Rattle.std.specs.Prelude.{◌≡◌, ◌≢◌, ℕ, ◌<◌, ◌≤◌, false}
use Rattle.ml_term.specs.Tree.{variable, occurs}
use Rattle.ml_term.specs.Unify.{Map, apply}
use Rattle.ml_heap.specs.Changes.{Changes, cell_count, stands_for, KeepsMarks}

-- A heap carries its trees into a later one under a map: every cell of the first is one of the
-- second and stands there for its tree with the map applied, and every mark still has its heap.
pub record Carries (h h' : Changes) (m : Map) : Type 0 where
  pub cells : cell_count h ≤ cell_count h'
  pub trees : (r : ℕ) → r < cell_count h → stands_for h' r ≡ apply m (stands_for h r)
  pub marks : KeepsMarks h h'

-- A cell stands for a variable that occurs in the tree of no other cell.
pub record IsAlone (h : Changes) (n r : ℕ) : Type 0 where
  pub inside : r < cell_count h
  pub stands : stands_for h r ≡ variable n
  pub others : (q : ℕ) → q < cell_count h → q ≢ r → occurs n (stands_for h q) ≡ false
