-- The answers that searches inside a `findall/3` have found so far. The code keeps a copy of each
-- on a heap of its own, behind those of the searches that wait; here a copy stands for a renamed
-- answer.
use Rattle.std.specs.Prelude.{◌≡◌, ℕ, ◌≤◌, ◌<◌, List, [], ◌∷◌, length}
use Rattle.ml_term.specs.Tree.{Tree, rename}
use Rattle.ml_asking.specs.Asking.{FindallFrame}
use Rattle.ml_heap.specs.Changes.{Changes, heap_of_mark, cell_count, stands_for}
use Rattle.ml_stack.specs.declared.level.Level.{Level}

-- a cell is a copy of a tree
pub record IsCopy (h : Changes) (r : ℕ) (t : Tree) : Type 0 where
  pub from : ℕ
  pub inside : r < cell_count h
  pub is : stands_for h r ≡ rename from t

-- cells are copies of answers of one term each
pub data AreCopies (h : Changes) : List ℕ → List (List Tree) → Type 0 where
  no_copy : AreCopies h [] []
  one_copy : {r : ℕ} {rs : List ℕ} {t : Tree} {found : List (List Tree)} → IsCopy h r t →
      AreCopies h rs found → AreCopies h (r ∷ rs) ((t ∷ []) ∷ found)

-- What the present search has found, and what each search that waits has. The outermost search
-- keeps no answers: they have been written.
pub data Keeps : Changes → List Level → List FindallFrame → List (List Tree) → List (List Tree) →
    Type 0 where
  outermost : {h : Changes} {found written : List (List Tree)} → found ≡ written →
      Keeps h [] [] found written
  inside : {h : Changes} {l : Level} {ls : List Level} {o : FindallFrame} {os : List FindallFrame}
      {found written : List (List Tree)} → l.kept ≤ length h → AreCopies h l.found.items found
      → Keeps (heap_of_mark h l.kept) ls os o.found written →
      Keeps h (l ∷ ls) (o ∷ os) found written
