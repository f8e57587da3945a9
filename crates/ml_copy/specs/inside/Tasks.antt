-- A copy that is being made: what the tasks that are left make of the copies so far. No public
-- clause cites this module.
use Rattle.std.specs.Prelude.{◌≡◌, ℕ, ◌+◌, ◌-◌, ◌*◌, ◌<◌, ◌≤◌, List, [], ◌∷◌, ◌++◌, map, length}
use Rattle.std.specs.Prelude.{take, drop}
use Rattle.ml_term.specs.Tree.{Tree, compound, trees_of, nodes, variables}
use Rattle.ml_term.specs.Tree.{substitute}
use Rattle.ml_heap.specs.Changes.{Changes, cell_count, stands_for, arguments_of, AreCells}
use Rattle.ml_heap.specs.Storing.{new_number, Knows}
use Rattle.ml_heap.specs.declared.met.MetVariables.{MetVariables}
use Rattle.ml_copy.specs.declared.task.Task.{Task}
use Rattle.ml_copy.specs.declared.task.Task.TheVariants.{Term, Compound}

-- a compound with other arguments
abbrev pub with_arguments : Tree → List Tree → Tree
with_arguments (compound f ts) us = compound f (trees_of us)
with_arguments t us = t

-- whether a term is a compound
abbrev pub IsCompound : Tree → Type 0
IsCompound (compound f ts) = Unit {0}
IsCompound t = ⊥

-- how many arguments a cell's term has
abbrev pub arity_at : Changes → ℕ → ℕ
arity_at h r = length (arguments_of (stands_for h r))

-- what a task makes of some copies, the latest last
abbrev pub do_task : Changes → (ℕ → Tree) → Task → List Tree → List Tree
do_task h s (Term r) ts = ts ++ substitute s (stands_for h r) ∷ []
do_task h s (Compound r) ts = take (length ts - arity_at h r) ts
    ++ with_arguments (stands_for h r) (drop (length ts - arity_at h r) ts) ∷ []

-- what all tasks make of them, the last task first
abbrev pub do_all : Changes → (ℕ → Tree) → List Task → List Tree → List Tree
do_all h s [] ts = ts
do_all h s (x ∷ xs) ts = do_task h s x (do_all h s xs ts)

-- whether a task is one of a heap's cells, with as many copies as it takes
abbrev pub MayBeDone : Changes → Task → List Tree → Type 0
MayBeDone h (Term r) ts = r < cell_count h
MayBeDone h (Compound r) ts =
    (r < cell_count h) × IsCompound (stands_for h r) × (arity_at h r ≤ length ts)

-- the same of all tasks, the last one first
abbrev pub AllMayBeDone : Changes → (ℕ → Tree) → List Task → List Tree → Type 0
AllMayBeDone h s [] ts = Unit {0}
AllMayBeDone h s (x ∷ xs) ts = AllMayBeDone h s xs ts × MayBeDone h x (do_all h s xs ts)

-- the variables of the terms that are still to be copied, in the order of the copying
abbrev pub variables_of_tasks : Changes → List Task → List ℕ
variables_of_tasks h [] = []
variables_of_tasks h (Term r ∷ xs) = variables_of_tasks h xs ++ variables (stands_for h r)
variables_of_tasks h (Compound r ∷ xs) = variables_of_tasks h xs

-- how much work tasks are: it falls from task to task
abbrev pub weight : Changes → List Task → ℕ
weight h [] = 0
weight h (Term r ∷ xs) = 2 * nodes (stands_for h r) + weight h xs
weight h (Compound r ∷ xs) = 1 + weight h xs

-- A term is being copied, from a number of variables on: the tasks that are left can be done, and
-- make of the copies the one copy that is wanted. The variables met are those of the terms copied.
pub record IsCopying (from : Changes) (base : ℕ) (whole : Tree) (to : Changes) (met : MetVariables)
    (copies : List ℕ) (left : List Task) : Type 0 where
  pub inside : AreCells (cell_count to) copies
  pub ready : AllMayBeDone from (new_number base (variables whole)) left
      (map (stands_for to) copies)
  pub result : do_all from (new_number base (variables whole)) left (map (stands_for to) copies)
      ≡ substitute (new_number base (variables whole)) whole ∷ []
  pub known : (ns : List ℕ) × (Knows to base ns met
      × (ns ++ variables_of_tasks from left ≡ variables whole))
