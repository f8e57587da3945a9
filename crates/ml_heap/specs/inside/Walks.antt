-- Cells that wait on a worklist, whose terms are to be walked.
use Rattle.std.specs.Prelude.{ℕ, ◌+◌, Bool, false, ◌||◌, List, [], ◌∷◌}
use Rattle.ml_term.specs.Tree.{occurs, nodes}
use Rattle.ml_heap.specs.Changes.{Changes, stands_for}

-- whether a variable occurs in the term of one of some cells
abbrev pub occurs_at : Changes → ℕ → List ℕ → Bool
occurs_at h n [] = false
occurs_at h n (q ∷ qs) = occurs n (stands_for h q) || occurs_at h n qs

-- how many nodes the terms of some cells have together
abbrev pub nodes_at : Changes → List ℕ → ℕ
nodes_at h [] = 0
nodes_at h (q ∷ qs) = nodes (stands_for h q) + nodes_at h qs
