-- Cells that wait on a worklist, whose terms are to be without variables.
use Rattle.std.specs.Prelude.{ℕ, Bool, true, ◌&&◌, List, [], ◌∷◌}
use Rattle.ml_term.specs.Tree.{is_ground}
use Rattle.ml_heap.specs.Changes.{Changes, stands_for}

-- whether the terms of some cells have no variable
abbrev pub are_ground_at : Changes → List ℕ → Bool
are_ground_at h [] = true
are_ground_at h (q ∷ qs) = is_ground (stands_for h q) && are_ground_at h qs
