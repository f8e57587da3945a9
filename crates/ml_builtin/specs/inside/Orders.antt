-- Pairs of cells that wait on a worklist, whose terms are to be compared.
use Rattle.std.specs.Prelude.{ℕ, ◌+◌, List, [], ◌∷◌}
use Rattle.std.specs.declared.cmp.Ordering.{Ordering}
use Rattle.std.specs.declared.cmp.Ordering.TheVariants.{Equal}
use Rattle.std.specs.Ordering.{ordering_then}
use Rattle.ml_term.specs.Order.{tree_cmp}
use Rattle.ml_term.specs.Tree.{nodes}
use Rattle.ml_heap.specs.Changes.{Changes, stands_for}

-- the order that some pairs of cells give, the last pair first
abbrev pub order_left : Changes → List (ℕ × ℕ) → Ordering
order_left h [] = Equal
order_left h (p ∷ ps) =
    ordering_then (order_left h ps) (tree_cmp (stands_for h p.0) (stands_for h p.1))

-- how many nodes the first cells of some pairs have together
abbrev pub nodes_left : Changes → List (ℕ × ℕ) → ℕ
nodes_left h [] = 0
nodes_left h (p ∷ ps) = nodes (stands_for h p.0) + nodes_left h ps
