-- One cell of a list.
use Rattle.std.specs.Prelude.{◌≡◌, ◌<◌, [], ℕ, codes}
use Rattle.ml_term.specs.Tree.{Tree, compound_2}
use Rattle.ml_heap.specs.Changes.{Changes, cell_count, stands_for}
use Rattle.ml_search.specs.ListTerms.{elements, list_end}

-- whether a term is a list's cell, with its head and tail in two cells of the heap
abbrev pub IsCell : Changes → Tree → ℕ → ℕ → Type 0
IsCell h t a b = (t ≡ compound_2 (codes ".") (stands_for h a) (stands_for h b))
    × (a < cell_count h) × (b < cell_count h)

-- whether a term is no list's cell
abbrev pub IsNoCell : Tree → Type 0
IsNoCell t = (elements t ≡ []) × (list_end t ≡ t)
