-- What is seen of a cell.
use Rattle.std.specs.Prelude.{◌≡◌, ◌<◌, ℕ, true, length, map, slice_index}
use Rattle.ml_term.specs.Tree.{Tree, variable, integer, atom, compound, trees_of, is_ground}
use Rattle.ml_heap.specs.Changes.{Changes, cell_count, stands_for, arguments_of, IsVariable}
use Rattle.ml_heap.specs.declared.cell.Cell.{Cell}
use Rattle.ml_heap.specs.declared.cell.Cell.TheVariants.{Unbound, Bound}
use Rattle.ml_heap.specs.declared.cell.Cell.TheVariants as cell
use Rattle.ml_heap.specs.declared.look.Look.{Look}
use Rattle.ml_heap.specs.declared.look.Look.TheVariants.{Var, Int, Atom, Cmp}

-- Whether a look shows a term of a heap: a variable by a cell that stands for it, an integer, an
-- atom's name, or a compound's name and arity.
abbrev pub Shows : Changes → Tree → Look → Type 0
Shows h t (Var r) = (r < cell_count h) × IsVariable t × (stands_for h r ≡ t)
Shows h t (Int z) = t ≡ integer z
Shows h t (Atom f) = t ≡ atom f.now
Shows h t (Cmp f n) = (t ≡ compound f.now (trees_of (arguments_of t)))
    × (length (arguments_of t) ≡ n)

-- Whether a cell tells a term of a heap: it isn't bound, and holds the term's number, value or
-- name, and its arguments' cells. What is marked as ground is ground.
abbrev pub Tells : Changes → Tree → Cell → Type 0
Tells h t (Unbound n) = t ≡ variable n
Tells h t (Bound n q) = ⊥
Tells h t (cell.Int z) = t ≡ integer z
Tells h t (cell.Atom f) = t ≡ atom f
Tells h t (cell.Cmp f qs g) =
    (t ≡ compound f (trees_of (map (stands_for h) qs)))
    × ((i : ℕ) → i < length qs → slice_index qs i < cell_count h)
    × (g ≡ true → is_ground t ≡ true)
