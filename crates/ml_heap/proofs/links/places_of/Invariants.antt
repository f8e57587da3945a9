-- The places of the cells that were passed.
use Rattle.std.proofs.Common.{◌≡◌, take}
use Rattle.ml_heap.proofs.links.places_of.Given as goal

abbrev pub invariant-loop-cell : goal.invariant-loop-cell
invariant-loop-cell l = l.places.items ≡ take l.cell-index l.cells
