use Rattle.std.proofs.Common.{◌≡◌, take}
use Rattle.ml_entries.proofs.items.copy_of.Given as goal

-- the first lists were copied
abbrev pub invariant-loop-list : goal.invariant-loop-list
invariant-loop-list l = l.copies.items ≡ take l.list-index l.lists
