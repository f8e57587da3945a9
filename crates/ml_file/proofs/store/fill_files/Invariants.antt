use Rattle.std.specs.Vec.Iter.{into_iter_items}
use Rattle.ml_file.proofs.StoreFilling.{IsUnderway}
use Rattle.ml_file.proofs.store.fill_files.Given as goal

-- some items are in the files, and the others are left
abbrev pub invariant-loop-place : goal.invariant-loop-place
invariant-loop-place l = IsUnderway l.decls l.fn.items.items (into_iter_items l.place-iterator) l.files.items
