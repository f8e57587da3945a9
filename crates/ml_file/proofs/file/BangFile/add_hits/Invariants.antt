use Rattle.std.proofs.Common.{◌≡◌, ◌++◌, take}
use Rattle.ml_file.specs.Hits.{hits_in, borrowed_items}
use Rattle.ml_region.specs.Regions.{items_at}
use Rattle.ml_term.specs.Seen.{seen}
use Rattle.ml_file.proofs.file.BangFile.add_hits.Given as goal

abbrev pub invariant-loop-item : goal.invariant-loop-item
invariant-loop-item l = borrowed_items l.found.items ≡ borrowed_items l.fn.found.items
    ++ hits_in l.self.decl.kind (seen l.head) (take l.item-index (items_at l.self.regions l.i))
