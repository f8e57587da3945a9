use Rattle.ml_search.specs.ItemsSeen.{items_seen}
use Rattle.ml_file.proofs.StoreFilling.{AreSettledTo}
use Rattle.ml_file.proofs.store.Store.from_items.Given as goal

-- the first files are settled
abbrev pub invariant-loop-file : goal.invariant-loop-file
invariant-loop-file l = AreSettledTo l.decls (items_seen l.fn.items.items) l.file-index l.file-items
