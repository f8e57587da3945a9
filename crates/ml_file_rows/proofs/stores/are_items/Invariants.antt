-- The items so far may stand in the lists of their declarations.
use Rattle.std.proofs.Common.{◌≡◌, true, take}
use Rattle.ml_search.specs.ItemsSeen.{items_seen}
use Rattle.ml_search.specs.Loading.{are_items}
use Rattle.ml_file_rows.proofs.stores.are_items.Given as goal

-- the items so far are items
abbrev pub invariant-loop-place : goal.invariant-loop-place
invariant-loop-place l = are_items l.decls (items_seen (take l.place-index l.items)) ≡ true
