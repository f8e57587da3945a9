use Rattle.std.proofs.Common.{◌≡◌, ◌++◌, map}
use Rattle.std.specs.Vec.Iter.{into_iter_items}
use Rattle.ml_list_desk.specs.Items.{items_seen}
use Rattle.ml_search.specs.History.{item_at}
use Rattle.ml_entries.proofs.items.placed_list.Given as goal

-- the items so far, and then those that are left with their places, are all items with their places
abbrev pub invariant-loop-item : goal.invariant-loop-item
invariant-loop-item l =
    items_seen l.placed.items ++ map (item_at l.place) (items_seen (into_iter_items l.item-iterator)) ≡ map (item_at l.place) (items_seen l.fn.list)
