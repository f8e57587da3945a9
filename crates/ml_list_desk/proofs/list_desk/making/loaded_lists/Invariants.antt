use Rattle.std.proofs.Common.{◌≡◌, ◌++◌}
use Rattle.std.specs.Vec.Iter.{into_iter_items}
use Rattle.ml_list_desk.specs.Items.{lists_of_terms, lists_seen}
use Rattle.ml_search.specs.Db.{load_lists}
use Rattle.ml_list_desk.proofs.list_desk.making.loaded_lists.Given as goal

-- the lists so far, and then those that are left as they are loaded
abbrev pub invariant-loop-list : goal.invariant-loop-list
invariant-loop-list l =
    lists_seen l.items.items ++ load_lists (lists_of_terms (into_iter_items l.list-iterator)) ≡ load_lists (lists_of_terms l.fn.lists.items)
