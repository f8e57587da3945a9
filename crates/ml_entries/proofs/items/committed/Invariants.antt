use Rattle.std.proofs.Common.{◌≡◌, ◌++◌}
use Rattle.std.specs.Vec.Iter.{into_iter_items}
use Rattle.ml_list_desk.specs.Items.{lists_seen}
use Rattle.ml_search.specs.History.{commit_at}
use Rattle.ml_entries.proofs.items.committed.Given as goal

-- the lists so far, and then those that are left as they are committed, are all lists as they are committed
abbrev pub invariant-loop-list : goal.invariant-loop-list
invariant-loop-list l =
    lists_seen l.placed.items ++ commit_at l.place (lists_seen (into_iter_items l.list-iterator)) ≡ commit_at l.place (lists_seen l.fn.lists.items)
