use Rattle.std.proofs.Common.{◌≡◌, ◌++◌}
use Rattle.std.specs.Vec.Iter.{into_iter_items}
use Rattle.ml_list_desk.specs.Items.{lists_seen}
use Rattle.ml_list_desk.specs.inside.Standing.{db_of}
use Rattle.ml_list_desk.proofs.list_desk.ListDesk.into_items.Given as goal

-- the items so far, and then those of the lists that are left
abbrev pub invariant-loop-list : goal.invariant-loop-list
invariant-loop-list l = lists_seen l.items.items ++ db_of (into_iter_items l.list-iterator) ≡ db_of l.fn.self.lists.items
