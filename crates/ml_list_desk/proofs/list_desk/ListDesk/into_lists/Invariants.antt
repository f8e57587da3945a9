use Rattle.std.proofs.Common.{◌≡◌, ◌+◌, ◌≤◌, ◌++◌, length, map}
use Rattle.std.specs.Prelude.{vec_capacity, vec_len}
use Rattle.std.specs.Vec.Iter.{into_iter_items}
use Rattle.ml_list_desk.specs.Items.{lists_of_terms}
use Rattle.ml_list_desk.specs.inside.Standing.{db_of}
use Rattle.ml_search.specs.Db.{terms}
use Rattle.ml_list_desk.proofs.list_desk.ListDesk.into_lists.Given as goal

-- the terms so far, and then those of the lists that are left, for which there is room
abbrev pub invariant-loop-list : goal.invariant-loop-list
invariant-loop-list l = record {
  taken : lists_of_terms l.taken.items ++ map terms (db_of (into_iter_items l.list-iterator)) ≡ map terms (db_of l.fn.self.lists.items);
  room : vec_len l.taken + length (into_iter_items l.list-iterator) ≤ vec_capacity l.taken;
}
