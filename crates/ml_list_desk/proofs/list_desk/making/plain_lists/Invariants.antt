use Rattle.std.proofs.Common.{◌≡◌, ◌++◌, true, length, drop}
use Rattle.std.specs.Vec.Iter.{into_iter_items}
use Rattle.ml_list_desk.specs.Items.{lists_seen}
use Rattle.ml_list_desk.specs.inside.Standing.{db_of, decls_of}
use Rattle.ml_search.specs.Db.{is_db}
use Rattle.ml_list_desk.proofs.list_desk.making.plain_lists.Given as goal

-- the lists so far have the first declarations and items, and what is left are lists of the others
abbrev pub invariant-loop-list : goal.invariant-loop-list
invariant-loop-list l = record {
  decls : decls_of l.lists.items ++ drop (length l.lists.items) l.decls ≡ l.decls;
  items : db_of l.lists.items ++ lists_seen (into_iter_items l.list-iterator) ≡ lists_seen l.fn.items.items;
  db : is_db (drop (length l.lists.items) l.decls) (lists_seen (into_iter_items l.list-iterator)) ≡ true;
}
