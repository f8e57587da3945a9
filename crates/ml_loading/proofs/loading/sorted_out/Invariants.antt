use Rattle.std.proofs.Common.{◌≡◌, [], length, replicate}
use Rattle.std.specs.Vec.Iter.{into_iter_items}
use Rattle.ml_search.specs.ItemsSeen.{items_seen}
use Rattle.ml_loading.specs.Lists.{all_trees}
use Rattle.ml_loading.proofs.Gathering.{AllItems, filled}
use Rattle.ml_loading.proofs.loading.sorted_out.Given as goal

-- the lists so far, with the items that are left put in, are those with all items put in
abbrev pub invariant-loop-place : goal.invariant-loop-place
invariant-loop-place l = record {
  filled : filled (all_trees l.lists.items) (items_seen (into_iter_items l.place-iterator))
      ≡ filled (replicate (length l.decls) []) (items_seen l.fn.items.items);
  items : AllItems l.decls (items_seen (into_iter_items l.place-iterator));
  size : length l.lists.items ≡ length l.decls;
}
