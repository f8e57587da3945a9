use Rattle.std.proofs.Common.{◌≡◌, ◌++◌, length, drop, map}
use Rattle.std.specs.Vec.Iter.{into_iter_items}
use Rattle.ml_term.specs.Seen.{all_seen}
use Rattle.ml_loading.specs.Items.{AreSized, in_order}
use Rattle.ml_loading.specs.Lists.{all_trees}
use Rattle.ml_loading.proofs.loading.put_in_order.Given as goal

-- the lists in order so far, and then those that are left in order, are all in order
abbrev pub invariant-loop-terms : goal.invariant-loop-terms
invariant-loop-terms l = record {
  ordered : map all_seen l.ordered.items ++ in_order (drop (length l.ordered.items) l.decls) (all_trees (into_iter_items l.terms-iterator))
      ≡ in_order l.decls (all_trees l.fn.lists.items);
  sized : AreSized (drop (length l.ordered.items) l.decls) (all_trees (into_iter_items l.terms-iterator));
}
