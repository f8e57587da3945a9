use Rattle.std.proofs.Common.{◌≡◌, length, drop, take}
use Rattle.ml_list_desk.specs.inside.ItemList.{items_with}
use Rattle.ml_list_desk.proofs.plain_list.outlet.items_out.Given as goal

-- those taken so far, and what is left
abbrev pub invariant-loop-at : goal.invariant-loop-at
invariant-loop-at l = record {
  taken : l.items.items ≡ items_with l.fn.pool.items (take l.at l.numbers);
  left : items_with l.pool.items (drop l.at l.numbers) ≡ items_with l.fn.pool.items (drop l.at l.numbers);
  size : length l.pool.items ≡ length l.fn.pool.items;
}
