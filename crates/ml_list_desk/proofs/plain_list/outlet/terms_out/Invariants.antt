use Rattle.std.proofs.Common.{◌≡◌, length, drop, map, take}
use Rattle.std.specs.Prelude.{vec_capacity, vec_len}
use Rattle.ml_list_desk.specs.declared.list_item.ListItem.{ListItem}
use Rattle.ml_list_desk.specs.inside.ItemList.{items_with}
use Rattle.ml_list_desk.proofs.plain_list.outlet.terms_out.Given as goal

-- those taken so far, and what is left
abbrev pub invariant-loop-at : goal.invariant-loop-at
invariant-loop-at l = record {
  taken : l.terms.items ≡ map (λ (i : ListItem). i.term) (items_with l.fn.pool.items (take l.at l.numbers));
  left : items_with l.pool.items (drop l.at l.numbers) ≡ items_with l.fn.pool.items (drop l.at l.numbers);
  size : length l.pool.items ≡ length l.fn.pool.items;
  count : vec_len l.terms ≡ l.at;
  capacity : vec_capacity l.terms ≡ vec_capacity l.fn.room;
}
