use Rattle.std.proofs.Common.{◌≡◌, take}
use Rattle.ml_list_desk.proofs.list_item.ListItems.copy_of.Given as goal

abbrev pub invariant-loop-item : goal.invariant-loop-item
invariant-loop-item l = l.items.items ≡ take l.item-index l.self
