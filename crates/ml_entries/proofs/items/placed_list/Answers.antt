use Rattle.std.proofs.Common.{◌≡◌, ◌++◌, ◌∷◌, [], map, sym, ap, ◌∙◌, rules}
use Rattle.std.proofs.lemmas.List.{nil_from_length}
use Rattle.std.specs.Vec.Iter.{into_iter_items}
use Rattle.ml_list_desk.specs.Items.{items_seen}
use Rattle.ml_search.specs.History.{item_at}
use Rattle.ml_entries.proofs.ItemsPlaced.{one_item_more, no_more}
use Rattle.ml_entries.proofs.items.placed_list.Goals as goal

pub loop-item-init : goal.loop-item-init
loop-item-init c =
    let k = c.args.place in
    ap (λ ps. items_seen ps ++ map (item_at k) (items_seen (into_iter_items c.into_iter-item-iterator.result))) c.new-placed.ensures.items
    ∙ ap (λ is. map (item_at k) (items_seen is)) (c.into_iter-item-iterator.ensures.into_iter_gives.0 ∙ c.into_vec-item-items.ensures)

pub loop-item-preserved : goal.loop-item-preserved
loop-item-preserved c =
    let k = c.args.place in
    let placed = c.loop-item.placed.items in
    let x = c.placed_item.result in
    let becomes : c.push.new.self.items ≡ placed ++ x ∷ [] = search rules in
    one_item_more k placed c.push.new.self.items x c.in-Some.item (into_iter_items c.next.new.self) _ becomes c.placed_item.ensures
    (ap (λ ls. items_seen placed ++ map (item_at k) (items_seen ls)) (sym c.in-Some.ensures.steps.0) ∙ c.loop-item.invariant)

pub returns : goal.returns
returns c =
    let it = c.loop-item.item-iterator in
    let empty = nil_from_length it.rest.items (sym it.rest.ok.0 ∙ c.in-None.ensures.steps.0) in
    ap items_seen c.from_vec.ensures ∙ no_more c.args.place c.loop-item.placed.items (into_iter_items it) _ empty c.loop-item.invariant
