use Rattle.std.proofs.Common.{◌≡◌, ◌++◌, ◌∷◌, [], sym, ap, ◌∙◌, rules}
use Rattle.std.proofs.lemmas.List.{nil_from_length}
use Rattle.std.specs.Vec.Iter.{into_iter_items}
use Rattle.ml_list_desk.specs.Items.{lists_seen}
use Rattle.ml_search.specs.History.{commit_at}
use Rattle.ml_entries.proofs.ItemsPlaced.{one_list_more, no_list_more}
use Rattle.ml_entries.proofs.items.committed.Goals as goal

pub loop-list-preserved : goal.loop-list-preserved
loop-list-preserved c =
    let k = c.args.place in
    let placed = c.loop-list.placed.items in
    let x = c.in_ok-placed_list.field-0 in
    let becomes : c.push.new.self.items ≡ placed ++ x ∷ [] = search rules in
    one_list_more k placed c.push.new.self.items x c.in-Some.list (into_iter_items c.next.new.self) _ becomes c.in_ok-placed_list.ensures
    (ap (λ ls. lists_seen placed ++ commit_at k (lists_seen ls)) (sym c.in-Some.ensures.steps.0) ∙ c.loop-list.invariant)

pub returns : goal.returns
returns c =
    let it = c.loop-list.list-iterator in
    let empty = nil_from_length it.rest.items (sym it.rest.ok.0 ∙ c.in-None.ensures.steps.0) in
    no_list_more c.args.place c.loop-list.placed.items (into_iter_items it) _ empty c.loop-list.invariant
