use Rattle.std.proofs.Common.{sym, ◌∙◌}
use Rattle.std.proofs.lemmas.List.{nil_from_length}
use Rattle.std.specs.Vec.Iter.{into_iter_items}
use Rattle.ml_list_desk.specs.Items.{lists_of_terms}
use Rattle.ml_search.specs.Db.{load_lists}
use Rattle.ml_list_desk.proofs.ListsMade.{all_lists_loaded, list_loaded}
use Rattle.ml_list_desk.proofs.list_desk.making.loaded_lists.Goals as goal

pub loop-list-preserved : goal.loop-list-preserved
loop-list-preserved c =
    list_loaded c.loop-list.items.items c.push.new.self.items c.in_ok-loaded.loaded c.in-Some.list (into_iter_items c.loop-list.list-iterator)
    (into_iter_items c.next.new.self)
    (load_lists (lists_of_terms c.args.lists.items)) c.in_ok-push.ensures.items c.in_ok-loaded.ensures c.in-Some.ensures.steps.0 c.loop-list.invariant

pub returns : goal.returns
returns c =
    let it = c.loop-list.list-iterator in
    let empty = nil_from_length it.rest.items (sym it.rest.ok.0 ∙ c.in-None.ensures.steps.0) in
    all_lists_loaded c.loop-list.items.items (into_iter_items it) (load_lists (lists_of_terms c.args.lists.items)) empty c.loop-list.invariant
