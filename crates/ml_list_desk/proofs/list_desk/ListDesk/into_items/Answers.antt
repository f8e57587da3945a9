use Rattle.std.proofs.Common.{sym, ◌∙◌}
use Rattle.std.proofs.lemmas.List.{nil_from_length}
use Rattle.std.specs.Vec.Iter.{into_iter_items}
use Rattle.ml_list_desk.specs.inside.Standing.{db_of}
use Rattle.ml_list_desk.proofs.Asked.{lists_left}
use Rattle.ml_list_desk.proofs.ListsMade.{all_items_out, items_out_more}
use Rattle.ml_list_desk.proofs.list_desk.ListDesk.into_items.Goals as goal

pub loop-list-preserved : goal.loop-list-preserved
loop-list-preserved c =
    items_out_more c.loop-list.items.items c.push.new.self.items c.in_ok-held.held c.in-Some.list (into_iter_items c.loop-list.list-iterator)
    (into_iter_items c.next.new.self)
    (db_of c.args.self.lists.items) c.in_ok-push.ensures.items c.in_ok-held.ensures c.in-Some.ensures.steps.0 c.loop-list.invariant

pub returns : goal.returns
returns c =
    let self = c.args.self in
    let it = c.loop-list.list-iterator in
    let empty = nil_from_length it.rest.items (sym it.rest.ok.0 ∙ c.in-None.ensures.steps.0) in
    all_items_out c.loop-list.items.items (into_iter_items it) (db_of self.lists.items) empty c.loop-list.invariant
    ∙ lists_left self.decls self.lists.items self.cursors.items self.changes self.log.items self.first.value.items self.kept
