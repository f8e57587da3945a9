use Rattle.std.proofs.Common.{◌++◌, length, map, sym, ap, ◌∙◌, arith}
use Rattle.std.proofs.lemmas.List.{nil_from_length}
use Rattle.std.specs.Vec.Iter.{into_iter_items}
use Rattle.ml_list_desk.specs.Items.{lists_of_terms}
use Rattle.ml_list_desk.specs.inside.Standing.{db_of}
use Rattle.ml_list_desk.proofs.Asked.{lists_left}
use Rattle.ml_list_desk.proofs.ListsMade.{all_terms_out, terms_out_more}
use Rattle.ml_search.specs.Db.{terms}
use Rattle.ml_list_desk.proofs.list_desk.ListDesk.into_lists.Goals as goal

pub loop-list-init : goal.loop-list-init
loop-list-init c =
    let self = c.args.self in
    let it = into_iter_items c.into_iter-list-iterator.result in
    let gives = c.into_iter-list-iterator.ensures.into_iter_gives.0 in
    let empty = nil_from_length self.room.items (sym self.room.ok.0 ∙ self.empty) in
    record {
      taken = ap (λ tss. lists_of_terms tss ++ map terms (db_of it)) empty ∙ ap (λ ls. map terms (db_of ls)) gives;
      room = omega (arith, self.empty, self.roomy, ap length gives, self.lists.ok.0);
    }

pub push_reserved-requires : goal.push_reserved-requires
push_reserved-requires c = omega (arith, c.loop-list.invariant.room, ap length c.in-Some.ensures.steps.0)

pub loop-list-preserved : goal.loop-list-preserved
loop-list-preserved c = record {
  taken =
      terms_out_more c.loop-list.taken.items c.push_reserved.new.self.items c.into_terms-terms.result c.in-Some.list
      (into_iter_items c.loop-list.list-iterator) (into_iter_items c.next.new.self)
      (map terms (db_of c.args.self.lists.items)) c.push_reserved.ensures.items c.into_terms-terms.ensures c.in-Some.ensures.steps.0
      c.loop-list.invariant.taken;
  room = omega (arith, c.loop-list.invariant.room, ap length c.in-Some.ensures.steps.0, c.push_reserved.ensures.len, c.push_reserved.ensures.capacity);
}

pub returns : goal.returns
returns c =
    let self = c.args.self in
    let it = c.loop-list.list-iterator in
    let empty = nil_from_length it.rest.items (sym it.rest.ok.0 ∙ c.in-None.ensures.steps.0) in
    all_terms_out c.loop-list.taken.items (into_iter_items it) (map terms (db_of self.lists.items)) empty c.loop-list.invariant.taken
    ∙ ap (map terms) (lists_left self.decls self.lists.items self.cursors.items self.changes self.log.items self.first.value.items self.kept)
