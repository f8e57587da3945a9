use Rattle.std.proofs.Common.{◌≡◌, [], ◌∷◌, ◌++◌, true, refl, length, drop, sym, ap, ◌∙◌, subst, rules}
use Rattle.std.specs.Prelude.{Some, slice_get}
use Rattle.std.proofs.lemmas.List.{nil_from_length}
use Rattle.std.specs.Vec.Iter.{into_iter_items}
use Rattle.ml_list_desk.specs.Items.{items_seen, lists_seen}
use Rattle.ml_list_desk.specs.inside.ItemList.{ItemList}
use Rattle.ml_search.specs.Db.{is_db}
use Rattle.ml_list_desk.proofs.ListsMade.{all_decls, all_items, decl_for_next, decls_made, items_more, next_db, next_list}
use Rattle.ml_list_desk.proofs.list_desk.making.plain_lists.Goals as goal

pub at-found-requires : goal.at-found-requires
at-found-requires c =
    let ds = c.args.decls.now in
    let n = length c.loop-list.lists.items in
    let here = subst (λ ls. is_db (drop n ds) (lists_seen ls) ≡ true) c.in-Some.ensures.steps.0 c.loop-list.invariant.db in
    let len : c.len-place.result ≡ n = search rules in
    rw len (decl_for_next ds n (items_seen c.in-Some.list) (lists_seen (into_iter_items c.next.new.self)) here)

pub new-requires-clause-allowed : goal.new-requires-clause-allowed
new-requires-clause-allowed c =
    let ds = c.args.decls.now in
    let n = length c.loop-list.lists.items in
    let here = subst (λ ls. is_db (drop n ds) (lists_seen ls) ≡ true) c.in-Some.ensures.steps.0 c.loop-list.invariant.db in
    let len : c.len-place.result ≡ n = search rules in
    let at : slice_get ds n ≡ Some c.at-found.result.now = subst (λ k. slice_get ds k ≡ Some c.at-found.result.now) len c.at-found.ensures in
    let next = next_list ds n c.at-found.result.now c.in-Some.list (lists_seen (into_iter_items c.next.new.self)) at here in
    rw (c.in_ok-decl.ensures, c.into_vec-held.ensures) next.allowed

pub new-requires-clause-ordered : goal.new-requires-clause-ordered
new-requires-clause-ordered c =
    let ds = c.args.decls.now in
    let n = length c.loop-list.lists.items in
    let here = subst (λ ls. is_db (drop n ds) (lists_seen ls) ≡ true) c.in-Some.ensures.steps.0 c.loop-list.invariant.db in
    let len : c.len-place.result ≡ n = search rules in
    let at : slice_get ds n ≡ Some c.at-found.result.now = subst (λ k. slice_get ds k ≡ Some c.at-found.result.now) len c.at-found.ensures in
    let next = next_list ds n c.at-found.result.now c.in-Some.list (lists_seen (into_iter_items c.next.new.self)) at here in
    rw (c.in_ok-decl.ensures, c.into_vec-held.ensures) next.ordered

pub loop-list-preserved : goal.loop-list-preserved
loop-list-preserved c =
    let ds = c.args.decls.now in
    let lists = c.loop-list.lists.items in
    let n = length lists in
    let x = c.in-Some.list in
    let rest = into_iter_items c.next.new.self in
    let here = subst (λ ls. is_db (drop n ds) (lists_seen ls) ≡ true) c.in-Some.ensures.steps.0 c.loop-list.invariant.db in
    let len : c.len-place.result ≡ n = search rules in
    let at : slice_get ds n ≡ Some c.at-found.result.now = subst (λ k. slice_get ds k ≡ Some c.at-found.result.now) len c.at-found.ensures in
    let next = next_list ds n c.at-found.result.now x (lists_seen rest) at here in
    let plain : ItemList = c.in_ok-plain.plain in
    let made : c.push.new.self.items ≡ lists ++ plain ∷ [] = c.in_ok-push.ensures.items in
    let decl : plain.decl ≡ c.at-found.result.now = ap (λ (l : ItemList). l.decl) c.in_ok-plain.ensures ∙ c.in_ok-decl.ensures in
    let items : plain.items ≡ x = ap (λ (l : ItemList). l.items) c.in_ok-plain.ensures ∙ c.into_vec-held.ensures in
    record {
      decls = decls_made ds lists c.push.new.self.items plain n c.at-found.result.now made decl at refl c.loop-list.invariant.decls;
      items = items_more lists c.push.new.self.items plain x (into_iter_items c.loop-list.list-iterator) rest (lists_seen c.args.items.items) made items
          c.in-Some.ensures.steps.0 c.loop-list.invariant.items;
      db = next_db lists c.push.new.self.items plain ds (lists_seen rest) made next.others;
    }

pub returns-clause-decls : goal.returns-clause-decls
returns-clause-decls c =
    let it = c.loop-list.list-iterator in
    let empty = nil_from_length it.rest.items (sym it.rest.ok.0 ∙ c.in-None.ensures.steps.0) in
    let none = subst (λ ls. is_db (drop (length c.loop-list.lists.items) c.args.decls.now) (lists_seen ls) ≡ true) empty c.loop-list.invariant.db in
    all_decls c.args.decls.now c.loop-list.lists.items none c.loop-list.invariant.decls

pub returns-clause-items : goal.returns-clause-items
returns-clause-items c =
    let it = c.loop-list.list-iterator in
    let empty = nil_from_length it.rest.items (sym it.rest.ok.0 ∙ c.in-None.ensures.steps.0) in
    all_items c.loop-list.lists.items (into_iter_items it) (lists_seen c.args.items.items) empty c.loop-list.invariant.items
