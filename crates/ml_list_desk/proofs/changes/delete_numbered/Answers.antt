use Rattle.std.proofs.Common.{refl, subst}
use Rattle.std.specs.Option.{is_some}
use Rattle.std.specs.Prelude.{nat_lt}
use Rattle.ml_list_desk.specs.Items.{id_seen, items_seen}
use Rattle.ml_list_desk.specs.inside.Outcomes.{IsChange}
use Rattle.ml_list_desk.specs.declared.list_item.ListItem.{ListItem}
use Rattle.ml_list_desk.specs.declared.outcome.Outcome.TheVariants.{Absent, Removed}
use Rattle.ml_list_desk.proofs.Changed.{clause_absent, clause_removed, full_change, no_more, some_more}
use Rattle.ml_search.specs.Changes.{without_id}
use Rattle.ml_search.specs.Db.{with_id}
use Rattle.ml_search.specs.Limits.{max_changes}
use Rattle.ml_list_desk.proofs.changes.delete_numbered.Goals as goal

pub returns-then-is_full : goal.returns-then-is_full
returns-then-is_full c = full_change _ _ _ _ _ _ _ _ (no_more c.is_full.result (nat_lt c.args.changes max_changes) c.is_full.ensures c.if-is_full.true) refl
    refl

pub returns-then-remove_id : goal.returns-then-remove_id
returns-then-remove_id c =
    let old = c.args.list.now in
    let new = c.remove_id.new.self in
    let few = nat_lt c.args.changes max_changes in
    subst
    (λ (i : ListItem). IsChange few (is_some (with_id (id_seen i.place i.change) (items_seen old.items))) Removed Absent
    (without_id (id_seen i.place i.change)) old new Removed)
    c.item-item.ensures.same
    (clause_removed few c.remove_id.result (id_seen c.item-item.result.now.place c.item-item.result.now.change) old new
    (some_more c.is_full.result few c.is_full.ensures c.if-is_full.false)
    c.remove_id.ensures.found c.if-remove_id.true c.remove_id.ensures.items c.remove_id.ensures.decl c.remove_id.ensures.pool)

pub returns-else-remove_id : goal.returns-else-remove_id
returns-else-remove_id c =
    let old = c.args.list.now in
    let new = c.remove_id.new.self in
    let few = nat_lt c.args.changes max_changes in
    subst
    (λ (i : ListItem). IsChange few (is_some (with_id (id_seen i.place i.change) (items_seen old.items))) Removed Absent
    (without_id (id_seen i.place i.change)) old new Absent)
    c.item-item.ensures.same
    (clause_absent few c.remove_id.result (id_seen c.item-item.result.now.place c.item-item.result.now.change) old new
    (some_more c.is_full.result few c.is_full.ensures c.if-is_full.false)
    c.remove_id.ensures.found c.if-remove_id.false c.remove_id.ensures.items c.remove_id.ensures.decl c.remove_id.ensures.pool)
