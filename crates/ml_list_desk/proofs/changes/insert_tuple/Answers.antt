use Rattle.std.proofs.Common.{◌≡◌, true, not, sym, ap, subst}
use Rattle.std.specs.Prelude.{nat_lt}
use Rattle.std.specs.List.{insert}
use Rattle.ml_list_desk.specs.Items.{item_seen, items_seen}
use Rattle.ml_list_desk.specs.inside.Outcomes.{own_id}
use Rattle.ml_list_desk.specs.declared.list_item.ListItem.{ListItem}
use Rattle.ml_list_desk.proofs.Changed.{full_change, no_more, some_more, tuple_added, tuple_allowed, vain_change}
use Rattle.ml_list_desk.proofs.KeyOrder.{present_there, rises_inserted}
use Rattle.ml_search.specs.Db.{is_allowed, rises}
use Rattle.ml_search.specs.Limits.{max_changes}
use Rattle.ml_term.specs.Seen.{seen}
use Rattle.std.proofs.Common.{refl}
use Rattle.ml_list_desk.proofs.changes.insert_tuple.Goals as goal

pub returns-then-is_full-clause-ok : goal.returns-then-is_full-clause-ok
returns-then-is_full-clause-ok c = full_change _ _ _ _ _ _ _ _ (no_more c.is_full.result (nat_lt c.args.changes max_changes) c.is_full.ensures
    c.if-is_full.true) refl refl

pub returns-in-Ok-clause-ok : goal.returns-in-Ok-clause-ok
returns-in-Ok-clause-ok c =
    vain_change _ _ _ _ _ _ _ _ (some_more c.is_full.result (nat_lt c.args.changes max_changes) c.is_full.ensures c.if-is_full.false)
    (ap not (present_there c.args.list.now.decl.keys (seen c.args.t.now) (items_seen c.args.list.now.items) _ c.in-Ok.ensures.found)) refl refl

pub insert-requires-clause-allowed : goal.insert-requires-clause-allowed
insert-requires-clause-allowed c =
    subst (λ (i : ListItem). is_allowed c.args.list.now.decl (seen i.term) ≡ true) (sym c.in_ok-item-in-Err.ensures)
    (tuple_allowed c.args.list.now.decl (seen c.args.t.now) c.requires.relation c.requires.tuple)

pub insert-requires-clause-ordered : goal.insert-requires-clause-ordered
insert-requires-clause-ordered c =
    λ k.
    subst (λ (i : ListItem). rises c.args.list.now.decl.keys (insert (items_seen c.args.list.now.items) c.in-Err.at (item_seen i)) ≡ true)
    (sym c.in_ok-item-in-Err.ensures)
    (rises_inserted c.args.list.now.decl.keys (items_seen c.args.list.now.items) c.in-Err.at
    (record { id = own_id c.args.changes; term = seen c.args.t.now }) c.in-Err.ensures.rising
    c.in-Err.ensures.absent)

pub returns-in_ok-insert-in-Err-clause-ok : goal.returns-in_ok-insert-in-Err-clause-ok
returns-in_ok-insert-in-Err-clause-ok c =
    tuple_added (nat_lt c.args.changes max_changes) c.args.changes c.in-Err.at (seen c.args.t.now) c.args.list.now c.insert.new.self
    c.in_ok-item-in-Err.item
    (some_more c.is_full.result (nat_lt c.args.changes max_changes) c.is_full.ensures c.if-is_full.false) c.in-Err.ensures.absent
    (ap item_seen c.in_ok-item-in-Err.ensures)
    c.in_ok-insert-in-Err.ensures.ok
