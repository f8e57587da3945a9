use Rattle.std.proofs.Common.{◌≡◌, true, refl, sym, ap, subst}
use Rattle.std.specs.Prelude.{nat_lt}
use Rattle.ml_list_desk.specs.Items.{item_seen}
use Rattle.ml_list_desk.specs.declared.list_item.ListItem.{ListItem}
use Rattle.ml_list_desk.proofs.Changed.{clause_added, clause_allowed, full_change, no_more, no_relation, some_more}
use Rattle.ml_search.specs.Db.{is_allowed}
use Rattle.ml_search.specs.Limits.{max_changes}
use Rattle.ml_term.specs.Seen.{seen}
use Rattle.ml_list_desk.proofs.changes.assert_at.Goals as goal

pub returns-then-is_full-clause-ok : goal.returns-then-is_full-clause-ok
returns-then-is_full-clause-ok c = full_change _ _ _ _ _ _ _ _ (no_more c.is_full.result (nat_lt c.args.changes max_changes) c.is_full.ensures
    c.if-is_full.true) refl refl

pub insert-requires-clause-allowed : goal.insert-requires-clause-allowed
insert-requires-clause-allowed c =
    subst (λ (i : ListItem). is_allowed c.args.list.now.decl (seen i.term) ≡ true) (sym c.in_ok-item.ensures)
    (clause_allowed c.args.list.now.decl (seen c.args.t.now) c.requires.clauses c.requires.clause)

pub insert-requires-clause-ordered : goal.insert-requires-clause-ordered
insert-requires-clause-ordered c = λ k. absurd (no_relation c.args.list.now.decl c.requires.clauses k)

pub returns-clause-ok : goal.returns-clause-ok
returns-clause-ok c =
    clause_added (nat_lt c.args.changes max_changes) c.args.changes c.args.at (seen c.args.t.now) c.args.list.now c.insert.new.self c.in_ok-item.item
    (some_more c.is_full.result (nat_lt c.args.changes max_changes) c.is_full.ensures c.if-is_full.false) (ap item_seen c.in_ok-item.ensures)
    c.in_ok-insert.ensures.ok
