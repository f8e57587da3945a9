use Rattle.std.proofs.Common.{refl}
use Rattle.std.specs.Prelude.{nat_lt}
use Rattle.ml_list_desk.specs.Items.{items_seen}
use Rattle.ml_list_desk.proofs.Changed.{full_change, no_more, some_more, tuple_removed, vain_change}
use Rattle.ml_list_desk.proofs.KeyOrder.{absent_there}
use Rattle.ml_search.specs.Limits.{max_changes}
use Rattle.ml_term.specs.Seen.{seen}
use Rattle.ml_list_desk.proofs.changes.delete_tuple.Goals as goal

pub returns-then-is_full : goal.returns-then-is_full
returns-then-is_full c = full_change _ _ _ _ _ _ _ _ (no_more c.is_full.result (nat_lt c.args.changes max_changes) c.is_full.ensures c.if-is_full.true) refl
    refl

pub returns-in-Ok : goal.returns-in-Ok
returns-in-Ok c =
    tuple_removed (nat_lt c.args.changes max_changes) c.args.changes c.in-Ok.at (seen c.args.t.now) c.args.list.now c.remove.new.self
    (some_more c.is_full.result (nat_lt c.args.changes max_changes) c.is_full.ensures c.if-is_full.false) c.in-Ok.ensures.rising c.in-Ok.ensures.found
    c.remove.ensures

pub returns-in-Err : goal.returns-in-Err
returns-in-Err c =
    vain_change _ _ _ _ _ _ _ _ (some_more c.is_full.result (nat_lt c.args.changes max_changes) c.is_full.ensures c.if-is_full.false)
    (absent_there c.args.list.now.decl.keys (seen c.args.t.now) (items_seen c.args.list.now.items) _ c.in-Err.ensures.absent) refl refl
