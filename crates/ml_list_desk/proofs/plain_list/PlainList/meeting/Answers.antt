use Rattle.std.proofs.Common.{◌<◌, length, arith}
use Rattle.std.specs.Prelude.{vec_capacity}
use Rattle.ml_list_desk.proofs.Reading.{item_read}
use Rattle.ml_list_desk.proofs.plain_list.PlainList.meeting.Goals as goal

pub is_met-requires-clause-item : goal.is_met-requires-clause-item
is_met-requires-clause-item c =
    let inside = c.self.inside in
    let long : c.loop-at.at < length inside.numbers.items = omega (arith, c.loop-at-test.true, c.len-at-end.ensures, inside.numbers.ok.0) in
    (item_read inside.decl inside.pool.items inside.numbers.items inside.room.items (vec_capacity inside.room) c.loop-at.at c.index-number.result.now
    c.index.result.now c.self.invariant long
    c.index-number.ensures c.index.ensures).allowed
