use Rattle.std.proofs.Common.{◌<◌, length, arith}
use Rattle.std.specs.Prelude.{vec_capacity}
use Rattle.ml_list_desk.proofs.Reading.{as_many, item_read}
use Rattle.ml_list_desk.proofs.StoredHeads.{arity_from_of, tuple_from, tuple_parts}
use Rattle.ml_term.specs.Seen.{seen}
use Rattle.ml_list_desk.proofs.plain_list.PlainList.order_at.Goals as goal

pub key_cmp-requires-clause-arity_a : goal.key_cmp-requires-clause-arity_a
key_cmp-requires-clause-arity_a c =
    let inside = c.self.inside in
    let within = rw (← c.self.view_is) at c.requires.within in
    let long : c.args.at < length inside.numbers.items = omega (arith, as_many inside.pool.items inside.numbers.items, within) in
    let read =
    item_read inside.decl inside.pool.items inside.numbers.items inside.room.items (vec_capacity inside.room) c.args.at c.index-number.result.now
    c.index.result.now c.self.invariant long
    c.index-number.ensures c.index.ensures in
    let relation = rw (← c.self.view_is) at c.requires.relation in
    let tuple = tuple_from inside.decl (seen c.index.result.now.term) relation read.allowed in
    arity_from_of inside.decl.pred.name inside.decl.pred.arity (seen c.index.result.now.term)
    (tuple_parts inside.decl (seen c.index.result.now.term) tuple).1
