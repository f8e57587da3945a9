use Rattle.std.proofs.Common.{◌+◌, ◌-◌, ◌/◌, ◌<◌, ◌≤◌, length, sym, arith}
use Rattle.ml_list_desk.proofs.KeyOrder.{above_on, below_on, place_from, stands_from}
use Rattle.ml_list_desk.proofs.StoredHeads.{tuple_parts}
use Rattle.ml_term.specs.Seen.{seen}
use Rattle.ml_list_desk.proofs.plain_list.PlainList.find.Goals as goal

pub halves-preserved-in-Less : goal.halves-preserved-in-Less
halves-preserved-in-Less c =
    let list = c.args.self.now in
    let m = c.halves.low + (c.halves.high - c.halves.low) / 2 in
    let within : m < length list.items = omega arith in
    record {
      low = omega arith;
      high = c.halves.invariant.high;
      below = below_on list.decl.keys (seen c.args.t.now) list.items m c.in-Less.ensures.rising within (sym c.in-Less.ensures.order);
      above = c.halves.invariant.above;
    }

pub returns-in-Equal-clause-found : goal.returns-in-Equal-clause-found
returns-in-Equal-clause-found c =
    let list = c.args.self.now in
    let m = c.halves.low + (c.halves.high - c.halves.low) / 2 in
    let within : m < length list.items = omega arith in
    let t = seen c.args.t.now in
    stands_from list.decl.keys t list.items m within c.in-Equal.ensures.valid (tuple_parts list.decl t c.requires.tuple).0 (sym c.in-Equal.ensures.order)

pub halves-preserved : goal.halves-preserved
halves-preserved c =
    let list = c.args.self.now in
    let m = c.halves.low + (c.halves.high - c.halves.low) / 2 in
    let within : m < length list.items = omega arith in
    record {
      low = omega arith;
      high = omega arith;
      below = c.halves.invariant.below;
      above = above_on list.decl.keys (seen c.args.t.now) list.items m c.in-Greater.ensures.rising within (sym c.in-Greater.ensures.order);
    }

pub returns-clause-absent : goal.returns-clause-absent
returns-clause-absent c =
    let list = c.args.self.now in
    let n = c.halves.low in
    let within : n ≤ length list.items = omega arith in
    place_from list.decl.keys (seen c.args.t.now) list.items n within c.halves.invariant.below (λ k l m. c.halves.invariant.above k (omega arith) m)
