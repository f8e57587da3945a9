use Rattle.std.proofs.Common.{arith, ◌<◌, ◌≤◌, length}
use Rattle.ml_key.proofs.PrefixPlaces.{rows_ended, row_differs, row_begins}
use Rattle.ml_key.proofs.pattern.rows_begin.Goals as goal

pub returns-then-at-len : goal.returns-then-at-len
returns-then-at-len c =
    let past : length c.args.prefix.now.bits ≤ c.loop-row.at = omega (arith, c.len.ensures.length) in
    rows_ended c.args.width c.args.place c.loop-row.at c.args.rows c.loop-row.row c.args.code c.args.prefix.now.bits past c.loop-row.invariant

pub returns-then-bit-asked : goal.returns-then-bit-asked
returns-then-bit-asked c =
    let within : c.loop-row.at < length c.args.prefix.now.bits = omega (arith, c.len.ensures.length) in
    row_differs c.args.width c.args.place c.loop-row.at c.args.rows c.loop-row.row c.args.code c.bit.result c.args.prefix.now.bits
    c.loop-row-test.true within c.loop-row.invariant c.bit.ensures c.if-bit-asked.true

pub loop-row-preserved : goal.loop-row-preserved
loop-row-preserved c =
    let within : c.loop-row.at < length c.args.prefix.now.bits = omega (arith, c.len.ensures.length) in
    row_begins c.args.width c.args.place c.loop-row.at c.args.rows c.loop-row.row c.args.code c.bit.result c.args.prefix.now.bits
    c.loop-row-test.true within c.requires.width c.loop-row.invariant c.bit.ensures c.if-bit-asked.false
