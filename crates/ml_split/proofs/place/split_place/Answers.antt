use Rattle.std.proofs.Common.{length, arith, ap, sym, subst}
use Rattle.ml_split.proofs.KeyCounts.{key_bits}
use Rattle.ml_split.proofs.PartingKeys.{IsOnTheWay, Step, stepped, way_begins}
use Rattle.ml_split.proofs.place.split_place.Goals as goal

pub on-init : goal.on-init
on-init g c =
    subst (IsOnTheWay (g.K.Keys.keys c.args.keys.now) c.args.prefix.now.bits 0) (sym c.len-bits.ensures.length)
    (way_begins (g.K.Keys.keys c.args.keys.now) c.args.prefix.now.bits c.requires.some c.requires.begin)

pub overflow_add-bits : goal.overflow_add-bits
overflow_add-bits g c =
    let step : Step (g.K.Keys.keys c.args.keys.now) c.args.prefix.now.bits c.on.guide c.fork_of-fork.result c.fuller_half_of-half.result.key
    c.fuller_half_of-half.result.count =
    stepped (g.K.Keys.keys c.args.keys.now) c.args.prefix.now.bits c.on.guide c.on.bits c.fork_of-fork.result c.fuller_half_of-half.result.key
    c.fuller_half_of-half.result.count
    c.key.result.now.bits c.key-in-on.result.now.bits c.key.ensures c.key-in-on.ensures c.requires.some c.requires.apart c.requires.begin c.on.invariant
    c.fork_of-fork.ensures.from c.fork_of-fork.ensures.within c.fork_of-fork.ensures.count c.fuller_half_of-half.ensures.count
    c.fuller_half_of-half.ensures.place c.fuller_half_of-half.ensures.begins in
    omega (arith, step.shorter, ap length c.key.ensures, c.fork_of-fork.ensures.fits)

pub overflow_mul-half : goal.overflow_mul-half
overflow_mul-half g c =
    let step : Step (g.K.Keys.keys c.args.keys.now) c.args.prefix.now.bits c.on.guide c.fork_of-fork.result c.fuller_half_of-half.result.key
    c.fuller_half_of-half.result.count =
    stepped (g.K.Keys.keys c.args.keys.now) c.args.prefix.now.bits c.on.guide c.on.bits c.fork_of-fork.result c.fuller_half_of-half.result.key
    c.fuller_half_of-half.result.count
    c.key.result.now.bits c.key-in-on.result.now.bits c.key.ensures c.key-in-on.ensures c.requires.some c.requires.apart c.requires.begin c.on.invariant
    c.fork_of-fork.ensures.from c.fork_of-fork.ensures.within c.fork_of-fork.ensures.count c.fuller_half_of-half.ensures.count
    c.fuller_half_of-half.ensures.place c.fuller_half_of-half.ensures.begins in
    omega (arith, step.few, c.requires.few)

pub returns-then-half-len-clause-place : goal.returns-then-half-len-clause-place
returns-then-half-len-clause-place g c =
    let step : Step (g.K.Keys.keys c.args.keys.now) c.args.prefix.now.bits c.on.guide c.fork_of-fork.result c.fuller_half_of-half.result.key
    c.fuller_half_of-half.result.count =
    stepped (g.K.Keys.keys c.args.keys.now) c.args.prefix.now.bits c.on.guide c.on.bits c.fork_of-fork.result c.fuller_half_of-half.result.key
    c.fuller_half_of-half.result.count
    c.key.result.now.bits c.key-in-on.result.now.bits c.key.ensures c.key-in-on.ensures c.requires.some c.requires.apart c.requires.begin c.on.invariant
    c.fork_of-fork.ensures.from c.fork_of-fork.ensures.within c.fork_of-fork.ensures.count c.fuller_half_of-half.ensures.count
    c.fuller_half_of-half.ensures.place c.fuller_half_of-half.ensures.begins in
    step.inside

pub returns-then-half-len-clause-within : goal.returns-then-half-len-clause-within
returns-then-half-len-clause-within g c =
    let step : Step (g.K.Keys.keys c.args.keys.now) c.args.prefix.now.bits c.on.guide c.fork_of-fork.result c.fuller_half_of-half.result.key
    c.fuller_half_of-half.result.count =
    stepped (g.K.Keys.keys c.args.keys.now) c.args.prefix.now.bits c.on.guide c.on.bits c.fork_of-fork.result c.fuller_half_of-half.result.key
    c.fuller_half_of-half.result.count
    c.key.result.now.bits c.key-in-on.result.now.bits c.key.ensures c.key-in-on.ensures c.requires.some c.requires.apart c.requires.begin c.on.invariant
    c.fork_of-fork.ensures.from c.fork_of-fork.ensures.within c.fork_of-fork.ensures.count c.fuller_half_of-half.ensures.count
    c.fuller_half_of-half.ensures.place c.fuller_half_of-half.ensures.begins in
    step.within

pub returns-then-half-len-clause-split : goal.returns-then-half-len-clause-split
returns-then-half-len-clause-split g c =
    let step : Step (g.K.Keys.keys c.args.keys.now) c.args.prefix.now.bits c.on.guide c.fork_of-fork.result c.fuller_half_of-half.result.key
    c.fuller_half_of-half.result.count =
    stepped (g.K.Keys.keys c.args.keys.now) c.args.prefix.now.bits c.on.guide c.on.bits c.fork_of-fork.result c.fuller_half_of-half.result.key
    c.fuller_half_of-half.result.count
    c.key.result.now.bits c.key-in-on.result.now.bits c.key.ensures c.key-in-on.ensures c.requires.some c.requires.apart c.requires.begin c.on.invariant
    c.fork_of-fork.ensures.from c.fork_of-fork.ensures.within c.fork_of-fork.ensures.count c.fuller_half_of-half.ensures.count
    c.fuller_half_of-half.ensures.place c.fuller_half_of-half.ensures.begins in
    step.stops (omega (arith, c.if-half-len.true, c.len.ensures))

pub on-smaller : goal.on-smaller
on-smaller g c =
    let step : Step (g.K.Keys.keys c.args.keys.now) c.args.prefix.now.bits c.on.guide c.fork_of-fork.result c.fuller_half_of-half.result.key
    c.fuller_half_of-half.result.count =
    stepped (g.K.Keys.keys c.args.keys.now) c.args.prefix.now.bits c.on.guide c.on.bits c.fork_of-fork.result c.fuller_half_of-half.result.key
    c.fuller_half_of-half.result.count
    c.key.result.now.bits c.key-in-on.result.now.bits c.key.ensures c.key-in-on.ensures c.requires.some c.requires.apart c.requires.begin c.on.invariant
    c.fork_of-fork.ensures.from c.fork_of-fork.ensures.within c.fork_of-fork.ensures.count c.fuller_half_of-half.ensures.count
    c.fuller_half_of-half.ensures.place c.fuller_half_of-half.ensures.begins in
    omega (arith, step.shorter, key_bits (g.K.Keys.keys c.args.keys.now) c.on.guide c.on.invariant.inside, c.fork_of-fork.ensures.from)

pub on-preserved : goal.on-preserved
on-preserved g c =
    let step : Step (g.K.Keys.keys c.args.keys.now) c.args.prefix.now.bits c.on.guide c.fork_of-fork.result c.fuller_half_of-half.result.key
    c.fuller_half_of-half.result.count =
    stepped (g.K.Keys.keys c.args.keys.now) c.args.prefix.now.bits c.on.guide c.on.bits c.fork_of-fork.result c.fuller_half_of-half.result.key
    c.fuller_half_of-half.result.count
    c.key.result.now.bits c.key-in-on.result.now.bits c.key.ensures c.key-in-on.ensures c.requires.some c.requires.apart c.requires.begin c.on.invariant
    c.fork_of-fork.ensures.from c.fork_of-fork.ensures.within c.fork_of-fork.ensures.count c.fuller_half_of-half.ensures.count
    c.fuller_half_of-half.ensures.place c.fuller_half_of-half.ensures.begins in
    step.further (omega (arith, c.if-half-len.false, c.len.ensures))
