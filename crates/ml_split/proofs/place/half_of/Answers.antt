use Rattle.std.proofs.Common.{arith, take, length-take}
use Rattle.ml_split.specs.Splitting.{half}
use Rattle.ml_split.proofs.SplitWalk.{count_within}
use Rattle.ml_split.proofs.place.half_of.Goals as goal

pub overflow_add-half : goal.overflow_add-half
overflow_add-half g c =
    omega (
      arith,
      c.loop-i.invariant.count,
      count_within (half (take c.args.fork c.args.guide.now.bits) c.args.bit) (take c.loop-i.i (g.K.Keys.keys c.args.keys.now)),
      length-take c.loop-i.i (g.K.Keys.keys c.args.keys.now),
    )
