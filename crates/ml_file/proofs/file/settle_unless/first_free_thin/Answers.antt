use Rattle.std.proofs.Common.{below_more, arith}
use Rattle.std.proofs.lemmas.Bool.{both_ways}
use Rattle.ml_file.specs.SettledUnless.{IsFreeThin}
use Rattle.ml_file.proofs.file.settle_unless.first_free_thin.Goals as goal

pub returns-then-is_free_thin-clause-first : goal.returns-then-is_free_thin-clause-first
returns-then-is_free_thin-clause-first g c h a =
    record { free = (c.is_free_thin.ensures.free h a).0 c.if-is_free_thin.true; first = c.loop-i.invariant h a }

pub loop-i-preserved : goal.loop-i-preserved
loop-i-preserved g c h a =
    below_more (λ k. IsFreeThin h c.args.regions.now.regions k → ⊥) c.loop-i.i (c.loop-i.invariant h a)
    (λ known. both_ways c.is_free_thin.result c.if-is_free_thin.false ((c.is_free_thin.ensures.free h a).1 known))

pub returns-clause-first : goal.returns-clause-first
returns-clause-first g c h a i known = c.loop-i.invariant h a i (omega (arith, known.within, c.len-i-end.ensures.length)) known
