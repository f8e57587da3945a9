-- One argument's cell more.
use Rattle.ml_heap.proofs.TermWalks.{inside_last}
use Rattle.ml_match_rows.proofs.heads.arguments.Goals as goal

pub loop-i-preserved : goal.loop-i-preserved
loop-i-preserved c = inside_last c.args.heap.now _ _ _ c.in_ok-push.ensures.items c.arg.ensures.inside c.loop-i.invariant
