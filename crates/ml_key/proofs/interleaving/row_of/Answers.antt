use Rattle.std.proofs.Common.{refl, arith}
use Rattle.ml_key.proofs.BitRows.{row_more}
use Rattle.ml_key.proofs.interleaving.row_of.Goals as goal

pub loop-word-preserved : goal.loop-word-preserved
loop-word-preserved c =
    row_more c.args.words.now c.args.place c.loop-word.word-index c.loop-word.row _ _ (omega arith) (omega arith) refl c.loop-word.invariant refl
