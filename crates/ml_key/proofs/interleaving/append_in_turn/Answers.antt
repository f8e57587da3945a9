use Rattle.ml_key.proofs.BitRows.{one_row_more}
use Rattle.ml_key.proofs.interleaving.append_in_turn.Goals as goal

pub loop-row-preserved : goal.loop-row-preserved
loop-row-preserved c =
    one_row_more c.loop-row.list c.append.new.list c.args.list.now c.args.words.now c.args.rows c.loop-row.row c.row_of.result
    c.loop-row-test.true c.loop-row.invariant c.row_of.ensures.bits c.append.ensures
