use Rattle.std.proofs.Common.{subst}
use Rattle.std.proofs.lemmas.Result.{err_from_is_err_and}
use Rattle.ml_outside.specs.Written.{AppendedFront}
use Rattle.ml_run.proofs.WritesInTurn.{front_of_blocks}
use Rattle.ml_run.proofs.run_and_print.write_blocks.Goals as goal

pub returns-in_err-write_block-clause-front : goal.returns-in_err-write_block-clause-front
returns-in_err-write_block-clause-front g c =
    let p = err_from_is_err_and c.from_residual.result c.from_residual.ensures.1 in
    let front =
    subst
    (AppendedFront (g.K.Sink.written c.loop-block.out) (g.K.Sink.written c.write_block.new.out)) c.deref.ensures.value c.in_err-write_block.ensures.front in
    rw p.1
    (front_of_blocks c.args.blocks.now c.loop-block.block-index c.block-item.result _ _ _ c.loop-block-test.true c.block-item.is
    c.loop-block.invariant.appended front)
