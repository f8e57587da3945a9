use Rattle.std.proofs.Common.{◌≤◌, take}
use Rattle.std.specs.List.{flat_map}
use Rattle.ml_outside.specs.Written.{Appended}
use Rattle.ml_entries.specs.Entries.{contents}
use Rattle.ml_run.proofs.run_and_print.write_blocks.Given as goal

-- the blocks so far were appended
abbrev pub invariant-loop-block : goal.invariant-loop-block
invariant-loop-block g l = record {
  appended : Appended (g.K.Sink.written l.fn.out) (g.K.Sink.written l.out) (flat_map (λ b. b) (contents (take l.block-index l.blocks)));
  later : g.K.Sink.faults l.fn.out ≤ g.K.Sink.faults l.out;
}
