use Rattle.std.proofs.Common.{◌+◌, map}
use Rattle.ml_list_desk.specs.Items.{lists_seen}
use Rattle.ml_program.specs.LoadedProgram.{program_of}
use Rattle.ml_entries.specs.Entries.{contents, AreEntries, AreLists}
use Rattle.ml_search.specs.ProgramSeen.{script_seen}
use Rattle.ml_entries.proofs.entries.blocks_in_turn.Given as goal

-- the blocks of the first scripts, and the lists behind them
abbrev pub invariant-loop-i : goal.invariant-loop-i
invariant-loop-i l = record {
  entries : AreEntries (program_of l.program) (lists_seen l.fn.first.items) (map script_seen l.scripts) l.i (contents l.blocks.items)
      (lists_seen l.items.items);
  lists : AreLists l.decls (l.i + 1) (lists_seen l.items.items);
}
