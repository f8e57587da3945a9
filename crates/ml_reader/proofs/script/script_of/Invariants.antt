use Rattle.std.proofs.Common.{◌≡◌, map}
use Rattle.std.specs.Vec.Iter.{into_iter_items}
use Rattle.std.specs.List.{AllByRecursion}
use Rattle.ml_reader.specs.inside.script.ScriptItems.{no_clauses, run_clauses}
use Rattle.ml_reader.specs.inside.script.ScriptSeen.{draft_seen}
use Rattle.ml_reader.specs.Seen.{read_seen}
use Rattle.ml_reader.specs.Texts.{IsWellRead}
use Rattle.ml_reader.proofs.script.script_of.Given as goal

-- the run over the clauses that are left is the run over all
abbrev pub invariant-loop-clause : goal.invariant-loop-clause
invariant-loop-clause l = record {
  same : run_clauses (draft_seen l.draft) (map read_seen (into_iter_items l.clause-iterator)) ≡ run_clauses no_clauses (map read_seen l.fn.clauses.items);
  well_read : AllByRecursion IsWellRead (map read_seen (into_iter_items l.clause-iterator));
}
