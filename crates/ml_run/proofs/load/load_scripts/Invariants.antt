use Rattle.std.proofs.Common.{◌≡◌, ◌≤◌, IfSome, length, take}
use Rattle.ml_run.specs.inside.Seen.{scripts_seen}
use Rattle.ml_run.specs.Words.{texts}
use Rattle.ml_run.proofs.ScriptsInTurn.{EachComes}
use Rattle.ml_run.proofs.load.load_scripts.Given as goal

-- the scripts so far are those of the first names
abbrev pub invariant-loop-i : goal.invariant-loop-i
invariant-loop-i g l = record {
  each : IfSome (g.S.Shelf.held l.fn.shelf) (λ files. EachComes files 1 (take l.i (texts l.names)) (scripts_seen l.scripts.items));
  count : length l.scripts.items ≡ l.i;
  held : g.S.Shelf.held l.shelf ≡ g.S.Shelf.held l.fn.shelf;
  later : g.S.Shelf.faults l.fn.shelf ≤ g.S.Shelf.faults l.shelf;
}
