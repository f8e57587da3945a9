use Rattle.std.proofs.Common.{◌≤◌, length, map, take}
use Rattle.ml_reader.specs.Rules.{Declare}
use Rattle.ml_reader.specs.Seen.{read_seen}
use Rattle.ml_reader.proofs.rules.rules_of.declarations.Given as goal

-- the declarations of the clauses so far, of which there are no more
abbrev pub invariant-loop-read : goal.invariant-loop-read
invariant-loop-read l = record { declare : Declare (map read_seen (take l.read-index l.reads)) l.decls; few : length l.decls ≤ l.read-index }
