use Rattle.std.proofs.Common.{◌-◌, length}
use Rattle.ml_reader.specs.inside.parser.ContextSeen.{context_seen}
use Rattle.ml_reader.specs.inside.parser.Frames.{state_seen}
use Rattle.ml_reader.proofs.Parsing.ClauseLoop.{LoopKeeps}
use Rattle.ml_reader.proofs.clauses.read_clauses.Given as goal

abbrev pub invariant-loop-clauses : goal.invariant-loop-clauses
invariant-loop-clauses l = LoopKeeps l.bytes (context_seen l.context) l.clauses.items (state_seen l.state)

abbrev pub decreases-loop-clauses : goal.decreases-loop-clauses
decreases-loop-clauses l = length l.bytes - l.context.to
