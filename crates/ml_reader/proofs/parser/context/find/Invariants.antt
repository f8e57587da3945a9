use Rattle.std.proofs.Common.{◌≡◌, length}
use Rattle.ml_reader.specs.Tokens.{find_name}
use Rattle.ml_reader.proofs.parser.context.find.Given as goal

abbrev pub invariant-loop-first : goal.invariant-loop-first
invariant-loop-first l = find_name l.rest l.name ≡ find_name l.names l.name

abbrev pub decreases-loop-first : goal.decreases-loop-first
decreases-loop-first l = length l.rest
