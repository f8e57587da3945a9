use Rattle.std.proofs.Common.{◌≡◌, length}
use Rattle.ml_reader.specs.inside.parser.Parser as P
use Rattle.ml_reader.specs.inside.parser.Frames.{stack}
use Rattle.ml_reader.proofs.parser.innermost.commas.Given as goal

abbrev pub invariant-loop-bracket : goal.invariant-loop-bracket
invariant-loop-bracket l = P.commas (stack l.rest) ≡ P.commas (stack l.frames)

abbrev pub decreases-loop-bracket : goal.decreases-loop-bracket
decreases-loop-bracket l = length l.rest
