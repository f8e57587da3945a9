use Rattle.std.proofs.Common.{◌≡◌, length}
use Rattle.ml_reader.specs.inside.parser.Frames.{stack}
use Rattle.ml_reader.specs.inside.parser.LimitedSteps.{frames_left}
use Rattle.ml_reader.proofs.parser.innermost.levels_left.Given as goal

abbrev pub invariant-loop-s : goal.invariant-loop-s
invariant-loop-s l = frames_left l.priority (stack l.rest) ≡ frames_left l.priority (stack l.frames)

abbrev pub decreases-loop-s : goal.decreases-loop-s
decreases-loop-s l = length l.rest
