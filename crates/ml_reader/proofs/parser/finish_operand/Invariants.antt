use Rattle.std.proofs.Common.{◌≡◌, length}
use Rattle.ml_term.specs.Seen.{seen}
use Rattle.ml_reader.specs.inside.parser.Parser as P
use Rattle.ml_reader.specs.Seen.{lexeme_seen}
use Rattle.ml_reader.specs.inside.parser.Frames.{stack}
use Rattle.ml_reader.proofs.parser.finish_operand.Given as goal

abbrev pub invariant-loop-name : goal.invariant-loop-name
invariant-loop-name l = P.finish_operand (lexeme_seen l.lexeme) (seen l.t) (stack l.frames.items) ≡ P.finish_operand (lexeme_seen l.fn.lexeme) (seen l.fn.t)
    (stack l.fn.frames.items)

abbrev pub decreases-loop-name : goal.decreases-loop-name
decreases-loop-name l = length l.frames.items
