use Rattle.std.proofs.Common.{◌≡◌, true, length}
use Rattle.ml_term.specs.Seen.{seen}
use Rattle.ml_reader.specs.inside.parser.Parser as P
use Rattle.ml_reader.specs.Seen.{operator_seen}
use Rattle.ml_reader.specs.inside.parser.Frames.{stack}
use Rattle.ml_reader.proofs.parser.infix_operator.Given as goal

abbrev pub invariant-loop-alloc : goal.invariant-loop-alloc
invariant-loop-alloc l = P.infix_operator true (operator_seen l.name l.s) l.p (seen l.t) (stack l.frames.items) ≡ P.infix_operator true
    (operator_seen l.fn.name l.s) l.fn.p (seen l.fn.t) (stack l.fn.frames.items)

abbrev pub decreases-loop-alloc : goal.decreases-loop-alloc
decreases-loop-alloc l = length l.frames.items
