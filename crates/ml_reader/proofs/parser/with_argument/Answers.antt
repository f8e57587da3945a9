use Rattle.std.proofs.Common.{ap, ◌∙◌, arith}
use Rattle.ml_term.specs.Seen.{seen}
use Rattle.ml_reader.specs.inside.parser.Parser as P
use Rattle.ml_reader.specs.inside.parser.Frames.{stack}
use Rattle.ml_reader.proofs.Parsing.LastFrames as V
use Rattle.ml_reader.proofs.parser.with_argument.Goals as goal

pub returns-then-len : goal.returns-then-len
returns-then-len c =
    V.many_stop c.args.arguments.name c.args.arguments.items.items (seen c.args.t) (stack c.args.frames.items)
    (omega (arith, c.if-len.true, c.len.ensures))

pub returns : goal.returns
returns c =
    ap (λ l. V.going (P.expect_term l)) (V.stack_pushed _ _ _ _ c.in_ok-push-2.ensures.items (ap (P.arguments c.args.arguments.name)
    (V.back_pushed _ _ _ c.in_ok-push.ensures.items)))
    ∙ V.few_go c.args.arguments.name c.args.arguments.items.items (seen c.args.t) (stack c.args.frames.items)
    (omega (arith, c.if-len.false, c.len.ensures))
