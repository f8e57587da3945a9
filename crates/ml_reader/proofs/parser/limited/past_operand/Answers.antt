use Rattle.std.proofs.Common.{sym, ap, ◌∙◌, arith}
use Rattle.ml_reader.specs.Seen.{lexeme_seen}
use Rattle.ml_reader.specs.inside.parser.Parser.{commas}
use Rattle.ml_reader.specs.inside.parser.Frames.{stack}
use Rattle.ml_reader.specs.inside.parser.LimitedSteps.{bracket_past, operator_past}
use Rattle.ml_reader.proofs.Parsing.StackDepths.{depth_stack, few_past_operand, no_operator}
use Rattle.ml_reader.proofs.parser.limited.past_operand.Goals as goal

pub returns-then-frames-lt-MAX_TEXT_LEVELS : goal.returns-then-frames-lt-MAX_TEXT_LEVELS
returns-then-frames-lt-MAX_TEXT_LEVELS c = sym (few_past_operand (lexeme_seen c.args.lexeme.now) (stack c.args.frames.now)
    (omega (arith, depth_stack c.args.frames.now, c.if-frames-lt-MAX_TEXT_LEVELS.true)))

pub returns-in_default : goal.returns-in_default
returns-in_default c =
    c.bracket_past.ensures
    ∙ (ap (λ n. bracket_past (lexeme_seen c.args.lexeme.now) n) (sym (depth_stack c.args.frames.now))
    ∙ ap (λ m. operator_past m (lexeme_seen c.args.lexeme.now) (stack c.args.frames.now))
    (sym (no_operator (commas (stack c.args.frames.now)) c.args.lexeme.now c.in_default.not-Name c.in_default.not-Comma)))
