use Rattle.std.proofs.Common.{◌+◌, sym, ap, ◌∙◌}
use Rattle.std.specs.Option.{option_map}
use Rattle.ml_reader.specs.Seen.{operator_seen, lexeme_seen}
use Rattle.ml_reader.specs.inside.parser.Frames.{stack}
use Rattle.ml_reader.specs.inside.parser.LimitedSteps.{bracket_past, past_prefix}
use Rattle.ml_reader.proofs.Parsing.StackDepths.{depth_stack}
use Rattle.ml_reader.proofs.parser.limited.past_prefix.Goals as goal

pub returns-in-None : goal.returns-in-None
returns-in-None c =
    c.bracket_past.ensures
    ∙ (ap (λ n. bracket_past (lexeme_seen c.args.lexeme.now) n) (sym (depth_stack c.args.frames.now))
    ∙ ap (λ m. past_prefix m (lexeme_seen c.args.lexeme.now) (stack c.args.frames.now))
    (ap (option_map (λ s. operator_seen c.args.name.now s)) (sym c.in-None.is) ∙ c.prefix_of.ensures))

pub returns-in-Some : goal.returns-in-Some
returns-in-Some c =
    c.bracket_past-in-Some.ensures
    ∙ (ap (λ n. bracket_past (lexeme_seen c.args.lexeme.now) (1 + n)) (sym (depth_stack c.args.frames.now))
    ∙ ap (λ m. past_prefix m (lexeme_seen c.args.lexeme.now) (stack c.args.frames.now))
    (ap (option_map (λ s. operator_seen c.args.name.now s)) (sym c.in-Some.is) ∙ c.prefix_of.ensures))
