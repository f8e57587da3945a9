use Rattle.std.proofs.Common.{sym, ap, ◌∙◌}
use Rattle.std.specs.Prelude.{nat_le}
use Rattle.std.specs.Option.{option_map}
use Rattle.ml_reader.specs.Seen.{operator_seen}
use Rattle.ml_reader.specs.inside.parser.Frames.{stack}
use Rattle.ml_reader.specs.inside.parser.LimitedSteps.{opens_past}
use Rattle.ml_reader.specs.Limits.{max_text_levels}
use Rattle.ml_reader.proofs.Parsing.StackDepths.{depth_stack}
use Rattle.ml_reader.proofs.parser.limited.opens_past_limit.Goals as goal

pub returns-in-Some : goal.returns-in-Some
returns-in-Some c =
    ap (λ n. nat_le max_text_levels n) (sym (depth_stack c.args.frames.now))
    ∙ ap (λ m. opens_past m (stack c.args.frames.now)) (ap (option_map (λ s. operator_seen c.args.name.now s)) (sym c.in-Some.is) ∙ c.prefix_of.ensures)
