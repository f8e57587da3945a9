-- What a token comes to within the limits. No public clause cites this module.
use Rattle.std.specs.Prelude.{[], ◌∷◌}
use Rattle.ml_reader.specs.inside.parser.Parser as P
use Rattle.ml_reader.specs.Seen.{read_seen}
use Rattle.ml_reader.specs.inside.parser.Frames.{state_seen}
use Rattle.ml_reader.specs.inside.parser.LimitedSteps.{LimitedOutcome, to_state, name_over_limit}
use Rattle.ml_reader.specs.inside.parser.LimitedSteps.{to_fault}
use Rattle.ml_reader.specs.declared.parser.limited.LimitedStep.{LimitedStep}
use Rattle.ml_reader.specs.declared.parser.limited.LimitedStep.TheVariants.{Go, Clause}
use Rattle.ml_reader.specs.declared.parser.limited.LimitedStep.TheVariants.{NameOverLimit, Stop}

-- the state, or the fault
abbrev pub limited_step_seen : LimitedStep → LimitedOutcome
limited_step_seen (Go s) = to_state (state_seen s)
limited_step_seen (Clause r) = to_state (P.expect_term (P.root (read_seen r ∷ [])))
limited_step_seen (NameOverLimit s) = name_over_limit (state_seen s)
limited_step_seen (Stop f) = to_fault f
