use Rattle.std.proofs.Common.{◌==◌, length, sym, ap, ◌∙◌}
use Rattle.ml_reader.specs.inside.parser.Frames.{state_seen}
use Rattle.ml_reader.specs.inside.parser.Turns.{is_between}
use Rattle.ml_reader.proofs.Parsing.StackDepths.{between_stack}
use Rattle.ml_reader.proofs.parser.turn.is_between.Goals as goal

pub returns-in-ExpectTerm : goal.returns-in-ExpectTerm
returns-in-ExpectTerm c =
    c.is_empty.ensures
    ∙ (ap (λ l. length l == 0) c.as_slice.ensures.value ∙ (sym (between_stack c.in-ExpectTerm.frames.items) ∙ ap (λ s. is_between (state_seen s))
    (sym c.in-ExpectTerm.is)))
