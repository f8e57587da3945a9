use Rattle.std.proofs.Common.{◌≡◌, IfOk, ◌∙◌, subst}
use Rattle.ml_reader.specs.inside.parser.Frames.{next_seen, few}
use Rattle.ml_reader.proofs.Parsing.LastFrames as V
use Rattle.ml_reader.proofs.parser.finish_operand.Goals as goal

pub loop-name-preserved-in-Some-Prefix : goal.loop-name-preserved-in-Some-Prefix
loop-name-preserved-in-Some-Prefix c =
    V.ended_before _ _ _ _ _ c.in-Some-Prefix.ensures.items _ _ _ c.in-Some-Prefix.field-0-is c.in_ok-t-in-Some-Prefix.ensures ∙ c.loop-name.invariant

pub loop-name-preserved : goal.loop-name-preserved
loop-name-preserved c =
    V.ended_between _ _ _ _ _ c.in-Some-Infix.ensures.items _ _ _ _ c.in-Some-Infix.field-0-is c.in_ok-t-in-Some-Infix.ensures ∙ c.loop-name.invariant

pub returns-in-Some-Open : goal.returns-in-Some-Open
returns-in-Some-Open c =
    subst (λ n. IfOk c.close_bracket.result (λ r. next_seen r ≡ few n)) (V.ended_open _ _ _ c.loop-name.t c.loop-name.t c.in-Some-Open.ensures.items _ _
    c.in-Some-Open.field-0-is ∙ c.loop-name.invariant) c.close_bracket.ensures
