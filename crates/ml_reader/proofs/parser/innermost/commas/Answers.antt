use Rattle.std.proofs.Common.{sym, ◌∙◌}
use Rattle.ml_reader.proofs.Parsing.LastFrames as V
use Rattle.ml_reader.proofs.parser.innermost.commas.Goals as goal

pub returns-in-Some-Open-default : goal.returns-in-Some-Open-default
returns-in-Some-Open-default c =
    c.commas_in.ensures
    ∙ (V.commas_bracket _ _ ∙ (sym (V.commas_at _ _ _ _ c.in-Some-Open-default.ensures.cases.0 c.in-Some-Open-default.field-0-0-is)
    ∙ c.loop-bracket.invariant))

pub loop-bracket-preserved-in-Some-Prefix-default : goal.loop-bracket-preserved-in-Some-Prefix-default
loop-bracket-preserved-in-Some-Prefix-default c =
    sym (V.commas_at _ _ _ _ c.in-Some-Prefix-default.ensures.cases.0 c.in-Some-Prefix-default.field-0-0-is) ∙ c.loop-bracket.invariant

pub loop-bracket-preserved : goal.loop-bracket-preserved
loop-bracket-preserved c =
    sym (V.commas_at _ _ _ _ c.in-Some-Infix-default.ensures.cases.0 c.in-Some-Infix-default.field-0-0-is) ∙ c.loop-bracket.invariant
