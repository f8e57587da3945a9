use Rattle.std.proofs.Common.{sym, ◌∙◌}
use Rattle.ml_reader.proofs.Parsing.LastFrames as V
use Rattle.ml_reader.proofs.parser.innermost.limit.Goals as goal

pub returns-in-Some-Prefix-default : goal.returns-in-Some-Prefix-default
returns-in-Some-Prefix-default c = sym (V.limit_at _ _ _ _ c.in-Some-Prefix-default.ensures.cases.0 c.in-Some-Prefix-default.field-0-0-is)

pub returns-in-Some-Infix-default : goal.returns-in-Some-Infix-default
returns-in-Some-Infix-default c = sym (V.limit_at _ _ _ _ c.in-Some-Infix-default.ensures.cases.0 c.in-Some-Infix-default.field-0-0-is)

pub returns-in-Some-Open-default : goal.returns-in-Some-Open-default
returns-in-Some-Open-default c =
    c.limit_in.ensures ∙ (V.limit_bracket _ _ ∙ sym (V.limit_at _ _ _ _ c.in-Some-Open-default.ensures.cases.0 c.in-Some-Open-default.field-0-0-is))
