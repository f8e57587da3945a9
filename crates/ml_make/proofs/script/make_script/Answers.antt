use Rattle.std.proofs.Common.{ap, ◌∙◌}
use Rattle.ml_make.specs.Texts.{script_with}
use Rattle.ml_make.proofs.script.make_script.Goals as goal

pub returns : goal.returns
returns c = ap (λ v. v.items) c.into_bytes.ensures.value ∙ c.in_ok-text.ensures ∙ ap script_with (c.as_str.ensures.value ∙ c.in_ok-goal.ensures)
