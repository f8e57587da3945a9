use Rattle.std.proofs.Common.{sym, ◌∙◌}
use Rattle.ml_term.specs.Seen.{seen}
use Rattle.ml_key.proofs.PrefixPlaces.{nothing_asked, its_code_asked}
use Rattle.ml_key.proofs.pattern.asked_word.Goals as goal

pub returns-then-is_variable : goal.returns-then-is_variable
returns-then-is_variable c = nothing_asked (seen c.args.t.now) (sym c.is_variable.ensures ∙ c.if-is_variable.true)

pub returns-else-is_variable : goal.returns-else-is_variable
returns-else-is_variable c = its_code_asked (seen c.args.t.now) c.code_word.result (sym c.is_variable.ensures ∙ c.if-is_variable.false) c.code_word.ensures
