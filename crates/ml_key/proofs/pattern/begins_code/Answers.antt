use Rattle.ml_key.specs.inside.PatternCodes.{begins_code}
use Rattle.ml_key.proofs.pattern.begins_code.Goals as goal

pub returns : goal.returns
unfolding begins_code
returns c = c.rows_begin.ensures
