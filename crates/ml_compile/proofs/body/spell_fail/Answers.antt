use Rattle.ml_compile.proofs.BodiesSpelled.{spells_fail}
use Rattle.ml_compile.proofs.body.spell_fail.Goals as goal

pub returns : goal.returns
returns c = rw c.in_ok-push.ensures.items (spells_fail _)
