use Rattle.ml_compile.proofs.BodiesSpelled.{ends_block}
use Rattle.ml_compile.proofs.body.spell_failure.Goals as goal

pub returns : goal.returns
returns c = rw c.in_ok-push.ensures.items (ends_block _ _ _ c.in_ok-spell_fail.ensures)
