use Rattle.ml_locks.proofs.LockLaws.{as_before}
use Rattle.ml_locks.proofs.laws.weakened_after_granted_is_as_before.Goals as goal

pub returns : goal.returns
returns c = as_before
