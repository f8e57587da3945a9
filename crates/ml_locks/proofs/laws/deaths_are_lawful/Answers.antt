use Rattle.ml_locks.proofs.LockLaws.{lawful}
use Rattle.ml_locks.proofs.laws.deaths_are_lawful.Goals as goal

pub returns : goal.returns
returns c = lawful
