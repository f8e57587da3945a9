use Rattle.ml_key.proofs.BitBeginnings.{owner_holds, shorter_holds}
use Rattle.ml_key.proofs.key_laws.prefixes_that_may_hold.Goals as goal

pub returns-clause-owner : goal.returns-clause-owner
returns-clause-owner c = owner_holds

pub returns-clause-below : goal.returns-clause-below
returns-clause-below c = shorter_holds
