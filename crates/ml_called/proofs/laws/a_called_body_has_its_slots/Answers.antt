use Rattle.ml_called.proofs.SlotsOfVariables.{has_slot}
use Rattle.ml_called.proofs.laws.a_called_body_has_its_slots.Goals as goal

pub returns : goal.returns
returns c = λ h r old new code called n o. has_slot h r old new code called n o
