use Rattle.ml_file.proofs.NoneThin.{stays_settled}
use Rattle.ml_file.proofs.SettleSteps.{rests}
use Rattle.ml_file.proofs.laws.settled_files.Goals as goal

pub returns : goal.returns
returns c = record { stay = stays_settled; rest = rests }
