use Rattle.ml_asking.proofs.ChangesByLog.{told_after}
use Rattle.ml_asking.proofs.laws.a_log_tells_of_its_changes.Goals as goal

pub returns : goal.returns
returns c = told_after
