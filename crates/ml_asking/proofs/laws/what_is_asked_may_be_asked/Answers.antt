use Rattle.ml_asking.proofs.RequestsAlongReplies.{asked_is_valid}
use Rattle.ml_asking.proofs.LogsGrow.{log_grows, log_has_replies}
use Rattle.ml_asking.proofs.laws.what_is_asked_may_be_asked.Goals as goal

pub returns-clause-asked : goal.returns-clause-asked
returns-clause-asked c = asked_is_valid

pub returns-clause-replies : goal.returns-clause-replies
returns-clause-replies c = log_has_replies

pub returns-clause-grows : goal.returns-clause-grows
returns-clause-grows c = log_grows
