use Rattle.ml_asking.proofs.LogsGrow.{log_grows}
use Rattle.ml_isolation.proofs.GrownLogs.{replays_longer, kind_after}
use Rattle.ml_isolation.proofs.logs.a_log_grows.Goals as goal

pub returns-clause-replayed : goal.returns-clause-replayed
returns-clause-replayed c = replays_longer

pub returns-clause-kind : goal.returns-clause-kind
returns-clause-kind c = kind_after

pub returns-clause-lawful : goal.returns-clause-lawful
returns-clause-lawful c decls db l o h p v a = log_grows decls l o _ v a (kind_after decls db l o h p v)
