use Rattle.std.proofs.Common.{sym}
use Rattle.ml_isolation.proofs.ApartLogs.{apart_stays}
use Rattle.ml_isolation.proofs.apart.logs_that_do_not_meet.Goals as goal

pub returns-clause-replayed : goal.returns-clause-replayed
returns-clause-replayed c decls db own other k h b v w r q a = (apart_stays decls db own other k h b v w r q a).0

pub returns-clause-cursors : goal.returns-clause-cursors
returns-clause-cursors c decls db own other k h b v w r q a = sym (apart_stays decls db own other k h b v w r q a).1

pub returns-clause-notes : goal.returns-clause-notes
returns-clause-notes c decls db own other k x h b v w r q a = sym ((apart_stays decls db own other k h b v w r q a).2 x)
