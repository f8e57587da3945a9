use Rattle.std.proofs.Common.{subst, ◌≡◌, true}
use Rattle.ml_search.specs.Db.{is_db}
use Rattle.ml_isolation.proofs.ChangedLists.{log_keeps}
use Rattle.ml_isolation.proofs.CommittedPlaces.{IsOlder, db_committed, below_within}
use Rattle.ml_isolation.proofs.CommittedLogs.{commit_is_change}
use Rattle.ml_isolation.proofs.lists.a_commit_is_what_the_log_changed.Goals as goal

pub returns-clause-same : goal.returns-clause-same
returns-clause-same c decls db l k b = commit_is_change decls k db l b

pub returns-clause-kept : goal.returns-clause-kept
returns-clause-kept c decls db l k h b v r =
    let m = log_keeps decls (IsOlder k) db l (record { lists = h; within = below_within k db b }) v r in
    subst (λ z. is_db decls z ≡ true) (commit_is_change decls k db l b) (db_committed decls k m.0 _ m.1.within m.1.lists)
