use Rattle.ml_isolation.proofs.ChangedLists.{log_keeps}
use Rattle.ml_isolation.proofs.CommittedPlaces.{IsAny, IsOlder, db_committed, db_below, db_placed, db_stays, db_later, below_within, committed_within}
use Rattle.ml_isolation.proofs.FirstLists.{first_is_db, first_is_committed, first_is_below}
use Rattle.ml_isolation.proofs.lists.lists_stay_lists.Goals as goal

pub returns-clause-first : goal.returns-clause-first
returns-clause-first c = first_is_db

pub returns-clause-first_committed : goal.returns-clause-first_committed
returns-clause-first_committed c = first_is_committed

pub returns-clause-first_below : goal.returns-clause-first_below
returns-clause-first_below c = first_is_below

pub returns-clause-kept : goal.returns-clause-kept
returns-clause-kept c decls db l h p v r = (log_keeps decls IsAny db l (record { lists = h; within = committed_within db p }) v r).1.lists

pub returns-clause-committed : goal.returns-clause-committed
returns-clause-committed c decls db l k h p b v r =
    let m = log_keeps decls (IsOlder k) db l (record { lists = h; within = below_within k db b }) v r in
    db_committed decls k m.0 _ m.1.within m.1.lists

pub returns-clause-all_committed : goal.returns-clause-all_committed
returns-clause-all_committed c = db_placed

pub returns-clause-below : goal.returns-clause-below
returns-clause-below c decls db l k h p b v r =
    let m = log_keeps decls (IsOlder k) db l (record { lists = h; within = below_within k db b }) v r in
    db_below k m.0 _ m.1.within

pub returns-clause-uncommitted : goal.returns-clause-uncommitted
returns-clause-uncommitted c = db_stays

pub returns-clause-grows : goal.returns-clause-grows
returns-clause-grows c = db_later
