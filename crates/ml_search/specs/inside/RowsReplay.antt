-- Worked rows of logs over plain lists: what they reply, what the log tells, and the lists after
-- it.
use Rattle.std.specs.Prelude.{◌≡◌, ℕ, true, List, [], ◌∷◌, map, codes}
use Rattle.std.proofs.Common.{refl}
use Rattle.ml_term.specs.Tree.{Tree}
use Rattle.ml_term.specs.declared.declaration.Decl.{Decl}
use Rattle.ml_search.specs.declared.change.What.TheVariants.{Put, Taken, First, Last, Dropped}
use Rattle.ml_search.specs.Db.{Db, mine, load_lists, terms}
use Rattle.ml_search.specs.Operations.{opens, next, insert, delete, assertz, asserta, delete_at}
use Rattle.ml_search.specs.Operations.{cursor, item, no_item, added, present, removed, absent, Log}
use Rattle.ml_search.specs.Operations.{is_log}
use Rattle.ml_search.specs.LogChanges.{log_changes}
use Rattle.ml_search.specs.Replay.{Replays, db_after_log}
use Rattle.ml_search.specs.inside.RowWords.{a1, i, v0, always, stored, relation, clauses}

-- :- relation(p/1). and :- clauses(r/1).
abbrev decls : List Decl
decls = relation (codes "p") 1 (1 ∷ []) refl ∷ clauses (codes "r") 1 (1 ∷ []) refl ∷ []

abbrev p : Tree → Tree
p = a1 (codes "p")

abbrev r : ℕ → Tree
r n = stored (a1 (codes "r") (i n)) always

-- p(1), and r(1) and r(2)
abbrev db : Db
db = load_lists ((p (i 1) ∷ []) ∷ (r 1 ∷ r 2 ∷ []) ∷ [])

-- a tuple that goes and comes while cursors are open
abbrev of_tuples : Log
of_tuples =
    (delete (p (i 1)), removed)
    ∷ (opens 0 (p v0), cursor 0)
    ∷ (insert (p (i 1)), added)
    ∷ (opens 0 (p v0), cursor 1)
    ∷ (delete (p (i 1)), removed)
    ∷ (opens 0 (p v0), cursor 2)
    ∷ (next 0 0, no_item)
    ∷ (next 1 0, item (p (i 1)))
    ∷ (next 1 1, no_item)
    ∷ (next 2 0, no_item)
    ∷ (delete (p (i 1)), absent)
    ∷ (insert (p (i 3)), added)
    ∷ (insert (p (i 3)), present)
    ∷ []

-- clauses that are put and taken by a cursor's number
abbrev of_clauses : Log
of_clauses =
    (assertz (r 3), added)
    ∷ (opens 1 (a1 (codes "r") v0), cursor 0)
    ∷ (asserta (r 0), added)
    ∷ (next 0 0, item (r 1))
    ∷ (next 0 1, item (r 2))
    ∷ (next 0 2, item (r 3))
    ∷ (next 0 3, no_item)
    ∷ (delete_at 0 2, removed)
    ∷ (delete_at 0 0, removed)
    ∷ (delete_at 0 2, absent)
    ∷ []

-- the lists after a log, by their terms
abbrev lists_after : Log → List (List Tree)
lists_after l = map terms (db_after_log decls db l mine)

pub record ReplayRows : Type 0 where
  pub tuples_may_be_asked_for : is_log decls of_tuples ≡ true
  pub replies_about_tuples : Replays decls db of_tuples
  pub told_about_tuples
      : log_changes of_tuples
      ≡ record { what = Taken; term = p (i 1) } ∷ record { what = Put; term = p (i 1) }
      ∷ record { what = Taken; term = p (i 1) } ∷ record { what = Put; term = p (i 3) } ∷ []
  pub tuples_after : lists_after of_tuples ≡ (p (i 3) ∷ []) ∷ (r 1 ∷ r 2 ∷ []) ∷ []
  pub clauses_may_be_asked_for : is_log decls of_clauses ≡ true
  pub replies_about_clauses : Replays decls db of_clauses
  pub told_about_clauses : (log_changes of_clauses)
      ≡ record { what = Last; term = r 3 } ∷ record { what = First; term = r 0 }
      ∷ record { what = Dropped; term = r 3 } ∷ record { what = Dropped; term = r 1 } ∷ []
  pub clauses_after : lists_after of_clauses ≡ (p (i 1) ∷ []) ∷ (r 0 ∷ r 2 ∷ []) ∷ []
