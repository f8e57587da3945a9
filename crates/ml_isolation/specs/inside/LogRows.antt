-- Worked rows of logs: what they ask for and write, which of them meet and what comes of it, what a
-- cursor has, and what is noted.
use Rattle.std.specs.Prelude.{◌≡◌, true, false, List, [], ◌∷◌, map, codes, None}
use Rattle.ml_term.specs.Tree.{Tree}
use Rattle.ml_search.specs.Db.{at, mine}
use Rattle.ml_search.specs.Operations.{opens, next, insert, delete, assertz, delete_at}
use Rattle.ml_search.specs.Operations.{Reply, cursor, item, no_item, added, present, removed, full}
use Rattle.ml_search.specs.Operations.{Log, is_log}
use Rattle.ml_search.specs.Replay.{replay, Replays, db_after_log, store_after, first_store}
use Rattle.ml_search.specs.inside.RowWords.{a1, v0}
use Rattle.ml_isolation.specs.Logs.{patterns_on, meets, concerned_by, written, IsApartFrom}
use Rattle.ml_isolation.specs.Notes.{tuple, clause, flag_at, notes_of}
use Rattle.ml_isolation.specs.inside.ListRows.{decls, p, r, db, one, first_log}

-- all tuples, and all clauses
abbrev any_p : Tree
any_p = a1 (codes "p") v0

abbrev any_r : Tree
any_r = a1 (codes "r") v0

-- what lists reply to a log's operations, where another log changed them and was committed
abbrev replies_after : Log → Log → List Reply
replies_after other l = replay decls (db_after_log decls db other (at 1)) (map (λ e. e.0) l)

-- a clause is put last
abbrev clause_log : Log
clause_log = (assertz (r 7), added) ∷ []

-- all clauses are read
abbrev reading_log : Log
reading_log =
    (opens 1 any_r, cursor 0) ∷ (next 0 0, item (r 1)) ∷ (next 0 1, item (r 2))
    ∷ (next 0 2, no_item) ∷ []

-- a clause is taken out by its cursor
abbrev dropping_log : Log
dropping_log =
    (opens 1 (a1 (codes "r") (a1 (codes "f") v0)), cursor 0) ∷ (next 0 0, no_item)
    ∷ (opens 1 any_r, cursor 1) ∷ (next 1 0, item (r 1)) ∷ (delete_at 1 0, removed) ∷ []

-- a tuple is put that isn't there, one that is there, and one is taken out
abbrev new_tuple_log : Log
new_tuple_log = (insert (p 9), added) ∷ []

abbrev old_tuple_log : Log
old_tuple_log = (insert (p 1), present) ∷ []

abbrev taking_log : Log
taking_log = (delete (p 1), removed) ∷ []

-- tuples are put before and after a cursor was opened
abbrev cursor_log : Log
cursor_log =
    (insert (p 2), added) ∷ (opens 0 any_p, cursor 0) ∷ (insert (p 0), added)
    ∷ (delete (p 3), removed) ∷ (next 0 0, item (p 1)) ∷ (next 0 1, item (p 2))
    ∷ (next 0 2, item (p 3)) ∷ (next 0 3, no_item) ∷ []

pub record LogRows : Type 0 where
  pub patterns_are_those_of_the_list : patterns_on first_log 1 ≡ any_r ∷ []
  pub another_list_has_none : patterns_on first_log 0 ≡ []
  -- with what a cursor gave, and also where nothing was changed
  pub all_that_was_written
      : written decls first_log
      ≡ (1, r 3) ∷ (1, r 4) ∷ (1, r 5) ∷ (1, r 1) ∷ (1, r 1) ∷ (0, p 2) ∷ (0, p 2) ∷ (0, p 1)
      ∷ (0, p 1) ∷ []
  pub what_is_full_concerns_nothing : concerned_by decls [] (insert (p 1), full) ≡ None
  pub a_pattern_meets_a_clause : meets decls 1 any_r (r 7) ≡ true
  pub a_pattern_meets_no_other_one
      : meets decls 1 (a1 (codes "r") (a1 (codes "f") v0)) (r 7) ≡ false
  -- two sessions put one clause: they are apart, and both clauses stand
  pub both_may_put_a_clause : IsApartFrom decls clause_log clause_log
  pub the_clause_is_put : Replays decls db clause_log
  pub and_put_again : replies_after clause_log clause_log ≡ added ∷ []
  pub both_clauses_stand
      : db_after_log decls (db_after_log decls db clause_log (at 1)) clause_log (at 2)
      ≡ (one (at 0) 0 (p 1) ∷ one (at 0) 1 (p 3) ∷ [])
      ∷ (one (at 0) 0 (r 1) ∷ one (at 0) 1 (r 2) ∷ one (at 1) 0 (r 7) ∷ one (at 2) 0 (r 7) ∷ [])
      ∷ []
  -- what is read must not be written
  pub clauses_are_read : Replays decls db reading_log
  pub another_clause_is_read
      : replies_after clause_log reading_log
      ≡ cursor 0 ∷ item (r 1) ∷ item (r 2) ∷ item (r 7) ∷ []
  -- a deletion by cursor writes what the cursor gave
  pub the_clause_is_dropped : Replays decls db dropping_log
  pub what_is_dropped_is_written : written decls dropping_log ≡ (1, r 1) ∷ []
  pub the_dropped_clause_is_not_read
      : replies_after dropping_log reading_log ≡ cursor 0 ∷ item (r 2) ∷ no_item ∷ no_item ∷ []
  -- a tuple must not be written by both, though none read it
  pub the_tuple_is_put : Replays decls db new_tuple_log
  pub nobody_read_it : patterns_on new_tuple_log 0 ≡ []
  pub and_is_there_then : replies_after new_tuple_log new_tuple_log ≡ present ∷ []
  -- a tuple that is found there is written too
  pub the_tuple_is_there : Replays decls db old_tuple_log
  pub what_is_there_is_written : written decls old_tuple_log ≡ (0, p 1) ∷ []
  pub the_tuple_is_taken : Replays decls db taking_log
  pub and_is_put_then : replies_after taking_log old_tuple_log ≡ added ∷ []
  -- a cursor has the own items of before, and none of after
  pub the_cursor_log_may_be_asked : is_log decls cursor_log ≡ true
  pub the_cursor_log_is_replayed : Replays decls db cursor_log
  pub a_cursor_has_what_was_there
      : (store_after decls (map (λ e. e.0) cursor_log) (first_store decls db)).cursors
      ≡ record {
        list = 0;
        members = one (at 0) 0 (p 1) ∷ one mine 0 (p 2) ∷ one (at 0) 1 (p 3) ∷ [];
      } ∷ []
  -- notes: a tuple that went and came, one that was put, one that nothing was done with, a clause
  -- that was dropped, and an own one
  pub it_went_and_came : notes_of decls db (tuple (p 1)) first_log ≡ (11, false) ∷ (12, true) ∷ []
  pub it_was_put_once : notes_of decls db (tuple (p 2)) first_log ≡ (9, true) ∷ []
  pub nothing_was_done : notes_of decls db (tuple (p 3)) first_log ≡ []
  pub it_was_dropped
      : notes_of decls db (clause 1 (one (at 0) 0 (r 1)).id) first_log ≡ (7, false) ∷ []
  pub an_own_clause : notes_of decls db (clause 1 (one mine 1 (r 4)).id) first_log ≡ (1, true) ∷ []
  pub a_note_counts_behind_its_place : flag_at 11 true ((11, false) ∷ (12, true) ∷ []) ≡ true
  pub the_first_note_counts : flag_at 12 true ((11, false) ∷ (12, true) ∷ []) ≡ false
  pub the_last_note_counts : flag_at 13 true ((11, false) ∷ (12, true) ∷ []) ≡ true
