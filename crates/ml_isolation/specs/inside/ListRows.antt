-- Worked rows of lists: what is loaded, what a log leaves of it, and what is committed.
use Rattle.std.specs.Prelude.{◌≡◌, ℕ, true, false, List, [], ◌∷◌, codes}
use Rattle.std.proofs.Common.{refl}
use Rattle.ml_term.specs.Tree.{Tree}
use Rattle.ml_term.specs.declared.declaration.Decl.{Decl}
use Rattle.ml_search.specs.Db.{Place, at, mine, Item, Db, is_db, is_committed}
use Rattle.ml_search.specs.History.{commit_at}
use Rattle.ml_search.specs.Loading.{are_items, first_db}
use Rattle.ml_search.specs.Operations.{opens, next, insert, delete, assertz, asserta, delete_at}
use Rattle.ml_search.specs.Operations.{cursor, item, added, present, removed, absent, Log, is_log}
use Rattle.ml_search.specs.Replay.{Replays, db_after_log}
use Rattle.ml_search.specs.inside.RowWords.{a1, i, v0, always, stored, relation, clauses}
use Rattle.ml_isolation.specs.Places.{are_below}

-- :- relation(p/1). and :- clauses(r/1).
abbrev pub decls : List Decl
decls = relation (codes "p") 1 (1 ∷ []) refl ∷ clauses (codes "r") 1 (1 ∷ []) refl ∷ []

abbrev pub p : ℕ → Tree
p n = a1 (codes "p") (i n)

abbrev pub r : ℕ → Tree
r n = stored (a1 (codes "r") (i n)) always

-- p(3). r(1). p(1). r(2). p(3).
abbrev items : List (ℕ × Tree)
items = (0, p 3) ∷ (1, r 1) ∷ (0, p 1) ∷ (1, r 2) ∷ (0, p 3) ∷ []

abbrev pub db : Db
db = first_db decls items

-- an item by its place, its number and its term
abbrev pub one : Place → ℕ → Tree → Item
one place n t = record { id = record { place = place; change = n }; term = t }

-- Two clauses are put first, one last and one taken out by its cursor; a tuple is put twice,
-- and another goes and comes.
abbrev pub first_log : Log
first_log =
    (asserta (r 3), added)
    ∷ (asserta (r 4), added)
    ∷ (assertz (r 5), added)
    ∷ (opens 1 (a1 (codes "r") v0), cursor 0)
    ∷ (next 0 0, item (r 4))
    ∷ (next 0 1, item (r 3))
    ∷ (next 0 2, item (r 1))
    ∷ (delete_at 0 2, removed)
    ∷ (delete_at 0 2, absent)
    ∷ (insert (p 2), added)
    ∷ (insert (p 2), present)
    ∷ (delete (p 1), removed)
    ∷ (insert (p 1), added)
    ∷ []

-- what a log leaves of these lists, and commits at place 1
abbrev committed : Db
committed = commit_at 1 (db_after_log decls db first_log mine)

-- a log of the session that follows
abbrev second_log : Log
second_log =
    (asserta (r 1), added) ∷ (assertz (r 6), added) ∷ (delete (p 3), removed)
    ∷ (insert (p 0), added) ∷ []

pub record ListRows : Type 0 where
  pub items_are_allowed : are_items decls items ≡ true
  pub a_tuple_is_loaded_once
      : db
      ≡ (one (at 0) 0 (p 1) ∷ one (at 0) 1 (p 3) ∷ [])
      ∷ (one (at 0) 0 (r 1) ∷ one (at 0) 1 (r 2) ∷ []) ∷ []
  pub loaded_lists_are_lists : is_db decls db ≡ true
  pub loaded_items_have_place_0 : are_below 1 db ≡ true
  pub the_first_log_may_be_asked : is_log decls first_log ≡ true
  pub the_first_log_is_replayed : Replays decls db first_log
  pub own_items_stand_in_order
      : db_after_log decls db first_log mine
      ≡ (one mine 6 (p 1) ∷ one mine 4 (p 2) ∷ one (at 0) 1 (p 3) ∷ [])
      ∷ (one mine 1 (r 4) ∷ one mine 0 (r 3) ∷ one (at 0) 1 (r 2) ∷ one mine 2 (r 5) ∷ []) ∷ []
  pub own_items_are_not_committed : is_committed (db_after_log decls db first_log mine) ≡ false
  pub own_items_are_committed_at_their_place
      : committed
      ≡ (one (at 1) 6 (p 1) ∷ one (at 1) 4 (p 2) ∷ one (at 0) 1 (p 3) ∷ [])
      ∷ (one (at 1) 1 (r 4) ∷ one (at 1) 0 (r 3) ∷ one (at 0) 1 (r 2) ∷ one (at 1) 2 (r 5) ∷ [])
      ∷ []
  pub committed_lists_are_lists : is_db decls committed ≡ true
  pub committed_items_have_places_below_2 : are_below 2 committed ≡ true
  pub a_later_place_is_needed : are_below 1 committed ≡ false
  pub the_second_log_may_be_asked : is_log decls second_log ≡ true
  pub the_second_log_is_replayed : Replays decls committed second_log
  pub what_the_second_log_changed
      : db_after_log decls committed second_log (at 2)
      ≡ (one (at 2) 3 (p 0) ∷ one (at 1) 6 (p 1) ∷ one (at 1) 4 (p 2) ∷ [])
      ∷ (one (at 2) 0 (r 1) ∷ one (at 1) 1 (r 4) ∷ one (at 1) 0 (r 3) ∷ one (at 0) 1 (r 2)
      ∷ one (at 1) 2 (r 5) ∷ one (at 2) 1 (r 6) ∷ []) ∷ []
  pub a_commit_gives_the_same
      : commit_at 2 (db_after_log decls committed second_log mine)
      ≡ db_after_log decls committed second_log (at 2)
  pub these_are_lists : is_db decls (db_after_log decls committed second_log (at 2)) ≡ true
  -- at a place that isn't later two clauses would have one id
  pub an_earlier_place_is_refused
      : is_db decls (commit_at 0 (db_after_log decls db first_log mine)) ≡ false
