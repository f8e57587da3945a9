-- A history that begins with committed lists ends with committed lists.
use Rattle.std.specs.Prelude.{◌≡◌, ℕ, ◌+◌, Bool, true, List, [], ◌∷◌, map, Option, Some, None}
use Rattle.std.specs.List.{list_all}
use Rattle.std.proofs.Common.{refl}
use Rattle.ml_search.specs.Program.{Program, Script}
use Rattle.ml_search.specs.Db.{Place, at, mine, Item, Db, is_placed, is_committed}
use Rattle.ml_search.specs.Session.{Session}
use Rattle.ml_search.specs.History.{place_at, item_at, commit_at, db_after, session_result, script_of, history_from, history}

placed : (k : ℕ) (p : Place) → is_placed (place_at k p) ≡ true
placed k (at n) = refl
placed k mine = refl

list_placed : (k : ℕ) (is : List Item) → list_all (λ i. is_placed i.id.place) (map (item_at k) is) ≡ true
list_placed k [] = refl
list_placed k (i ∷ is) = rw (placed k i.id.place) (list_placed k is)

lists_placed : (k : ℕ) (db : Db) → is_committed (commit_at k db) ≡ true
lists_placed k [] = refl
lists_placed k (is ∷ db) = rw (list_placed k is) (lists_placed k db)

after_entry : (s : Option Session) (k : ℕ) (db : Db) → is_committed db ≡ true → is_committed (db_after s k db) ≡ true
after_entry None k db h = h
after_entry (Some s) k db h = lists_placed k s.db

module _ (program : Program) where
  from_place : (k : ℕ) (db : Db) (scripts : List Script) (order : List (ℕ × Bool)) → is_committed db ≡ true →
      is_committed (history_from program k db scripts order).1 ≡ true
  from_place k db scripts [] h = h
  from_place k db scripts (o ∷ order) h =
      from_place (1 + k) (db_after (session_result program (script_of scripts o.0) o.1 db) k db) scripts order
      (after_entry (session_result program (script_of scripts o.0) o.1 db) k db h)

  pub stays_committed : (db : Db) (scripts : List Script) (order : List (ℕ × Bool)) → is_committed db ≡ true →
      is_committed (history program db scripts order).1 ≡ true
  stays_committed db scripts order h = from_place 1 db scripts order h
