-- A history: sessions one after another, in a given order. The code runs sessions side by side;
-- here there is no lock, no page and no thread.
use Rattle.std.specs.Prelude.{ℕ, zero, suc, ◌+◌, Bool, true, false, List, [], ◌∷◌, map, Option}
use Rattle.std.specs.Prelude.{Some, None, slice_get}
use Rattle.ml_search.specs.Program.{Program, Script}
use Rattle.ml_search.specs.Db.{Place, at, mine, Item, Db}
use Rattle.ml_search.specs.Session.{Session, session}

-- a session by its number, with what it gave, or nothing where it found no memory
pub record Entry : Type 0 where
  pub number : ℕ
  pub ran : Option Session

-- a session's own items get the place of its entry
abbrev pub place_at : ℕ → Place → Place
place_at k (at n) = at n
place_at k mine = at k

-- an item, committed by the entry at a place if it was no entry's yet
abbrev pub item_at : ℕ → Item → Item
item_at k i =
    record { id = record { place = place_at k i.id.place; change = i.id.change }; term = i.term }

-- the lists as they are committed by the entry at a place
abbrev pub commit_at : ℕ → Db → Db
commit_at k = map (map (item_at k))

-- the script of a session, by its number from 1
abbrev pub script_of : List Script → ℕ → Option Script
script_of scripts zero = None
script_of scripts (suc k) = slice_get scripts k

-- the lists after an entry
abbrev pub db_after : Option Session → ℕ → Db → Db
db_after None k db = db
db_after (Some s) k db = commit_at k s.db

module _ (program : Program) where
  -- what a session gives: nothing where it is out of memory, which the truth value says, or where
  -- there is no script of its number
  abbrev pub session_result : Option Script → Bool → Db → Option Session
  session_result None out_of_memory db = None
  session_result (Some script) true db = None
  session_result (Some script) false db = Some (session program script db)

  -- the entries from place k on, and the lists behind the last
  abbrev pub history_from : ℕ → Db → List Script → List (ℕ × Bool) → List Entry × Db
  history_from k db scripts [] = ([], db)
  history_from k db scripts (o ∷ order) =
      let s : Option Session = session_result (script_of scripts o.0) o.1 db in
      let rest : List Entry × Db = history_from (1 + k) (db_after s k db) scripts order in
      (record { number = o.0; ran = s } ∷ rest.0, rest.1)

  -- The order says of each session its number and whether it found no memory.
  abbrev pub history : Db → List Script → List (ℕ × Bool) → List Entry × Db
  history db scripts order = history_from 1 db scripts order
