-- A history of sessions, each with its log, that plain lists explain. The core runs sessions side
-- by side; here the lists are what the committed logs change, one entry after another.
use Rattle.std.specs.Prelude.{◌≡◌, ◌≢◌, ◌⊎◌, ℕ, ◌+◌, Bool, true, false, List, [], ◌∷◌, Contains}
use Rattle.std.specs.Prelude.{if◌then◌else◌}
use Rattle.std.specs.List.{AllPairs}
use Rattle.ml_term.specs.declared.declaration.Decl.{Decl}
use Rattle.ml_search.specs.declared.ending.EntryEnding.{EntryEnding}
use Rattle.ml_search.specs.declared.ending.EntryEnding.TheVariants.{Committed, Aborted, Refused}
use Rattle.ml_search.specs.declared.ending.EntryEnding.TheVariants.{Failed, OutOfMemory}
use Rattle.ml_search.specs.Db.{at, Db, is_db}
use Rattle.ml_search.specs.Operations.{Log, is_log}
use Rattle.ml_search.specs.Replay.{db_after_log, Replays}
use Rattle.ml_isolation.specs.Places.{AreBelow}

-- an entry of a history with the log of its session
pub record Ended : Type 0 where
  pub number : ℕ
  pub ending : EntryEnding
  pub lines : List (List ℕ)
  pub log : Log

-- whether an entry commits what its session changed
abbrev pub commits : EntryEnding → Bool
commits Committed = true
commits Aborted = false
commits Refused = false
commits (Failed j) = false
commits OutOfMemory = false

-- whether an entry's session found no memory
abbrev pub found_no_memory : EntryEnding → Bool
found_no_memory Committed = false
found_no_memory Aborted = false
found_no_memory Refused = false
found_no_memory (Failed j) = false
found_no_memory OutOfMemory = true

-- a log is one of a history's: that of an entry, or of a session that is live, by its number
abbrev pub IsLogOf : List Ended → List (ℕ × Log) → Log → Type 0
IsLogOf ended live l =
    ((e : Ended) × (Contains ended e × (e.log ≡ l))) ⊎ ((k : ℕ) × Contains live (k, l))

module _ (decls : List Decl) where
  -- the lists after the entry at a place
  abbrev pub lists_after_one : ℕ → Db → Ended → Db
  lists_after_one k db e = if commits e.ending then db_after_log decls db e.log (at k) else db

  -- the lists after entries from a place on
  abbrev pub lists_after : ℕ → Db → List Ended → Db
  lists_after k db [] = db
  lists_after k db (e ∷ es) = lists_after (1 + k) (lists_after_one k db e) es

  -- the lists before each entry give its log's replies, unless it found no memory
  abbrev pub AreReplayed : ℕ → Db → List Ended → Type 0
  AreReplayed k db [] = Unit {0}
  AreReplayed k db (e ∷ es) =
      (found_no_memory e.ending ≡ false → Replays decls db e.log)
      × AreReplayed (1 + k) (lists_after_one k db e) es

  -- From lists that were loaded, the lists before each entry give its log's replies, and the lists
  -- after all entries give those of each live session. Each log has operations that may be asked,
  -- with replies of their kinds, and no session has two entries.
  pub record IsExplained (start : Db) (ended : List Ended) (live : List (ℕ × Log)) : Type 0 where
    pub begins : is_db decls start ≡ true
    pub loaded : AreBelow 1 start
    pub entries : AreReplayed 1 start ended
    pub present : (k : ℕ) (l : Log) → Contains live (k, l) →
        Replays decls (lists_after 1 start ended) l
    pub lawful : (l : Log) → IsLogOf ended live l → is_log decls l ≡ true
    pub once : AllPairs (λ (a b : Ended). a.number ≢ b.number) ended
