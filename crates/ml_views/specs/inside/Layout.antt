-- How the code keeps notes: for each declaration a search tree from keys to lists of notes, each of
-- which is a last note and those before it.
use Rattle.std.specs.Prelude.{◌≡◌, ◌≢◌, ℕ, ◌+◌, ◌^◌, ◌<◌, ◌≤◌, Bool, List, [], ◌∷◌, ◌++◌, map}
use Rattle.std.specs.Prelude.{IsSome, length, slice_index_or}
use Rattle.std.specs.declared.cmp.Ordering.TheVariants.{Greater}
use Rattle.std.specs.FinMap.{FinMap, empty, entries, from_entries, get}
use Rattle.ml_bits.specs.BitList.{BitList}
use Rattle.ml_views.specs.UndoLog.{UndoLog, FileKey, key_cmp, HasNotesAtEachKey}
use Rattle.ml_views.specs.declared.note.Note.{Note}
use Rattle.ml_views.specs.declared.note_list.NoteList.{NoteList}

-- the notes of a key
abbrev pub notes_of : NoteList → List Note
notes_of l = l.earlier.items ++ l.last ∷ []

-- the notes of a file's keys
abbrev pub FileLog : Type 0
FileLog = FinMap key_cmp (List Note)

-- an entry of a search tree: a key's bits and its notes
abbrev pub entry_seen : BitList × NoteList → List Bool × List Note
entry_seen e = (e.0.bits, notes_of e.1)

-- what a search tree holds
abbrev pub file_log : List (BitList × NoteList) → FileLog
file_log es = from_entries (map entry_seen es)

-- an entry of the file of a declaration
abbrev pub entry_of : ℕ → List Bool × List Note → FileKey × List Note
entry_of d e = ((d, e.0), e.1)

-- the entries of some files, the first of which is that of declaration d
abbrev pub entries_from : ℕ → List FileLog → List (FileKey × List Note)
entries_from d [] = []
entries_from d (m ∷ ms) = map (entry_of d) (entries m) ++ entries_from (d + 1) ms

-- the undo log that the files of all declarations are, from declaration 0 on
abbrev pub undo_log : List FileLog → UndoLog
undo_log ms = from_entries (entries_from 0 ms)

-- a key is noted, and none that is noted comes before it
pub record IsFirstKey (m : FileLog) (key : List Bool) : Type 0 where
  pub noted : IsSome (get m key)
  pub least : (other : List Bool) → IsSome (get m other) → key_cmp key other ≢ Greater

-- a file has notes, and none before it has
pub record IsFirstFile (ms : List FileLog) (at : ℕ) : Type 0 where
  pub within : at < length ms
  pub noted : (d : FileLog) → slice_index_or ms at d ≢ empty
  pub before : (k : ℕ) (d : FileLog) → k < at → slice_index_or ms k d ≡ empty

-- what the code keeps of its files: no key is in the log without a note, and each place is the
-- number of a declaration
pub record AreFiles (ms : List FileLog) : Type 0 where
  pub noted : HasNotesAtEachKey (undo_log ms)
  pub few : length ms ≤ 2 ^ 32
