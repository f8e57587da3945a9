-- The undo log of a session: for each declaration and key the notes of what the session did to the
-- item under that key, in the order of its operations. The code keeps a search tree for each
-- declaration and walks a key's notes from the back; here the log is one finite map, and what the
-- session sees is read off a whole list.
use Rattle.std.specs.Prelude.{◌≢◌, ℕ, ◌-◌, Bool, List, [], ◌∷◌, ◌++◌, length, take, Option, Some}
use Rattle.std.specs.Prelude.{option_map, slice_get, nat_lt, IsSome}
use Rattle.std.specs.List.{filter}
use Rattle.std.specs.Option.{unwrap_or}
use Rattle.std.specs.Ordering.{nat_cmp, bool_cmp, ordering_then}
use Rattle.std.specs.Cmp.Lexicographic.{slice_cmp}
use Rattle.std.specs.declared.cmp.Ordering.{Ordering}
use Rattle.std.specs.declared.cmp.Ordering.TheVariants.{Greater}
use Rattle.std.specs.FinMap.{FinMap, get, insert, remove}
use Rattle.ml_views.specs.declared.note.Note.{Note}

-- where an item stands: its declaration, and its key in that declaration's file
abbrev pub FileKey : Type 0
FileKey = ℕ × List Bool

-- the order of keys: by bits
abbrev pub key_cmp : List Bool → List Bool → Ordering
key_cmp = slice_cmp bool_cmp

-- the order of declarations and keys: by declaration, and then by key
abbrev pub file_key_cmp : FileKey → FileKey → Ordering
file_key_cmp a b = ordering_then (nat_cmp a.0 b.0) (key_cmp a.1 b.1)

-- an undo log
abbrev pub UndoLog : Type 0
UndoLog = FinMap file_key_cmp (List Note)

-- the notes at a key, none where it isn't in the map
abbrev pub notes_at : {K : Type 0} {R : K → K → Ordering} → FinMap R (List Note) → K → List Note
notes_at m k = unwrap_or (get m k) []

-- the map with these notes at a key, which goes out of the map where they are none; all others stay
abbrev pub with_notes : {K : Type 0} {R : K → K → Ordering} → FinMap R (List Note) → K → List Note
    → FinMap R (List Note)
with_notes m k [] = remove m k
with_notes m k (n ∷ ns) = insert m k (n ∷ ns)

-- no key is in the map without a note
abbrev pub HasNotesAtEachKey : {K : Type 0} {R : K → K → Ordering} → FinMap R (List Note) → Type 0
HasNotesAtEachKey {K} m = (k : K) → get m k ≢ Some []

-- the last of some notes
abbrev pub last_note : List Note → Option Note
last_note ns = slice_get ns (length ns - 1)

-- some notes without the last of them
abbrev pub all_but_last : List Note → List Note
all_but_last ns = take (length ns - 1) ns

-- an undo log with one more note of an item
abbrev pub with_note : UndoLog → FileKey → Note → UndoLog
with_note m item note = with_notes m item (notes_at m item ++ note ∷ [])

-- an undo log without the last note of an item
abbrev pub without_last_note : UndoLog → FileKey → UndoLog
without_last_note m item = with_notes m item (all_but_last (notes_at m item))

-- the notes with smaller stamps
abbrev pub notes_before : ℕ → List Note → List Note
notes_before stamp ns = filter (λ (n : Note). nat_lt n.stamp stamp) ns

-- Whether an item is there for who sees what was done before a stamp: by the last note with a
-- smaller stamp, and as it is committed where there is none.
abbrev pub flag_at : ℕ → Bool → List Note → Bool
flag_at stamp committed ns =
    unwrap_or (option_map (λ (n : Note). n.present) (last_note (notes_before stamp ns))) committed

-- an item is noted, and none that is noted comes before it
pub record IsFirstNoted (m : UndoLog) (item : FileKey) : Type 0 where
  pub noted : IsSome (get m item)
  pub least : (other : FileKey) → IsSome (get m other) → file_key_cmp item other ≢ Greater
