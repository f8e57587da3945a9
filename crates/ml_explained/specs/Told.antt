-- What the entries of an explained history say of its sessions. The definition of a history
-- searches anew; here the logs tell all.
use Rattle.std.specs.Prelude.{◌≡◌, ℕ, ◌+◌, Bool, true, List, [], ◌∷◌, ◌++◌, Option, Some, None}
use Rattle.std.specs.Prelude.{if◌then◌else◌}
use Rattle.std.specs.Option.{option_map}
use Rattle.std.specs.List.{flat_map}
use Rattle.ml_term.specs.declared.declaration.Decl.{Decl}
use Rattle.ml_search.specs.declared.ending.Ending.{Ending}
use Rattle.ml_search.specs.declared.ending.Ending.TheVariants as E
use Rattle.ml_search.specs.declared.ending.EntryEnding.{EntryEnding}
use Rattle.ml_search.specs.declared.ending.EntryEnding.TheVariants.{Committed, Aborted, Refused}
use Rattle.ml_search.specs.declared.ending.EntryEnding.TheVariants.{Failed, OutOfMemory}
use Rattle.ml_search.specs.Program.{Program, Script}
use Rattle.ml_search.specs.Db.{mine, Db}
use Rattle.ml_search.specs.LogChanges.{log_changes}
use Rattle.ml_search.specs.Replay.{db_after_log}
use Rattle.ml_search.specs.Session.{Session}
use Rattle.ml_search.specs.History.{Entry, script_of}
use Rattle.ml_search.specs.Printed.{entry_text, session_line}
use Rattle.ml_desk.specs.Sealing.{IsSealed}
use Rattle.ml_explained.specs.Explained.{Ended, commits, found_no_memory, lists_after_one}

-- how an entry's session ended, unless it found no memory
abbrev pub session_ending : EntryEnding → Option Ending
session_ending Committed = Some E.Committed
session_ending Aborted = Some E.Aborted
session_ending Refused = Some E.Refused
session_ending (Failed j) = Some (E.Failed j)
session_ending OutOfMemory = None

-- what an order says of an entry: its number, and whether it found no memory
abbrev pub order_of_entry : Ended → ℕ × Bool
order_of_entry e = (e.number, found_no_memory e.ending)

-- the block of an entry as it is printed: its line, and its session's lines
abbrev pub block_of : Ended → List ℕ
block_of e = session_line e.number (entry_text e.ending) ++ flat_map (λ l. l) e.lines

-- the print of entries
abbrev pub print_of_entries : List Ended → List ℕ
print_of_entries = flat_map block_of

module _ (decls : List Decl) where
  -- what an entry's session gave, as its log tells: where it didn't commit it leaves the lists
  -- before it, and no changes
  abbrev pub session_told : Db → Ended → Ending → Session
  session_told db e ending =
      record {
        lines = e.lines;
        ending = ending;
        db = if commits e.ending then db_after_log decls db e.log mine else db;
        changes = if commits e.ending then log_changes e.log else [];
      }

  -- an entry of the definition's history, as the log tells
  abbrev pub entry_told : Db → Ended → Entry
  entry_told db e =
      record {
        number = e.number;
        ran = option_map (session_told db e) (session_ending e.ending);
      }

  -- the entries of the definition's history from a place on, as the logs tell
  abbrev pub entries_told : ℕ → Db → List Ended → List Entry
  entries_told k db [] = []
  entries_told k db (e ∷ es) =
      entry_told db e ∷ entries_told (1 + k) (lists_after_one decls k db e) es

-- An entry is what the session of its number's script means, with the entry's log, or it found no
-- memory and has no lines.
pub record IsEntryOf (program : Program) (scripts : List Script) (e : Ended) : Type 0 where
  pub means : (ending : Ending) → session_ending e.ending ≡ Some ending →
      (script : Script)
      × ((script_of scripts e.number ≡ Some script) × IsSealed program script e.log e.lines ending)
  pub silent : found_no_memory e.ending ≡ true → e.lines ≡ []
