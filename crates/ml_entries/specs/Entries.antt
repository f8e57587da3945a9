-- The blocks of a run's entries, and the lists between two of them. The code keeps a block as
-- bytes; here it is that of an entry of the history.
use Rattle.std.specs.Prelude.{◌≡◌, ℕ, Bool, true, false, List, map, Some, Vec}
use Rattle.std.specs.declared.alloc.Global.{Global}
use Rattle.ml_isolation.specs.Places.{AreBelow}
use Rattle.ml_term.specs.Keys.{numbers_from}
use Rattle.ml_term.specs.declared.declaration.Decl.{Decl}
use Rattle.ml_search.specs.Db.{Db, is_committed, is_db}
use Rattle.ml_search.specs.Program.{Program, Script}
use Rattle.ml_search.specs.History.{Entry, db_after, history, session_result}
use Rattle.ml_search.specs.Printed.{block}

-- the bytes of blocks
abbrev pub contents : List (Vec ℕ Global) → List (List ℕ)
contents = map (λ b. b.items)

-- the entry of a script's session over some lists, by its number and whether it found no memory
abbrev pub entry_of : Program → Db → Script → ℕ → Bool → Entry
entry_of program db script number out_of_memory =
    record { number = number; ran = session_result program (Some script) out_of_memory db }

-- lists that the entry at a place may begin with: they are the declarations' lists, and each item
-- was loaded or committed by an entry before it
pub record AreLists (decls : List Decl) (place : ℕ) (db : Db) : Type 0 where
  pub lists : is_db decls db ≡ true
  pub committed : is_committed db ≡ true
  pub below : AreBelow place db

-- a block, and the lists after it, are those of an entry whose place is its number
pub record IsEntryOf (program : Program) (db : Db) (script : Script) (number : ℕ) (bytes : List ℕ)
    (after : Db) (out_of_memory : Bool) : Type 0 where
  pub block_is : bytes ≡ block (entry_of program db script number out_of_memory)
  pub lists_are : after
      ≡ db_after (session_result program (Some script) out_of_memory db) number db

-- the same of an entry that found memory
abbrev pub IsSessionEntry : Program → Db → Script → ℕ → List ℕ → Db → Type 0
IsSessionEntry program db script number bytes after =
    IsEntryOf program db script number bytes after false

-- the same of an entry that may be out of memory
abbrev pub IsEntry : Program → Db → Script → ℕ → List ℕ → Db → Type 0
IsEntry program db script number bytes after =
    (out_of_memory : Bool) × IsEntryOf program db script number bytes after out_of_memory

-- The blocks, and the lists after them, are those of the history of the first n scripts, in order
-- of number. Each entry may be out of memory.
pub record AreEntries (program : Program) (db : Db) (scripts : List Script) (n : ℕ)
    (blocks : List (List ℕ)) (after : Db) : Type 0 where
  pub order : List (ℕ × Bool)
  pub numbers : map (λ o. o.0) order ≡ numbers_from 1 n
  pub are : blocks ≡ map block (history program db scripts order).0
  pub left : after ≡ (history program db scripts order).1
