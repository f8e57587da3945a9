-- What a log did with one item, and which items are there at each of its places. The core notes it
-- under the item's key and reads it there; here a log is gone through.
use Rattle.std.specs.Prelude.{ℕ, ◌+◌, ◌==◌, nat_lt, Bool, true, false, ◌&&◌, List, [], ◌∷◌, Option}
use Rattle.std.specs.Prelude.{Some, None, option_and_then, if◌then◌else◌}
use Rattle.std.specs.Option.{option_map}
use Rattle.std.specs.List.{cons_option}
use Rattle.ml_term.specs.Tree.{Tree}
use Rattle.ml_term.specs.declared.declaration.Decl.{Decl}
use Rattle.ml_search.specs.Db.{mine, Id, Db, is_same, is_same_id, head_of}
use Rattle.ml_search.specs.Changes.{ItemName, Alter, puts, takes, puts_first, puts_last, drops}
use Rattle.ml_search.specs.Changes.{list_for}
use Rattle.ml_search.specs.LogChanges.{is_change}
use Rattle.ml_search.specs.Operations.{Operation, Reply, Log}
use Rattle.ml_search.specs.Replay.{Progress, alter_of, progress_by, progress_after}

-- what is noted: a tuple by its term, or a clause by the number of its list and its id
pub data Noted : Type 0 where
  tuple : Tree → Noted
  clause : ℕ → Id → Noted

-- the last flag that was noted below a place, or else the one that stood before
abbrev pub flag_at : ℕ → Bool → List (ℕ × Bool) → Bool
flag_at stamp before [] = before
flag_at stamp before (e ∷ es) = flag_at stamp (if nat_lt e.0 stamp then e.1 else before) es

module _ (decls : List Decl) where
  -- Whether an item is there after a change that concerns it, where so many changes were made
  -- before; nothing where the change concerns another item.
  abbrev pub flag_of : Noted → ℕ → Alter ItemName → Option Bool
  flag_of (tuple t) n (puts u) = if is_same u t then Some true else None
  flag_of (tuple t) n (takes u) = if is_same u t then Some false else None
  flag_of (tuple t) n c = None
  flag_of (clause d a) n (puts_first c) =
      if (list_for decls (head_of c) == d) && is_same_id (record { place = mine; change = n }) a
      then Some true else None
  flag_of (clause d a) n (puts_last c) =
      if (list_for decls (head_of c) == d) && is_same_id (record { place = mine; change = n }) a
      then Some true else None
  flag_of (clause d a) n (drops x) =
      if (x.list == d) && is_same_id x.id a then Some false else None
  flag_of (clause d a) n c = None

  -- the flag that an operation notes, if its reply tells of a change
  abbrev pub noted_by : Noted → Progress → Operation × Reply → Option Bool
  noted_by x p e =
      if is_change e.1
      then option_and_then (flag_of x p.changes) (alter_of p.cursors e.0) else None

  -- the notes of a log from a place on, where lists were changed so far
  abbrev pub notes_from : Noted → ℕ → Progress → Log → List (ℕ × Bool)
  notes_from x n p [] = []
  notes_from x n p (e ∷ l) =
      cons_option (option_map (λ flag. (n, flag)) (noted_by x p e))
      (notes_from x (1 + n) (progress_by decls mine e p) l)

  -- the lists as a log left them, with the cursors over them and the number of changes
  abbrev pub progress_after_log : Db → Log → Progress
  progress_after_log db l =
      progress_after decls mine l (record { db = db; cursors = []; changes = 0 })

  -- what a log did with an item: the places of the log, and whether the item is there from then on
  abbrev pub notes_of : Db → Noted → Log → List (ℕ × Bool)
  notes_of db x l = notes_from x 0 (record { db = db; cursors = []; changes = 0 }) l
