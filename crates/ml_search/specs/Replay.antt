-- What plain lists reply to the operations of a log, one after another. The code's cursors go
-- through pages; here a cursor is the list of the items that were there at its opening.
use Rattle.std.specs.Prelude.{◌≡◌, ℕ, suc, ◌+◌, List, [], ◌∷◌, ◌++◌, length, map, nat_lt, Bool}
use Rattle.std.specs.Prelude.{true, false, Option, Some, None, is_some, slice_get, option_and_then}
use Rattle.std.specs.Prelude.{if◌then◌else◌}
use Rattle.std.specs.Option.{option_map, option_map_or}
use Rattle.std.specs.List.{filter}
use Rattle.ml_term.specs.Tree.{Tree, variable, variables, substitute}
use Rattle.ml_term.specs.Unify.{unifier}
use Rattle.ml_term.specs.declared.declaration.Decl.{Decl}
use Rattle.ml_search.specs.Limits.{max_changes}
use Rattle.ml_search.specs.Program.{holds_of, is_clause_list}
use Rattle.ml_search.specs.Db.{Place, Item, Db, items, head_of}
use Rattle.ml_search.specs.Changes.{Lists, ItemName, Alter, puts, takes, puts_first, puts_last}
use Rattle.ml_search.specs.Changes.{drops, Effect, change_made, no_change, change_limit, alter}
use Rattle.ml_search.specs.Changes.{db_after_change}
use Rattle.ml_search.specs.Operations.{Operation, opens, next, insert, delete, assertz, asserta}
use Rattle.ml_search.specs.Operations.{delete_at, Reply, cursor, item, no_item, added, present}
use Rattle.ml_search.specs.Operations.{removed, absent, full, Log}
use Rattle.ml_search.specs.LogChanges.{is_change}

-- a cursor: the number of its list, and the items that were there at its opening and unify with its
-- pattern
pub record Cursor : Type 0 where
  pub list : ℕ
  pub members : List Item

-- the lists with the changes made, and the cursors so far
pub record Store : Type 0 where
  pub lists : Lists
  pub cursors : List Cursor

-- lists that a log changes: the cursors over them so far, and the number of changes
pub record Progress : Type 0 where
  pub db : Db
  pub cursors : List Cursor
  pub changes : ℕ

-- a number above each of some numbers
abbrev pub number_above : List ℕ → ℕ
number_above [] = 0
number_above (n ∷ ns) = suc n + number_above ns

-- a term with its variables renamed apart from a pattern's
abbrev pub rename_apart : Tree → Tree → Tree
rename_apart pattern t = substitute (λ n. variable (number_above (variables pattern) + n)) t

-- the head of an item: a tuple itself, or a clause's head
abbrev pub item_head : Bool → Tree → Tree
item_head false t = t
item_head true t = head_of t

-- what a cursor's member is told as
abbrev pub item_reply : Option Item → Reply
item_reply None = no_item
item_reply (Some i) = item i.term

-- item i of cursor c
abbrev pub member : List Cursor → ℕ → ℕ → Option Item
member cs c i = option_and_then (λ k. slice_get k.members i) (slice_get cs c)

-- the number of a cursor's list
abbrev pub list_under : List Cursor → ℕ → ℕ
list_under cs c = option_map_or (λ k. k.list) (slice_get cs c) 0

-- what an operation is to change, if it is one that changes lists and its item is there
abbrev pub alter_of : List Cursor → Operation → Option (Alter ItemName)
alter_of cs (opens d p) = None
alter_of cs (next c i) = None
alter_of cs (insert t) = Some (puts t)
alter_of cs (delete t) = Some (takes t)
alter_of cs (asserta t) = Some (puts_first t)
alter_of cs (assertz t) = Some (puts_last t)
alter_of cs (delete_at c i) =
    option_map (λ j. drops (record { list = list_under cs c; id = j.id })) (member cs c i)

-- the reply to an operation by what came of it
abbrev pub reply_by : Operation → Effect → Reply
reply_by o change_limit = full
reply_by (insert t) change_made = added
reply_by (asserta t) change_made = added
reply_by (assertz t) change_made = added
reply_by o change_made = removed
reply_by (insert t) no_change = present
reply_by o no_change = absent

module _ (decls : List Decl) where
  -- whether an item of a list unifies with a pattern
  abbrev pub unifies : ℕ → Tree → Item → Bool
  unifies d pattern i =
      is_some
      (unifier pattern
      (rename_apart pattern (item_head (holds_of is_clause_list (slice_get decls d)) i.term)))

  -- the cursor that an opening makes
  abbrev pub cursor_over : ℕ → Tree → Db → Cursor
  cursor_over d pattern db = record { list = d; members = filter (unifies d pattern) (items db d) }

  -- a change asked of a store
  abbrev pub reply_to_change : Option (Alter ItemName) → Operation → Store → Reply × Store
  reply_to_change None o s = (if nat_lt (length s.lists.made) max_changes then absent else full, s)
  reply_to_change (Some c) o s =
      (reply_by o (alter decls c s.lists).0, record s { lists = (alter decls c s.lists).1 })

  -- the reply to an operation, and the store after it
  abbrev pub reply : Operation → Store → Reply × Store
  reply (opens d pattern) s = (
    cursor (length s.cursors),
    record s
        { cursors = s.cursors ++ cursor_over d pattern s.lists.db ∷ [] },
  )
  reply (next c i) s = (item_reply (member s.cursors c i), s)
  reply o s = reply_to_change (alter_of s.cursors o) o s

  -- the replies to operations, one after another
  abbrev pub replies : List Operation → Store → List Reply
  replies [] s = []
  replies (o ∷ os) s = (reply o s).0 ∷ replies os (reply o s).1

  -- the store after operations
  abbrev pub store_after : List Operation → Store → Store
  store_after [] s = s
  store_after (o ∷ os) s = store_after os (reply o s).1

  -- lists of which nothing was asked yet
  abbrev pub first_store : Db → Store
  first_store db = record { lists = record { db = db; made = [] }; cursors = [] }

  -- the replies of lists of which nothing was asked yet
  abbrev pub replay : Db → List Operation → List Reply
  replay db os = replies os (first_store db)

  -- plain lists give a log's replies
  abbrev pub Replays : Db → Log → Type 0
  Replays db l = replay db (map (λ e. e.0) l) ≡ map (λ e. e.1) l

  -- a change, if there was one; what is put has the given place and the number of the changes
  -- before
  abbrev pub progress_by_change : Place → Bool → Option (Alter ItemName) → Progress → Progress
  progress_by_change place true (Some c) p =
      record {
        db = db_after_change decls (record { place = place; change = p.changes }) c p.db;
        cursors = p.cursors;
        changes = 1 + p.changes;
      }
  progress_by_change place true None p = record p { changes = 1 + p.changes }
  progress_by_change place false c p = p

  -- the lists as a log left them so far, the cursors over them, and the number of changes
  abbrev pub progress_by : Place → Operation × Reply → Progress → Progress
  progress_by place (opens d pattern, r) p =
      record p { cursors = p.cursors ++ cursor_over d pattern p.db ∷ [] }
  progress_by place (o, r) p = progress_by_change place (is_change r) (alter_of p.cursors o) p

  -- the lists after a log, and what was opened and changed
  abbrev pub progress_after : Place → Log → Progress → Progress
  progress_after place [] p = p
  progress_after place (e ∷ l) p = progress_after place l (progress_by place e p)

  -- The lists after a log's changes: what is put has the given place and the change's number.
  abbrev pub db_after_log : Db → Log → Place → Db
  db_after_log db l place =
      (progress_after place l (record { db = db; cursors = []; changes = 0 })).db
