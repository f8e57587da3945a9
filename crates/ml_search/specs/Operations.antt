-- The operations by which a session asks for the lists, with their replies, and which of them may
-- be asked after a log. The code's types carry terms; here they carry trees.
use Rattle.std.specs.Prelude.{ℕ, ◌==◌, nat_lt, nat_le, Bool, true, false, ◌&&◌, List, [], ◌∷◌, ◌++◌}
use Rattle.std.specs.Prelude.{length, Option, Some, None, is_some, slice_get, option_and_then}
use Rattle.std.specs.Prelude.{if◌then◌else◌}
use Rattle.std.specs.List.{filter_map}
use Rattle.ml_term.specs.Tree.{Tree, nodes}
use Rattle.ml_term.specs.Valid.{is_valid}
use Rattle.ml_term.specs.declared.declaration.Decl.{Decl}
use Rattle.ml_term.specs.Limits.{max_term_nodes}
use Rattle.ml_search.specs.Program.{name_of, arity_of, is_of, declaration_of, holds_of, is_relation}
use Rattle.ml_search.specs.Program.{is_clause_list}
use Rattle.ml_search.specs.Db.{is_tuple, is_stored_clause, is_allowed, head_of}

-- A cursor opened over the list with a number, for a head; item i of cursor c; a tuple put in or
-- taken out; a clause put last or first; and item i of cursor c taken out. Cursors are numbered
-- from 0 in the order of their openings.
pub data Operation : Type 0 where
  opens : ℕ → Tree → Operation
  next : ℕ → ℕ → Operation
  insert : Tree → Operation
  delete : Tree → Operation
  assertz : Tree → Operation
  asserta : Tree → Operation
  delete_at : ℕ → ℕ → Operation

-- the number of a cursor; an item, or that there is none; that a list changed, and how; that it
-- didn't, since the tuple was there or the item wasn't; or that too many changes were made
pub data Reply : Type 0 where
  cursor : ℕ → Reply
  item : Tree → Reply
  no_item : Reply
  added : Reply
  present : Reply
  removed : Reply
  absent : Reply
  full : Reply

-- operations with their replies, in order
abbrev pub Log : Type 0
Log = List (Operation × Reply)

-- the numbers of the lists over which a log's cursors were opened
abbrev pub opened_lists : Log → List ℕ
opened_lists l = filter_map list_opened l
  where
    list_of_operation : Operation → Option ℕ
    list_of_operation (opens d p) = Some d
    list_of_operation o = None

    list_opened : Operation × Reply → Option ℕ
    list_opened e = list_of_operation e.0

-- an item that a cursor gave, with its number
abbrev pub numbered_item : ℕ → Operation → Reply → Option (ℕ × Tree)
numbered_item c (next k i) (item t) = if k == c then Some (i, t) else None
numbered_item c o r = None

-- the items that a cursor gave in a log, with their numbers
abbrev pub items_given : Log → ℕ → List (ℕ × Tree)
items_given l c = filter_map (λ e. numbered_item c e.0 e.1) l

-- the item with a number
abbrev pub item_with_number : ℕ → List (ℕ × Tree) → Option Tree
item_with_number i [] = None
item_with_number i (e ∷ es) = if e.0 == i then Some e.1 else item_with_number i es

-- item i of cursor c, if it was given
abbrev pub item_given : Log → ℕ → ℕ → Option Tree
item_given l c i = item_with_number i (items_given l c)

module _ (decls : List Decl) where
  -- the declaration of a term's predicate
  abbrev pub declaration_for : Tree → Option Decl
  declaration_for t = declaration_of decls (name_of t) (arity_of t)

  -- the declaration over which a cursor of a log was opened
  abbrev pub declaration_under : Log → ℕ → Option Decl
  declaration_under l c = option_and_then (slice_get decls) (slice_get (opened_lists l) c)

  -- Whether an operation may be asked after a log: a pattern belongs to its declaration and isn't
  -- too large; a tuple or clause is one that its list may have; the next item of an open cursor is
  -- asked for; and an item is taken out that a cursor over clauses gave.
  abbrev pub is_valid_after : Log → Operation → Bool
  is_valid_after l (opens d p) =
      holds_of (λ q. is_valid p && is_of q.pred.name q.pred.arity p) (slice_get decls d)
      && nat_le (nodes p) max_term_nodes
  is_valid_after l (next c i) =
      nat_lt c (length (opened_lists l)) && (i == length (items_given l c))
  is_valid_after l (insert t) = holds_of (λ q. is_relation q && is_tuple q t) (declaration_for t)
  is_valid_after l (delete t) = holds_of (λ q. is_relation q && is_tuple q t) (declaration_for t)
  is_valid_after l (assertz t) =
      holds_of (λ q. is_clause_list q && is_stored_clause q t) (declaration_for (head_of t))
  is_valid_after l (asserta t) =
      holds_of (λ q. is_clause_list q && is_stored_clause q t) (declaration_for (head_of t))
  is_valid_after l (delete_at c i) =
      holds_of is_clause_list (declaration_under l c) && is_some (item_given l c i)

  -- whether a reply is of the kind that an operation has after a log
  abbrev pub is_reply_after : Log → Operation → Reply → Bool
  is_reply_after l (opens d p) (cursor c) = c == length (opened_lists l)
  is_reply_after l (next c i) no_item = true
  is_reply_after l (next c i) (item t) = holds_of (λ q. is_allowed q t) (declaration_under l c)
  is_reply_after l (insert t) added = true
  is_reply_after l (insert t) present = true
  is_reply_after l (insert t) full = true
  is_reply_after l (delete t) removed = true
  is_reply_after l (delete t) absent = true
  is_reply_after l (delete t) full = true
  is_reply_after l (assertz t) added = true
  is_reply_after l (assertz t) full = true
  is_reply_after l (asserta t) added = true
  is_reply_after l (asserta t) full = true
  is_reply_after l (delete_at c i) removed = true
  is_reply_after l (delete_at c i) absent = true
  is_reply_after l (delete_at c i) full = true
  is_reply_after l o r = false

  -- whether each operation of a log may be asked after those before it, and has a reply of its kind
  abbrev pub is_log_from : Log → Log → Bool
  is_log_from before [] = true
  is_log_from before (e ∷ l) =
      is_valid_after before e.0 && is_reply_after before e.0 e.1 && is_log_from (before ++ e ∷ []) l

  -- the same of a whole log
  abbrev pub is_log : Log → Bool
  is_log l = is_log_from [] l
