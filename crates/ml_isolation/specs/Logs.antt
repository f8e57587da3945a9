-- What logs ask for and what they write, and logs that do not meet. The core locks regions of keys;
-- here patterns and terms are compared.
use Rattle.std.specs.Prelude.{◌≡◌, ℕ, ◌==◌, Bool, true, false, List, Option, Some, None, is_some}
use Rattle.std.specs.Prelude.{slice_get, option_and_then, if◌then◌else◌}
use Rattle.std.specs.Option.{option_map}
use Rattle.std.specs.List.{filter_map, Contains}
use Rattle.ml_term.specs.Tree.{Tree}
use Rattle.ml_term.specs.Unify.{unifier}
use Rattle.ml_term.specs.declared.declaration.Decl.{Decl}
use Rattle.ml_search.specs.Program.{holds_of, is_relation, is_clause_list}
use Rattle.ml_search.specs.Db.{head_of}
use Rattle.ml_search.specs.Changes.{list_for}
use Rattle.ml_search.specs.Operations.{Operation, opens, next, insert, delete, assertz, asserta}
use Rattle.ml_search.specs.Operations.{delete_at, Reply, full, Log, opened_lists, item_given}
use Rattle.ml_search.specs.Replay.{rename_apart, item_head}

-- the pattern of an opening over a list
abbrev pub pattern_on : ℕ → Operation → Option Tree
pattern_on d (opens e p) = if e == d then Some p else None
pattern_on d o = None

-- the patterns for which a log opened cursors over a list
abbrev pub patterns_on : Log → ℕ → List Tree
patterns_on l d = filter_map (λ e. pattern_on d e.0) l

-- whether a reply says that too many changes were made
abbrev pub is_full : Reply → Bool
is_full full = true
is_full r = false

module _ (decls : List Decl) where
  -- whether a term of a list meets a pattern: its head unifies with it, renamed apart
  abbrev pub meets : ℕ → Tree → Tree → Bool
  meets d pattern t =
      is_some
      (unifier pattern
      (rename_apart pattern (item_head (holds_of is_clause_list (slice_get decls d)) t)))

  -- a list is one of tuples
  abbrev pub IsRelation : ℕ → Type 0
  IsRelation d = holds_of is_relation (slice_get decls d) ≡ true

  -- a list is one of clauses
  abbrev pub IsClauseList : ℕ → Type 0
  IsClauseList d = holds_of is_clause_list (slice_get decls d) ≡ true

  -- The list and term of an operation that changes a list or tries to; of a deletion by cursor, the
  -- term that the cursor gave in the log.
  abbrev pub concerned : Log → Operation → Option (ℕ × Tree)
  concerned l (opens d p) = None
  concerned l (next c i) = None
  concerned l (insert t) = Some (list_for decls t, t)
  concerned l (delete t) = Some (list_for decls t, t)
  concerned l (assertz t) = Some (list_for decls (head_of t), t)
  concerned l (asserta t) = Some (list_for decls (head_of t), t)
  concerned l (delete_at c i) =
      option_and_then (λ d. option_map (λ t. (d, t)) (item_given l c i))
      (slice_get (opened_lists l) c)

  -- the same, unless the reply was `full`: such an operation concerns nothing
  abbrev pub concerned_by : Log → Operation × Reply → Option (ℕ × Tree)
  concerned_by l e = if is_full e.1 then None else concerned l e.0

  -- the lists and terms of a log's operations that changed a list or tried to, in order
  abbrev pub written : Log → List (ℕ × Tree)
  written l = filter_map (concerned_by l) l

  -- What another log wrote concerns nothing that one's own log asked for: no pattern meets it, and
  -- no tuple was written by both. Both may write one clause: each puts its own.
  pub record IsApartFrom (own other : Log) : Type 0 where
    pub unread : (d : ℕ) (p t : Tree) → Contains (written other) (d, t) →
        Contains (patterns_on own d) p → meets d p t ≡ false
    pub unwritten : (d : ℕ) (t : Tree) → IsRelation d → Contains (written other) (d, t) →
        Contains (written own) (d, t) → ⊥
