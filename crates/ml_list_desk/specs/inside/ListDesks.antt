-- What the type of a desk over plain lists keeps. The code holds lists, cursors and a count; here
-- they are what the log makes of the lists at first.
use Rattle.std.specs.Prelude.{◌≡◌, ◌+◌, ◌≤◌, ℕ, Bool, true, false, List, map}
use Rattle.ml_list_desk.specs.inside.ItemList.{ItemList}
use Rattle.ml_list_desk.specs.Items.{lists_seen}
use Rattle.ml_list_desk.specs.inside.Outcomes.{count_of, outcome_reply}
use Rattle.ml_list_desk.specs.inside.Standing.{are_cursors_within, decls_of, StandFor}
use Rattle.ml_list_desk.specs.declared.list_cursor.ListCursor.{ListCursor}
use Rattle.ml_list_desk.specs.declared.list_item.ListItem.{ListItem}
use Rattle.ml_list_desk.specs.declared.outcome.Outcome.{Outcome}
use Rattle.ml_search.specs.Db.{Db}
use Rattle.ml_search.specs.Limits.{max_changes}
use Rattle.ml_search.specs.Operations.{delete_at, Log, asserta, assertz, delete, insert, is_log, next, opened_lists, opens, Operation}
use Rattle.ml_search.specs.Replay.{first_store, Replays, reply, Store, store_after}
use Rattle.ml_search.specs.Seen.{log_seen, reply_seen}
use Rattle.ml_search.specs.declared.operation.Op.{Op}
use Rattle.ml_search.specs.declared.operation.Reply as R
use Rattle.ml_term.specs.declared.declaration.Decl.{Decl}

-- the store that a log makes of lists
abbrev pub store_after_log : List Decl → Db → Log → Store
store_after_log decls db log = store_after decls (map (λ e. e.0) log) (first_store decls db)

-- the lists and cursors are those that the log makes of the lists at first, and these give the
-- log's replies
pub record IsListDesk (decls : List Decl) (lists : List ItemList) (cursors : List ListCursor)
    (changes : ℕ) (log : List (Op × R.Reply)) (first : List (List ListItem)) : Type 0 where
  pub decls_are : decls_of lists ≡ decls
  pub within : are_cursors_within lists cursors ≡ true
  pub few : changes ≤ max_changes
  pub stands :
      StandFor lists cursors changes (store_after_log decls (lists_seen first) (log_seen log))
  pub replays : Replays decls (lists_seen first) (log_seen log)
  pub logged : is_log decls (log_seen log) ≡ true
  pub opened : opened_lists (log_seen log) ≡ map (λ c. c.list) cursors

-- whether an operation asks for a change
abbrev pub asks_change : Operation → Bool
asks_change (opens d p) = false
asks_change (next c i) = false
asks_change (insert t) = true
asks_change (delete t) = true
asks_change (assertz t) = true
asks_change (asserta t) = true
asks_change (delete_at c i) = true

-- An operation was carried out on lists: whatever store they stood for, the outcome tells its
-- reply, and they stand for the store after it.
pub record IsCarriedOut (decls : List Decl) (o : Operation) (old new : List ItemList)
    (cursors : List ListCursor) (changes : ℕ) (outcome : Outcome) : Type 0 where
  pub told : (s : Store) → StandFor old cursors changes s
      → reply_seen (outcome_reply outcome) ≡ (reply decls o s).0
  pub stands : (s : Store) → StandFor old cursors changes s
      → StandFor new cursors (changes + count_of outcome) (reply decls o s).1
  pub decls_are : decls_of new ≡ decls_of old
  pub within : are_cursors_within new cursors ≡ true
  pub few : changes ≤ max_changes → changes + count_of outcome ≤ max_changes
