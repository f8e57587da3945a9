-- What operations, replies, logs and changes are seen as: the same, with trees in place of terms.
use Rattle.std.specs.Prelude.{List, map}
use Rattle.ml_term.specs.Seen.{seen}
use Rattle.ml_search.specs.declared.operation.Op.{Op}
use Rattle.ml_search.specs.declared.operation.Op.TheVariants.{Open, Next, Insert, Delete, Assertz}
use Rattle.ml_search.specs.declared.operation.Op.TheVariants.{Asserta, DeleteAt}
use Rattle.ml_search.specs.declared.operation.Reply as R
use Rattle.ml_search.specs.declared.operation.Reply.TheVariants.{Cursor, Item, End, Added, Present}
use Rattle.ml_search.specs.declared.operation.Reply.TheVariants.{Removed, Absent, Full}
use Rattle.ml_search.specs.declared.change.Change as C
use Rattle.ml_search.specs.Changes.{Change}
use Rattle.ml_search.specs.Operations.{Operation, opens, next, insert, delete, assertz, asserta}
use Rattle.ml_search.specs.Operations.{delete_at, Reply, cursor, item, no_item, added, present}
use Rattle.ml_search.specs.Operations.{removed, absent, full, Log}

-- the operation that an `Op` is
abbrev pub operation_seen : Op → Operation
operation_seen (Open d p) = opens d (seen p)
operation_seen (Next c i) = next c i
operation_seen (Insert t) = insert (seen t)
operation_seen (Delete t) = delete (seen t)
operation_seen (Assertz t) = assertz (seen t)
operation_seen (Asserta t) = asserta (seen t)
operation_seen (DeleteAt c i) = delete_at c i

-- the reply that it is
abbrev pub reply_seen : R.Reply → Reply
reply_seen (Cursor c) = cursor c
reply_seen (Item t) = item (seen t)
reply_seen End = no_item
reply_seen Added = added
reply_seen Present = present
reply_seen Removed = removed
reply_seen Absent = absent
reply_seen Full = full

-- the log that it is
abbrev pub log_seen : List (Op × R.Reply) → Log
log_seen = map (λ e. (operation_seen e.0, reply_seen e.1))

-- the change that it is
abbrev pub change_seen : C.Change → Change
change_seen c = record { what = c.what; term = seen c.term }

-- the changes that they are
abbrev pub changes_seen : List C.Change → List Change
changes_seen = map change_seen
