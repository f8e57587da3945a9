-- The changes that a log tells of. The code goes through a log once; here what a cursor gave is
-- found in the whole log.
use Rattle.std.specs.Prelude.{Bool, true, false, List, Option, Some, None, unwrap_or}
use Rattle.std.specs.List.{filter_map}
use Rattle.ml_search.specs.declared.change.What.TheVariants.{Put, Taken, First, Last, Dropped}
use Rattle.ml_search.specs.Program.{true_body}
use Rattle.ml_search.specs.Changes.{Change}
use Rattle.ml_search.specs.Operations.{Operation, opens, next, insert, delete, assertz, asserta}
use Rattle.ml_search.specs.Operations.{delete_at, Reply, added, removed, Log, item_given}

-- whether a reply says that a list changed
abbrev pub is_change : Reply → Bool
is_change added = true
is_change removed = true
is_change r = false

-- The change that an operation is, where it changed a list. What a cursor's item was is found in
-- the log.
abbrev pub operation_change : Log → Operation → Option Change
operation_change l (opens d p) = None
operation_change l (next c i) = None
operation_change l (insert t) = Some (record { what = Put; term = t })
operation_change l (delete t) = Some (record { what = Taken; term = t })
operation_change l (asserta t) = Some (record { what = First; term = t })
operation_change l (assertz t) = Some (record { what = Last; term = t })
operation_change l (delete_at c i) =
    Some (record { what = Dropped; term = unwrap_or (item_given l c i) true_body })

-- a change, if a test holds
abbrev pub change_if : Bool → Option Change → Option Change
change_if false c = None
change_if true c = c

-- a change for each operation that was answered by `added` or `removed`, in order
abbrev pub log_changes : Log → List Change
log_changes l = filter_map (λ e. change_if (is_change e.1) (operation_change l e.0)) l
