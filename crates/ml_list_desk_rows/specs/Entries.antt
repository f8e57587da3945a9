-- What one entry of a log tells of cursors.
use Rattle.std.specs.Prelude.{◌==◌, ◌&&◌, ℕ, Bool, false, Option, Some, None}
use Rattle.ml_search.specs.declared.operation.Op.{Op}
use Rattle.ml_search.specs.declared.operation.Op.TheVariants.{Open, Next}
use Rattle.ml_search.specs.declared.operation.Reply.{Reply}
use Rattle.ml_search.specs.declared.operation.Reply.TheVariants.{Item}

-- the number of the list over which it opens a cursor, if it opens one
abbrev pub list_opened : Op × Reply → Option ℕ
list_opened (Open d p, r) = Some d
list_opened (o, r) = None

-- whether a cursor gave an item
abbrev pub gave : ℕ → Op × Reply → Bool
gave c (Next k n, Item t) = k == c
gave c (o, r) = false

-- whether a cursor gave the item with a number
abbrev pub gave_numbered : ℕ → ℕ → Op × Reply → Bool
gave_numbered c i (Next k n, Item t) = (k == c) && (n == i)
gave_numbered c i (o, r) = false
