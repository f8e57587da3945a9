-- What a shelf holds: byte texts under names, and what its calls say of them.
use Rattle.std.specs.Prelude.{◌≡◌, ◌≢◌, ◌<◌, ◌≤◌, ℕ, List, length, IsSomeAnd, Vec}
use Rattle.std.specs.Prelude.{Result, Ok, Err, Option, Some, None}
use Rattle.std.specs.Ordering.{nat_cmp}
use Rattle.std.specs.Cmp.Lexicographic.{slice_cmp}
use Rattle.std.specs.FinMap as map
use Rattle.std.specs.declared.alloc.Global.{Global}
use Rattle.ml_outside.specs.declared.shelf.FetchStop.{FetchStop}
use Rattle.ml_outside.specs.declared.shelf.FetchStop.TheVariants.{Absent, TooLong, Failed}
use Rattle.ml_outside.specs.declared.shelf.FetchStop.TheVariants.{OutOfMemory}

-- a finite map from names to bytes
abbrev pub Files : Type 0
Files = map.FinMap (slice_cmp nat_cmp) (List ℕ)

-- What a fetch may answer where this stands under the name. But for a fault and want of memory:
-- the bytes exactly where they are within the limit, `TooLong` exactly where they are more, and
-- `Absent` exactly where there are none.
abbrev pub Finds : Option (List ℕ) → ℕ → Result (Vec ℕ Global) FetchStop → Type 0
Finds found limit (Ok bytes) = (found ≡ Some bytes.items) × (length bytes.items ≤ limit)
Finds found limit (Err Absent) = found ≡ None
Finds found limit (Err TooLong) = IsSomeAnd found (λ bytes. limit < length bytes)
Finds found limit (Err Failed) = Unit {0}
Finds found limit (Err OutOfMemory) = Unit {0}

-- all names but this one stand for what they stood for, and a shelf that tells still tells
abbrev pub OthersStay : List ℕ → Option Files → Option Files → Type 0
OthersStay name None after = after ≡ None
OthersStay name (Some before) None = ⊥
OthersStay name (Some before) (Some after) =
    (other : List ℕ) → other ≢ name → map.get after other ≡ map.get before other
