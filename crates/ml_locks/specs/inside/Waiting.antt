-- Who is in the way in one file.
use Rattle.std.specs.Prelude.{◌≡◌, if◌then◌else◌, ℕ, Bool, true, [], slice_index_or, ◌==◌, ◌&&◌, not, List, Option, Some, None, min}
use Rattle.std.specs.Cmp.Lexicographic.{slice_cmp}
use Rattle.std.specs.Ordering.{bool_cmp, is_lt}
use Rattle.ml_desk.specs.declared.mode.Mode.{Mode}
use Rattle.ml_locks.specs.Changes.{is_needed, stronger}
use Rattle.ml_locks.specs.Modes.{FileModes, held_in}
use Rattle.ml_locks.specs.Requests.{excludes}
use Rattle.ml_locks.specs.declared.asked.Asked.{Asked}
use Rattle.ml_locks.specs.declared.asked.Asked.TheVariants.{Granted, Wait, Died, OutOfMemory}

-- whether a session is another one whose mode excludes the one that is asked for
abbrev pub stands_in_way : ℕ → Mode → Option Mode → ℕ → Bool
stands_in_way asker mode held holder = not (holder == asker) && excludes held mode

-- a session holds some regions of a file, each in the stronger of two modes
abbrev pub IsGrantedIn : FileModes → ℕ → List (List Bool) → Mode → FileModes → Type 0
IsGrantedIn old asker prefixes mode new = (s : ℕ) (u : List Bool) → held_in new s u ≡
    (if (s == asker) && is_needed prefixes u then Some (stronger mode (held_in old s u))
    else held_in old s u)

-- what an answer leaves of the locks of one file
abbrev pub LeavesIn : FileModes → ℕ → List (List Bool) → Mode → Asked → FileModes → Type 0
LeavesIn old asker prefixes mode Granted new = IsGrantedIn old asker prefixes mode new
LeavesIn old asker prefixes mode (Wait holder) new = new ≡ old
LeavesIn old asker prefixes mode (Died death) new = new ≡ old
LeavesIn old asker prefixes mode OutOfMemory new = new ≡ old

-- the older of two sessions, where there may be none
abbrev pub older : Option ℕ → Option ℕ → Option ℕ
older None second = second
older (Some first) None = Some first
older (Some first) (Some second) = Some (min first second)

-- whether the prefix at a place comes before the one at another place, if there is another one
abbrev pub is_first : List (List Bool) → ℕ → Option ℕ → Bool
is_first prefixes i None = true
is_first prefixes i (Some j) =
    is_lt (slice_cmp bool_cmp (slice_index_or prefixes i []) (slice_index_or prefixes j []))
