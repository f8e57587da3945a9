-- What a shelf in memory holds, from the entries of its map.
use Rattle.std.specs.Prelude.{ℕ, List, map, String, Vec}
use Rattle.std.specs.FinMap as files
use Rattle.std.specs.String.{string_bytes}
use Rattle.std.specs.declared.alloc.Global.{Global}
use Rattle.ml_outside.specs.Held.{Files}

-- an entry by its bytes
abbrev pub entry_bytes : String Global × Vec ℕ Global → List ℕ × List ℕ
entry_bytes entry = (string_bytes entry.0, entry.1.items)

-- the entries as a finite map
abbrev pub files_of : List (String Global × Vec ℕ Global) → Files
files_of entries = files.from_entries (map entry_bytes entries)
