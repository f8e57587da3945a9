-- How the holders of the units of one file are kept.
use Rattle.std.specs.Prelude.{ℕ, Bool, ◌==◌, List, [], ◌∷◌, map, Option, Some, None}
use Rattle.std.specs.Prelude.{if◌then◌else◌}
use Rattle.std.specs.List.{flat_map, list_any}
use Rattle.std.specs.FinMap as fin
use Rattle.ml_bits.specs.BitList.{BitList}
use Rattle.ml_desk.specs.declared.mode.Mode.{Mode}
use Rattle.ml_desk.specs.declared.mode.Mode.TheVariants.{S}
use Rattle.ml_locks.specs.Modes.{FileModes}
use Rattle.ml_locks.specs.declared.holders.Holders.{Holders}
use Rattle.ml_locks.specs.declared.holders.Holders.TheVariants.{Nobody, One, Readers}

-- the mode in which a session is among the holders of a unit, if it is
abbrev pub holder_mode : Holders → ℕ → Option Mode
holder_mode Nobody session = None
holder_mode (One holder mode) session = if holder == session then Some mode else None
holder_mode (Readers sessions) session =
    if list_any (λ holder. holder == session) sessions.items then Some S else None

-- the holders of a unit, each with the unit's prefix and its mode
abbrev pub held_slots : List Bool → Holders → List ((List Bool × ℕ) × Mode)
held_slots prefix Nobody = []
held_slots prefix (One holder mode) = ((prefix, holder), mode) ∷ []
held_slots prefix (Readers sessions) = map (λ holder. ((prefix, holder), S)) sessions.items

abbrev pub entry_slots : BitList × Holders → List ((List Bool × ℕ) × Mode)
entry_slots entry = held_slots entry.0.bits entry.1

-- the locks that the entries of one file stand for
abbrev pub file_modes : List (BitList × Holders) → FileModes
file_modes entries = fin.from_entries (flat_map entry_slots entries)
