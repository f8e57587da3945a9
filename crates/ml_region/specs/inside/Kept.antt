-- How a sorted vector holds a directory. It is said of its elements as a list; the code looks at
-- them through the vector.
use Rattle.std.specs.Prelude.{ℕ, ◌≤◌, List, map}
use Rattle.std.specs.List.{All}
use Rattle.ml_region.specs.Listing.{Entry, IsListing}
use Rattle.ml_region.specs.declared.kept.Kept.{Kept}

-- the entries that some elements stand for
abbrev pub kept_entries : List Kept → List Entry
kept_entries kept = map (λ (k : Kept). record { prefix = k.prefix.bits; slot = k.slot }) kept

-- each prefix has room for so many bits
abbrev pub HaveRoom : ℕ → List Kept → Type 0
HaveRoom room kept = All (λ (k : Kept). room ≤ k.prefix.room) kept

-- the elements stand for a directory whose prefixes have this room
pub record IsKept (kept : List Kept) (room : ℕ) : Type 0 where
  pub listing : IsListing (kept_entries kept)
  pub rooms : HaveRoom room kept
