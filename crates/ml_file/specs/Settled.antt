-- When a file is settled, and what settling does: no region but that of the empty prefix has under
-- 8 items. The code looks for the next thin region from the place of the last one on. What a change
-- does to thin regions is said of prefixes, since places move.
use Rattle.std.specs.Prelude.{ℕ, ◌<◌, ◌≡◌, ◌↔◌, Bool, true, false, List, length}
use Rattle.std.specs.Prelude.{Contains}
use Rattle.ml_region.specs.Regions.{Region, region_at}
use Rattle.ml_region.specs.declared.item.Item.{Item}
use Rattle.ml_split.specs.RegionSplits.{IsSettled, is_thin}
use Rattle.ml_file.specs.Files.{items_in}

-- no region is thin
abbrev pub AreSettled : List Region → Type 0
AreSettled regions = (i : ℕ) → i < length regions → is_thin (region_at regions i) ≡ false

-- the items are the same, in whatever regions they lie
pub record HasSameItems (old new : List Region) : Type 0 where
  pub same : (x : Item) → Contains (items_in new) x ↔ Contains (items_in old) x

-- no region in front of a place is thin
abbrev pub AreSettledBefore : List Region → ℕ → Type 0
AreSettledBefore regions place = (k : ℕ) → k < place → is_thin (region_at regions k) ≡ false

-- the first thin region in the order of prefixes
pub record IsFirstThin (regions : List Region) (i : ℕ) : Type 0 where
  pub within : i < length regions
  pub thin : is_thin (region_at regions i) ≡ true
  pub first : AreSettledBefore regions i

-- a file was settled: as long as a region is thin, the first one goes into its parent
pub data IsSettledThrough : List Region → List Region → Type 0 where
  at_rest : {regions : List Region} → AreSettled regions → IsSettledThrough regions regions
  one_more : {old new : List Region} (middle : List Region) (i : ℕ) → IsFirstThin old i →
      IsSettled old i middle → IsSettledThrough middle new
      → IsSettledThrough old new

-- a region of this prefix is there, and is thin
pub record HasThin (regions : List Region) (prefix : List Bool) : Type 0 where
  pub place : ℕ
  pub within : place < length regions
  pub prefix_is : (region_at regions place).prefix ≡ prefix
  pub thin : is_thin (region_at regions place) ≡ true

-- no region was made thin: of each that is thin now, the prefix was that of a thin region before
abbrev pub MakesNoneThin : List Region → List Region → Type 0
MakesNoneThin old new = (i : ℕ) → i < length new → is_thin (region_at new i) ≡ true →
    HasThin old (region_at new i).prefix
