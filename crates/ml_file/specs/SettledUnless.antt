-- When a file is settled but for regions that are held. A thin region goes into its parent only
-- where neither of the two is held. The code asks a closure, whose answers a function tells.
use Rattle.std.specs.Prelude.{ℕ, ◌<◌, ◌≡◌, Bool, true, false, List, length}
use Rattle.std.specs.Borrow.{Bor}
use Rattle.std.specs.Fn.{FnReturnsAt, Shared}
use Rattle.ml_bits.specs.BitList.{BitList}
use Rattle.ml_region.specs.Prefixes.{IsParent}
use Rattle.ml_region.specs.Regions.{Region, region_at, region_prefixes}
use Rattle.ml_split.specs.RegionSplits.{IsSettled, is_thin}

-- a closure answers what a function says of a prefix, whatever its room
abbrev pub Answers : {F : Type 0} → Shared F (Bor BitList × Unit {0}) Bool → F →
    (List Bool → Bool) → Type 0
Answers calls held h = (prefix : BitList) (answer : Bool) →
    FnReturnsAt calls held prefix answer → answer ≡ h prefix.bits

-- a thin region, of which neither the prefix nor that of its parent is held
pub record IsFreeThin (h : List Bool → Bool) (regions : List Region) (i : ℕ) : Type 0 where
  pub within : i < length regions
  pub thin : is_thin (region_at regions i) ≡ true
  pub free : h (region_at regions i).prefix ≡ false
  pub parent : (p : ℕ) → IsParent (region_prefixes regions) (region_at regions i).prefix p →
      h (region_at regions p).prefix ≡ false

-- no such region is there
abbrev pub HasNoFreeThin : (List Bool → Bool) → List Region → Type 0
HasNoFreeThin h regions = (i : ℕ) → IsFreeThin h regions i → ⊥

-- the first such region in the order of prefixes
pub record IsFirstFreeThin (h : List Bool → Bool) (regions : List Region) (i : ℕ) : Type 0 where
  pub free : IsFreeThin h regions i
  pub first : (k : ℕ) → k < i → IsFreeThin h regions k → ⊥

-- a file was settled but for what is held: as long as there is such a region, the first one goes
-- into its parent
pub data IsSettledUnless (h : List Bool → Bool) : List Region → List Region → Type 0 where
  rests : {regions : List Region} → HasNoFreeThin h regions → IsSettledUnless h regions regions
  goes_on : {old new : List Region} (middle : List Region) (i : ℕ) → IsFirstFreeThin h old i →
      IsSettled old i middle → IsSettledUnless h middle new
      → IsSettledUnless h old new
