-- Which of some prefixes a key is at home in. A home is named by the prefix itself: places in a
-- list move when regions come and go, and prefixes stay. The code names regions by their places.
use Rattle.std.specs.Prelude.{◌<◌, ◌≤◌, ◌≡◌, ◌⊎◌, Bool, List, length, Contains}
use Rattle.ml_bits.specs.BitList.{Begins}

-- the longest of some prefixes that begins a key
pub record IsHome (prefixes : List (List Bool)) (key home : List Bool) : Type 0 where
  pub there : Contains prefixes home
  pub begins : Begins home key
  pub longest : (other : List Bool) → Contains prefixes other → Begins other key →
      length other ≤ length home

-- the longest of some prefixes that begins a prefix and is shorter than it
pub record IsAbove (prefixes : List (List Bool)) (prefix parent : List Bool) : Type 0 where
  pub there : Contains prefixes parent
  pub begins : Begins parent prefix
  pub shorter : length parent < length prefix
  pub longest : (other : List Bool) → Contains prefixes other → Begins other prefix →
      length other < length prefix → length other ≤ length parent

-- one prefix came that wasn't there, and all others stayed
pub record HasCome (old new : List (List Bool)) (prefix : List Bool) : Type 0 where
  pub fresh : Contains old prefix → ⊥
  pub came : Contains new prefix
  pub kept : (other : List Bool) → Contains old other → Contains new other
  pub only : (other : List Bool) → Contains new other → (other ≡ prefix) ⊎ Contains old other

-- a prefix is longer than one that begins it, and begins a key that is at home there
pub record Divides (prefixes : List (List Bool)) (home prefix : List Bool) : Type 0 where
  pub extends : Begins home prefix
  pub longer : length home < length prefix
  pub key : List Bool
  pub at_home : IsHome prefixes key home
  pub begins : Begins prefix key

-- what a settling step does to the prefixes: one went, and its parent stayed; where the items of
-- both were split again, a new one came that divides the parent
pub data HasMoved (old : List (List Bool)) (prefix parent : List Bool)
    (new : List (List Bool)) : Type 0 where
  went : IsAbove old prefix parent → HasCome new old prefix → HasMoved old prefix parent new
  parted : (middle : List (List Bool)) (further : List Bool) → IsAbove old prefix parent →
      HasCome middle old prefix → HasCome middle new further →
      Divides middle parent further → HasMoved old prefix parent new
