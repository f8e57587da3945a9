-- Which keys are split where a region is split, and which region takes in a key. Here a region goes
-- into its parent and is then cut anew; the code finds the place of the cut first, by counting over
-- the two regions, and reads keys where they lie, with no list of them.
use Rattle.std.specs.Prelude.{ℕ, ◌<◌, ◌≤◌, length, Bool, List, [], ◌∷◌, ◌++◌, Option, Some, None}
use Rattle.std.specs.Prelude.{◌≡◌, ◌≢◌, ◌⊎◌, ◌&&◌, nat_lt}
use Rattle.ml_bits.specs.BitList.{BitList}
use Rattle.ml_region.specs.Changes.{IsCut, IsMerged, IsRecut}
use Rattle.ml_region.specs.Limits.{max_region_items, min_region_items}
use Rattle.ml_region.specs.Prefixes.{IsOwner, IsParent, bits_at}
use Rattle.ml_region.specs.Regions.{Region, IsApart, items_at, key_front, keys_at}
use Rattle.ml_region.specs.Regions.{region_at, region_prefixes}
use Rattle.ml_split.specs.Splitting.{IsFair, IsSplit}

-- some keys, and a further one if there is one
abbrev pub keys_with : List (List Bool) → Option BitList → List (List Bool)
keys_with keys None = keys
keys_with keys (Some key) = keys ++ key.bits ∷ []

-- a key that a region may take in: the region owns it, and no item's key begins it or begins with
-- it
pub record IsNewTo (regions : List Region) (i : ℕ) (key : List Bool) : Type 0 where
  pub owner : IsOwner (region_prefixes regions) key i
  pub apart : IsApart regions key

-- whether a region is thin: it has another prefix than the empty one, and few items
abbrev pub is_thin : Region → Bool
is_thin r = nat_lt 0 (length r.prefix) && nat_lt (length r.items) min_region_items

-- no region but one has more than n items
abbrev pub AreOthersWithin : ℕ → List Region → ℕ → Type 0
AreOthersWithin n regions i = (k : ℕ) → k < length regions → k ≢ i →
    length (items_at regions k) ≤ n

-- one of two places
abbrev pub IsOneOf : ℕ → ℕ → ℕ → Type 0
IsOneOf place first second = (place ≡ first) ⊎ (place ≡ second)

-- a region went into its parent; where over 24 items meet, they are split again at once by the rule
pub data IsSettled (old : List Region) (i : ℕ) (new : List Region) : Type 0 where
  goes_in : (parent : ℕ) → IsParent (region_prefixes old) (region_at old i).prefix parent →
      length (keys_at old i ++ keys_at old parent) ≤ max_region_items
      → IsMerged old i new → IsSettled old i new
  splits_again : (parent : ℕ) (prefix : List Bool) →
      IsParent (region_prefixes old) (region_at old i).prefix parent →
      max_region_items < length (keys_at old i ++ keys_at old parent)
      → IsSplit (keys_at old i ++ keys_at old parent) (region_at old parent).prefix prefix →
      IsFair (keys_at old i ++ keys_at old parent) (region_at old parent).prefix prefix
      → IsRecut old i prefix new → IsSettled old i new

-- Where keys are split at the front of the key of an item, by the places of its region and of the
-- item there: the new prefix is that of the rule for the keys from an old prefix on, which it
-- lengthens, and the split is fair.
pub record IsSplitPlace (regions : List Region) (i j bits : ℕ) (keys : List (List Bool))
    (old : List Bool) : Type 0 where
  pub item : j < length (items_at regions i)
  pub longer : length old < bits
  pub within : bits ≤ length (bits_at (keys_at regions i) j)
  pub split : IsSplit keys old (key_front regions i j bits)
  pub fair : IsFair keys old (key_front regions i j bits)

-- a region was cut at the prefix of the rule for its keys and a further key
pub record IsSplitFor (old : List Region) (i : ℕ) (key : List Bool)
    (new : List Region) : Type 0 where
  pub prefix : List Bool
  pub split : IsSplit (keys_at old i ++ key ∷ []) (region_at old i).prefix prefix
  pub fair : IsFair (keys_at old i ++ key ∷ []) (region_at old i).prefix prefix
  pub cut : IsCut old i prefix new
