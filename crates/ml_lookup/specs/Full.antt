-- When a put splits a region, and at which prefix. The code finds the owner of the key, and asks
-- the rule of a split for it.
use Rattle.std.specs.Prelude.{ℕ, ◌≤◌, Bool, List, [], ◌∷◌, ◌++◌, length}
use Rattle.ml_region.specs.Limits.{max_region_items}
use Rattle.ml_region.specs.Prefixes.{IsOwner}
use Rattle.ml_region.specs.Regions.{Region, items_at, keys_at, region_at, region_prefixes}
use Rattle.ml_split.specs.Splitting.{IsSplit}

-- the region that owns a key has as many items as a region may have
pub record IsFull (regions : List Region) (key : List Bool) : Type 0 where
  pub region : ℕ
  pub owner : IsOwner (region_prefixes regions) key region
  pub full : max_region_items ≤ length (items_at regions region)

-- the region that owns a key is full, and the rule splits its keys and this one at a prefix
pub record WouldSplit (regions : List Region) (key prefix : List Bool) : Type 0 where
  pub region : ℕ
  pub owner : IsOwner (region_prefixes regions) key region
  pub full : max_region_items ≤ length (items_at regions region)
  pub split : IsSplit (keys_at regions region ++ key ∷ []) (region_at regions region).prefix prefix
