-- The meaning of a file's regions: a finite map from prefixes to lists of items, as a list in the
-- order of the prefixes. The code has pages and a directory.
use Rattle.std.specs.Prelude.{ℕ, ◌<◌, ◌≤◌, ◌≡◌, Bool, List, [], length, map, slice_index_or}
use Rattle.std.specs.Prelude.{slice_set, take, Contains}
use Rattle.ml_bits.specs.BitList.{Begins}
use Rattle.ml_region.specs.Limits.{page_items}
use Rattle.ml_region.specs.Prefixes.{bits_at, IsRising, IsOwner}
use Rattle.ml_region.specs.declared.item.Item.{Item}

-- the keys of some items
abbrev pub keys_of : List Item → List (List Bool)
keys_of items = map (λ (x : Item). x.key.bits) items

-- a region: its prefix, and its items in key order
pub record Region : Type 0 where
  pub prefix : List Bool
  pub items : List Item

-- the regions of a file in the order of their prefixes, and the room that every prefix has
pub record RegionList : Type 0 where
  pub regions : List Region
  pub room : ℕ

-- the prefixes in their order
abbrev pub region_prefixes : List Region → List (List Bool)
region_prefixes regions = map (λ (r : Region). r.prefix) regions

-- a region of the empty prefix without items
abbrev pub empty_region : Region
empty_region = record { prefix = []; items = [] }

-- the region at a place, from 0
abbrev pub region_at : List Region → ℕ → Region
region_at regions i = slice_index_or regions i empty_region

-- the items of the region at a place
abbrev pub items_at : List Region → ℕ → List Item
items_at regions i = (region_at regions i).items

-- their keys
abbrev pub keys_at : List Region → ℕ → List (List Bool)
keys_at regions i = keys_of (items_at regions i)

-- the first n bits of the key of an item, by the places of its region and of the item there
abbrev pub key_front : List Region → ℕ → ℕ → ℕ → List Bool
key_front regions i j n = take n (bits_at (keys_at regions i) j)

-- no region has more than n items
abbrev pub AreWithin : ℕ → List Region → Type 0
AreWithin n regions = (i : ℕ) → i < length regions → length (items_at regions i) ≤ n

-- the regions where those at a place have these items, and all else stays
abbrev pub with_items : List Region → ℕ → List Item → List Region
with_items regions i items = slice_set regions i
    (record { prefix = (region_at regions i).prefix; items = items })

-- the regions are well placed: the empty prefix is there and comes first; the prefixes rise; the
-- items of a region are in key order, few, and owned by it; and no item's key begins another item's
-- key
pub record IsWellPlaced (regions : List Region) : Type 0 where
  pub some : 0 < length regions
  pub root : (region_at regions 0).prefix ≡ []
  pub rising : IsRising (region_prefixes regions)
  pub ordered : (i : ℕ) → i < length regions → IsRising (keys_at regions i)
  pub few : (i : ℕ) → i < length regions → length (items_at regions i) ≤ page_items
  pub owned : (i : ℕ) (key : List Bool) → i < length regions → Contains (keys_at regions i) key →
      IsOwner (region_prefixes regions) key i
  pub apart : (i j : ℕ) (key other : List Bool) → i < length regions → j < length regions →
      Contains (keys_at regions i) key → Contains (keys_at regions j) other
      → Begins key other → key ≡ other

-- no item's key begins a key or begins with it
abbrev pub IsApart : List Region → List Bool → Type 0
IsApart regions key = (i : ℕ) (other : List Bool) → i < length regions →
    Contains (keys_at regions i) other → (Begins other key → ⊥) × (Begins key other → ⊥)

-- some item has the key
pub record HasKey (regions : List Region) (key : List Bool) : Type 0 where
  pub region : ℕ
  pub within : region < length regions
  pub among : Contains (keys_at regions region) key

-- no item has the key
abbrev pub HasNoKey : List Region → List Bool → Type 0
HasNoKey regions key = (i : ℕ) → i < length regions → Contains (keys_at regions i) key → ⊥

-- an item of the regions has the key, and stands at a place of a region
pub record IsFound (regions : List Region) (key : List Bool) (item : Item) : Type 0 where
  pub region : ℕ
  pub within : region < length regions
  pub place : ℕ
  pub inside : place < length (items_at regions region)
  pub same : slice_index_or (items_at regions region) place item ≡ item
  pub key_is : item.key.bits ≡ key
