-- How a directory and pages hold the regions of a file.
use Rattle.std.specs.Prelude.{ℕ, ◌+◌, ◌<◌, ◌≤◌, ◌≡◌, ◌==◌, ◌≢◌, Bool, List, [], length, map}
use Rattle.std.specs.Prelude.{if◌then◌else◌}
use Rattle.std.specs.Prelude.{nat_lt, slice_index_or}
use Rattle.std.specs.List.{count_by}
use Rattle.std.specs.declared.cmp.Ordering.TheVariants.{Less}
use Rattle.ml_term.specs.Keys.{key_cmp}
use Rattle.ml_region.specs.Listing.{Entry}
use Rattle.ml_region.specs.Prefixes.{bits_at}
use Rattle.ml_region.specs.Regions.{Region, IsWellPlaced}
use Rattle.ml_region.specs.declared.item.Item.{Item}

-- the page with a slot
abbrev pub page_at : List (List Item) → ℕ → List Item
page_at pages slot = slice_index_or pages slot []

-- the region of an entry
abbrev pub region_of : List (List Item) → Entry → Region
region_of pages entry = record { prefix = entry.prefix; items = page_at pages entry.slot }

-- the regions of a directory's entries
abbrev pub regions_of : List Entry → List (List Item) → List Region
regions_of entries pages = map (region_of pages) entries

-- how often a slot is used
abbrev pub use_count : ℕ → List Entry → ℕ
use_count slot entries = count_by (λ (e : Entry). e.slot == slot) entries

-- how often it is free
abbrev pub free_count : ℕ → List ℕ → ℕ
free_count slot free = count_by (λ s. s == slot) free

-- each page is of one entry or is free
pub record AreShared (entries : List Entry) (free : List ℕ) (pages : ℕ) : Type 0 where
  pub once : (slot : ℕ) → use_count slot entries + free_count slot free
      ≡ (if nat_lt slot pages then 1 else 0)
  pub all : length entries + length free ≡ pages

-- a directory, pages and free slots hold the regions of a file, and all slots can be free at once
-- without more memory
pub record IsStored (entries : List Entry) (pages : List (List Item)) (free : List ℕ)
    (reserved : ℕ) : Type 0 where
  pub shared : AreShared entries free (length pages)
  pub room : length pages ≤ reserved
  pub placed : IsWellPlaced (regions_of entries pages)

-- the place of the first of some rising lists that does not come before a key
pub record IsFirstFrom (lists : List (List Bool)) (key : List Bool) (place : ℕ) : Type 0 where
  pub within : place ≤ length lists
  pub below : (i : ℕ) → i < place → key_cmp (bits_at lists i) key ≡ Less
  pub from : (i : ℕ) → place ≤ i → i < length lists → key_cmp (bits_at lists i) key ≢ Less
