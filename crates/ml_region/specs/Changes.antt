-- What the calls that change regions do to them. The code moves items between pages and entries in
-- a directory.
use Rattle.std.specs.Prelude.{ℕ, ◌≡◌, Bool, List, ◌++◌, not, slice_index_or, slice_set}
use Rattle.std.specs.List.{filter, insert, remove}
use Rattle.std.specs.List.Sorted.{IsPermutation}
use Rattle.ml_term.specs.Patterns.{begins}
use Rattle.ml_region.specs.Prefixes.{IsPlaceFor, IsOwner, IsParent, IsRising}
use Rattle.ml_region.specs.Regions.{Region, IsFound, items_at, keys_at, keys_of, region_at}
use Rattle.ml_region.specs.Regions.{region_prefixes, with_items}
use Rattle.ml_region.specs.declared.item.Id.{Id}
use Rattle.ml_region.specs.declared.item.Item.{Item}

-- an item came into the region that owns its key, to its place there
pub record IsPut (old : List Region) (item : Item) (new : List Region) : Type 0 where
  pub region : ℕ
  pub owner : IsOwner (region_prefixes old) item.key.bits region
  pub place : ℕ
  pub fits : IsPlaceFor (keys_at old region) item.key.bits place
  pub same : new ≡ with_items old region (insert (items_at old region) place item)

-- the item that has a key went
pub record IsTaken (old : List Region) (key : List Bool) (item : Item)
    (new : List Region) : Type 0 where
  pub found : IsFound old key item
  pub same : new ≡ with_items old found.region (remove (items_at old found.region) found.place)

-- an item with another mark and another origin
abbrev pub with_mark : Item → Bool → Id → Item
with_mark item committed id = record item { committed = committed; id = id }

-- the item at a place of a list got this mark and this origin
pub record IsMarkedAt (old : List Item) (place : ℕ) (committed : Bool) (id : Id)
    (new : List Item) : Type 0 where
  pub item : Item
  pub there : item ≡ slice_index_or old place item
  pub same : new ≡ slice_set old place (with_mark item committed id)

-- the item that has a key got this mark and this origin
pub record IsMarked (old : List Region) (key : List Bool) (committed : Bool) (id : Id)
    (new : List Region) : Type 0 where
  pub item : Item
  pub found : IsFound old key item
  pub same : new ≡ with_items old found.region
      (slice_set (items_at old found.region) found.place (with_mark item committed id))

-- the items whose keys begin with a prefix
abbrev pub items_below : List Bool → List Item → List Item
items_below prefix items = filter (λ (x : Item). begins prefix x.key.bits) items

-- the others
abbrev pub items_beside : List Bool → List Item → List Item
items_beside prefix items = filter (λ (x : Item). not (begins prefix x.key.bits)) items

-- a prefix became a region, and the items of a region that begin with it moved to it
pub record IsCut (old : List Region) (i : ℕ) (prefix : List Bool) (new : List Region) : Type 0 where
  pub place : ℕ
  pub fits : IsPlaceFor (region_prefixes old) prefix place
  pub same : new ≡ insert (with_items old i (items_beside prefix (items_at old i))) place
      (record { prefix = prefix; items = items_below prefix (items_at old i) })

-- a region is no more, and its items are those of its parent too, which has them all in key order
pub record IsMerged (old : List Region) (i : ℕ) (new : List Region) : Type 0 where
  pub parent : ℕ
  pub is_parent : IsParent (region_prefixes old) (region_at old i).prefix parent
  pub items : List Item
  pub all : IsPermutation (items_at old parent ++ items_at old i) items
  pub rising : IsRising (keys_of items)
  pub same : new ≡ remove (with_items old parent items) i

-- a region went into its parent, and then the parent was cut at a prefix
pub record IsRecut (old : List Region) (i : ℕ) (prefix : List Bool)
    (new : List Region) : Type 0 where
  pub middle : List Region
  pub merged : IsMerged old i middle
  pub cut : IsCut middle merged.parent prefix new
