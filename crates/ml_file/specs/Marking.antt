-- What a mark does to the items of a file. The code finds the item by its key in one region, and
-- writes into its slot.
use Rattle.std.specs.Prelude.{◌≡◌, ◌≢◌, ◌⊎◌, ◌↔◌, Bool, List, Contains}
use Rattle.ml_file.specs.Files.{items_in, IsHeld}
use Rattle.ml_region.specs.Changes.{with_mark}
use Rattle.ml_region.specs.Regions.{Region, region_prefixes}
use Rattle.ml_region.specs.declared.item.Id.{Id}
use Rattle.ml_region.specs.declared.item.Item.{Item}

-- the item that had a key got this mark and this origin; all items with other keys stay, and so do
-- the regions' prefixes
pub record HasMark (old : List Region) (key : List Bool) (committed : Bool) (id : Id)
    (new : List Region) : Type 0 where
  pub item : Item
  pub held : IsHeld old key item
  pub items : (x : Item) → Contains (items_in new) x
      ↔ ((Contains (items_in old) x × (x.key.bits ≢ key)) ⊎ (x ≡ with_mark item committed id))
  pub prefixes : region_prefixes new ≡ region_prefixes old
