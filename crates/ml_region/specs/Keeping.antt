-- What it does to regions that an item is kept. The code writes into the item's slot.
use Rattle.std.specs.Prelude.{ℕ, Bool, true, List}
use Rattle.ml_region.specs.Changes.{IsMarked}
use Rattle.ml_region.specs.Regions.{Region, IsFound}
use Rattle.ml_region.specs.declared.item.Id.{Id}
use Rattle.ml_region.specs.declared.item.Item.{Item}

-- an item's origin where the entry at a place committed it: its change is the same
abbrev pub kept_id : Item → ℕ → Id
kept_id item place = record { place = place; change = item.id.change }

-- the item that has a key is committed by the entry at a place
pub record IsCommittedAt (old : List Region) (key : List Bool) (place : ℕ)
    (new : List Region) : Type 0 where
  pub item : Item
  pub found : IsFound old key item
  pub marked : IsMarked old key true (kept_id item place) new
