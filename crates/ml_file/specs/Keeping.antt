-- What it does to a file that an item is kept: the entry at a place of the history commits it.
use Rattle.std.specs.Prelude.{ℕ, Bool, true, List}
use Rattle.ml_region.specs.Keeping.{kept_id}
use Rattle.ml_region.specs.Regions.{Region}
use Rattle.ml_region.specs.declared.item.Item.{Item}
use Rattle.ml_file.specs.Files.{IsHeld}
use Rattle.ml_file.specs.Marking.{HasMark}

-- the item that had a key is committed by the entry at a place, and its change is the same; all
-- else stays
pub record HasKept (old : List Region) (key : List Bool) (place : ℕ)
    (new : List Region) : Type 0 where
  pub item : Item
  pub held : IsHeld old key item
  pub mark : HasMark old key true (kept_id item place) new
