-- Items that move from one page to another, as the pages before and after. The code moves one item
-- at a time.
use Rattle.std.specs.Prelude.{ℕ, ◌≡◌, Bool, List, [], ◌∷◌, ◌++◌, slice_index_or, slice_set}
use Rattle.std.specs.List.{remove}
use Rattle.std.specs.List.Sorted.{IsPermutation}
use Rattle.ml_region.specs.Prefixes.{IsRising}
use Rattle.ml_region.specs.Regions.{keys_of}
use Rattle.ml_region.specs.Changes.{items_below, items_beside}
use Rattle.ml_region.specs.inside.Stored.{page_at}
use Rattle.ml_region.specs.declared.item.Item.{Item}

-- the item at a place of one page went to the end of another
pub record IsMoved (old : List (List Item)) (from j to : ℕ) (new : List (List Item)) : Type 0 where
  pub item : Item
  pub there : item ≡ slice_index_or (page_at old from) j item
  pub same : new ≡ slice_set (slice_set old from (remove (page_at old from) j)) to
      (page_at old to ++ item ∷ [])

-- all items of one page went to another, which has them all in key order
pub record IsPoured (old : List (List Item)) (from to : ℕ) (new : List (List Item)) : Type 0 where
  pub items : List Item
  pub all : IsPermutation (page_at old to ++ page_at old from) items
  pub rising : IsRising (keys_of items)
  pub same : new ≡ slice_set (slice_set old from []) to items

-- all items of one page went to another, and those that begin with a prefix came back
pub record IsParted (old : List (List Item)) (from to : ℕ) (prefix : List Bool)
    (new : List (List Item)) : Type 0 where
  pub middle : List (List Item)
  pub poured : IsPoured old from to middle
  pub same : new ≡ slice_set (slice_set middle to (items_beside prefix (page_at middle to))) from
      (items_below prefix (page_at middle to))
