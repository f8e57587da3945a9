-- Which items the search for the next one has looked at.
use Rattle.std.specs.Prelude.{ℕ, ◌<◌, Bool, List, Contains, Option, length}
use Rattle.ml_bits.specs.BitList.{Begins, BitList}
use Rattle.ml_file.specs.Files.{items_in}
use Rattle.ml_lookup.specs.Next.{IsMet}
use Rattle.ml_region.specs.Regions.{Region, items_at, region_at}
use Rattle.ml_region.specs.declared.item.Item.{Item}
use Rattle.ml_term.specs.Tree.{Tree}
use Rattle.ml_term.specs.declared.declaration.Kind.{Kind}

-- some items of a file, among them all of the regions whose prefixes begin a key
pub record HasAbove (regions : List Region) (key : List Bool) (items : List Item) : Type 0 where
  pub part : (x : Item) → Contains items x → Contains (items_in regions) x
  pub above : (k : ℕ) (x : Item) → k < length regions → Begins (region_at regions k).prefix key →
      Contains (items_at regions k) x → Contains items x

-- some items of a file, among them all of the regions in front of a place that a pattern meets
-- behind a key
pub record HasBefore (kind : Kind) (pattern : Tree) (after : Option BitList)
    (regions : List Region) (place : ℕ) (items : List Item) : Type 0 where
  pub part : (x : Item) → Contains items x → Contains (items_in regions) x
  pub before : (k : ℕ) (x : Item) → k < place → k < length regions →
      Contains (items_at regions k) x → IsMet kind pattern after x → Contains items x
