-- What an item that comes does to a file. The code looks for the item's key first, makes room for
-- it in all prefixes, and keeps no list of all items.
use Rattle.std.specs.Prelude.{ℕ, ◌<◌, ◌≤◌, ◌≡◌, ◌≢◌, IsTrue, Bool, List, length}
use Rattle.std.specs.List.{All}
use Rattle.ml_key.specs.ItemKeys.{item_key}
use Rattle.ml_region.specs.Prefixes.{IsOwner}
use Rattle.ml_region.specs.Limits.{max_region_items}
use Rattle.ml_region.specs.Regions.{Region, items_at, region_prefixes}
use Rattle.ml_region.specs.Changes.{IsPut}
use Rattle.ml_region.specs.declared.item.Item.{Item}
use Rattle.ml_search.specs.Db.{is_allowed}
use Rattle.ml_split.specs.RegionSplits.{IsSplitFor}
use Rattle.ml_term.specs.Seen.{seen}
use Rattle.ml_term.specs.declared.declaration.Decl.{Decl}
use Rattle.ml_term.specs.declared.declaration.Kind.TheVariants.{Clauses}
use Rattle.ml_file.specs.PlainList.{IsWith}
use Rattle.ml_file.specs.Files.{items_in, IsAbsent, IsHeld}
use Rattle.ml_file.specs.declared.file.put.Put.{Put}
use Rattle.ml_file.specs.declared.file.put.Put.TheVariants.{Added, Present}

-- an item that a file may be given: the declaration's list may have its term, its key is that of
-- its term and number, and no clause has its number yet
pub record MayCome (decl : Decl) (regions : List Region) (item : Item) : Type 0 where
  pub allowed : IsTrue (is_allowed decl (seen item.term))
  pub keyed : item.key.bits ≡ item_key decl.kind decl.keys (seen item.term) item.number
  pub numbered : decl.kind ≡ Clauses → All (λ (x : Item). x.number ≢ item.number) (items_in regions)

-- an item came into the region that owns its key; if that had 24 items it was first split by the
-- rule, for its keys and the new one
pub data HasGrown (old : List Region) (item : Item) (new : List Region) : Type 0 where
  has_place : (i : ℕ) → IsOwner (region_prefixes old) item.key.bits i →
      length (items_at old i) < max_region_items → IsPut old item new → HasGrown old item new
  splits_first : (i : ℕ) (middle : List Region) → IsOwner (region_prefixes old) item.key.bits i →
      max_region_items ≤ length (items_at old i)
      → IsSplitFor old i item.key.bits middle → IsPut middle item new → HasGrown old item new

-- no item had the key, and the file has one item more
pub record IsAdded (old : List Region) (item : Item) (new : List Region) : Type 0 where
  pub absent : IsAbsent old item.key.bits
  pub more : IsWith (items_in old) item (items_in new)
  pub grown : HasGrown old item new

-- an item had the key already, and nothing changed
pub record IsPresent (old : List Region) (key : List Bool) (new : List Region) : Type 0 where
  pub item : Item
  pub held : IsHeld old key item
  pub same : new ≡ old

-- what a file did with an item that came
abbrev pub IsPutAs : Put → List Region → Item → List Region → Type 0
IsPutAs Added old item new = IsAdded old item new
IsPutAs Present old item new = IsPresent old item.key.bits new
