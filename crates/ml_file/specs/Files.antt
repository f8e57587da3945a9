-- What contracts see of a file, and what every file keeps. A file's items are the set of those of
-- all its regions; in which region an item lies is told by the regions alone.
use Rattle.std.specs.Prelude.{ℕ, ◌^◌, ◌<◌, ◌≤◌, ◌≡◌, ◌≢◌, Bool, IsTrue, List, length, Contains}
use Rattle.std.specs.List.{All, flat_map}
use Rattle.ml_file.specs.PlainList.{IsWith}
use Rattle.ml_key.specs.ItemKeys.{item_key}
use Rattle.ml_region.specs.Limits.{max_region_items}
use Rattle.ml_region.specs.Regions.{AreWithin, Region, items_at, region_prefixes}
use Rattle.ml_region.specs.declared.item.Item.{Item}
use Rattle.ml_search.specs.Db.{is_allowed}
use Rattle.ml_term.specs.Seen.{seen}
use Rattle.ml_term.specs.declared.declaration.Decl.{Decl}
use Rattle.ml_term.specs.declared.declaration.Kind.TheVariants.{Clauses}

-- a file: its declaration, its regions in the order of their prefixes, the room that every prefix
-- has, and how many inserts added an item
pub record File : Type 0 where
  pub decl : Decl
  pub regions : List Region
  pub room : ℕ
  pub added : ℕ

-- the items of all regions
abbrev pub items_in : List Region → List Item
items_in regions = flat_map (λ (r : Region). r.items) regions

-- no item has the key
abbrev pub IsAbsent : List Region → List Bool → Type 0
IsAbsent regions key = All (λ (x : Item). x.key.bits ≢ key) (items_in regions)

-- the item is there, and has the key
pub record IsHeld (regions : List Region) (key : List Bool) (item : Item) : Type 0 where
  pub inside : Contains (items_in regions) item
  pub key_is : item.key.bits ≡ key

-- what every file keeps, beside that its regions are well placed: no region has over 24 items; each
-- item is a tuple or clause that the declaration's list may have, under the key of its term and
-- number; no two clauses have one number; numbers fit in 64 bits; and each prefix has room for the
-- longest key
pub record IsFile (decl : Decl) (regions : List Region) (room : ℕ) : Type 0 where
  pub few : AreWithin max_region_items regions
  pub allowed : All (λ (x : Item). IsTrue (is_allowed decl (seen x.term))) (items_in regions)
  pub keyed : All (λ (x : Item). x.key.bits ≡ item_key decl.kind decl.keys (seen x.term) x.number)
      (items_in regions)
  pub numbers : decl.kind ≡ Clauses → (x y : Item) → Contains (items_in regions) x →
      Contains (items_in regions) y → x.number ≡ y.number → x ≡ y
  pub fit : All (λ (x : Item). x.number < 2 ^ 64) (items_in regions)
  pub roomy : All (λ (x : Item). length x.key.bits ≤ room) (items_in regions)

-- the item that had a key is no more, and no other item has that key; all else stays, and so do the
-- regions' prefixes
pub record IsRemoved (old : List Region) (key : List Bool) (new : List Region) : Type 0 where
  pub item : Item
  pub held : IsHeld old key item
  pub left : IsWith (items_in new) item (items_in old)
  pub gone : IsAbsent new key
  pub prefixes : region_prefixes new ≡ region_prefixes old
