-- What the files of a store hold. The code puts items into files one after another; the lists of
-- the first db are made of all items at once.
use Rattle.std.specs.Prelude.{ℕ, ◌+◌, ◌≡◌, ◌≢◌, ◌≤◌, ◌↔◌, true, false, Some, List, [], ◌∷◌, length}
use Rattle.std.specs.Prelude.{map, slice_get, Contains}
use Rattle.std.specs.List.{All, AllPairs}
use Rattle.ml_key.specs.ItemKeys.{item_key}
use Rattle.ml_region.specs.Regions.{empty_region}
use Rattle.ml_region.specs.declared.item.Item.{Item}
use Rattle.ml_search.specs.Db.{Item as ListItem, at, terms, items as list_at}
use Rattle.ml_search.specs.Loading.{first_db, terms_for}
use Rattle.ml_term.specs.Seen.{seen}
use Rattle.ml_term.specs.Tree.{Tree}
use Rattle.ml_term.specs.declared.declaration.Decl.{Decl}
use Rattle.ml_term.specs.declared.declaration.Kind.{Kind}
use Rattle.ml_term.specs.declared.declaration.Kind.TheVariants.{Relation, Clauses}
use Rattle.ml_file.specs.Files.{File, items_in}
use Rattle.ml_file.specs.PlainList.{IsListOf}
use Rattle.ml_file.specs.Settled.{AreSettled}

-- ---- a store

-- an item that was loaded: committed, not front, with place 0; a clause's storage number is its
-- change
pub record IsLoadedItem (kind : Kind) (x : Item) : Type 0 where
  pub committed : x.committed ≡ true
  pub front : x.front ≡ false
  pub place : x.id.place ≡ 0
  pub numbered : kind ≡ Clauses → x.number ≡ x.id.change

-- the terms of a file's items
abbrev pub terms_in : List Item → List Tree
terms_in items = map (λ (x : Item). seen x.term) items

-- what a file's item stands for in a list of the store
abbrev pub list_item_of : Item → ListItem
list_item_of x = record {
  id = record { place = at x.id.place; change = x.id.change };
  term =
      seen x.term;
}

-- whether a file's items in their order are those of a list; of tuples the terms alone are told,
-- since nothing compares their ids
abbrev pub AreListed : Kind → List Item → List ListItem → Type 0
AreListed Relation items list = terms_in items ≡ terms list
AreListed Clauses items list = map list_item_of items ≡ list

-- a settled file of a declaration that was loaded with a list: its plain list is that list, and
-- each of its items was added by an insert
pub record IsLoadedFile (decl : Decl) (list : List ListItem) (file : File) : Type 0 where
  pub declared : file.decl ≡ decl
  pub items : List Item
  pub plain : IsListOf decl.kind (items_in file.regions) items
  pub same : AreListed decl.kind items list
  pub loaded : All (IsLoadedItem decl.kind) items
  pub counted : file.added ≡ length items
  pub settled : AreSettled file.regions

-- the files of a store hold the lists of the first db: there is one for each declaration, in their
-- order
pub record IsLoaded (decls : List Decl) (entries : List (ℕ × Tree))
    (files : List File) : Type 0 where
  pub count : length files ≡ length decls
  pub each : (d : ℕ) (decl : Decl) (file : File) → slice_get decls d ≡ Some decl →
      slice_get files d ≡ Some file
      → IsLoadedFile decl (list_at (first_db decls entries) d) file

-- ---- files that are being loaded

-- a declaration's file without items
abbrev pub empty_file : Decl → File
empty_file decl = record { decl = decl; regions = empty_region ∷ []; room = 0; added = 0 }

-- the item that a load adds as the n-th of a file, from 0
pub record IsNthItem (decl : Decl) (n : ℕ) (x : Item) : Type 0 where
  pub committed : x.committed ≡ true
  pub front : x.front ≡ false
  pub place : x.id.place ≡ 0
  pub change : x.id.change ≡ n
  pub number : x.number ≡ n
  pub keyed : x.key.bits ≡ item_key decl.kind decl.keys (seen x.term) x.number

-- the items that a load adds one after another, from the n-th on
abbrev pub AreFrom : Decl → ℕ → List Item → Type 0
AreFrom decl n [] = Unit {0}
AreFrom decl n (x ∷ xs) = IsNthItem decl n x × AreFrom decl (1 + n) xs

-- whether items have the terms that came: of clauses each in its turn, of tuples each once
abbrev pub HaveTerms : Kind → List Item → List Tree → Type 0
HaveTerms Relation items ts = AllPairs (λ (a : Item) (b : Item). seen a.term ≢ seen b.term) items
    × ((t : Tree) → Contains (terms_in items) t ↔ Contains ts t)
HaveTerms Clauses items ts = terms_in items ≡ ts

-- a file of a declaration to which terms came one after another, with the items that it added, in
-- their turn
pub record HasTaken (decl : Decl) (ts : List Tree) (file : File) : Type 0 where
  pub declared : file.decl ≡ decl
  pub came : List Item
  pub inside : (x : Item) → Contains (items_in file.regions) x ↔ Contains came x
  pub each : AreFrom decl 0 came
  pub have : HaveTerms decl.kind came ts
  pub counted : file.added ≡ length came
  pub few : length came ≤ length ts

-- each declaration's file has taken the terms of its items
pub record HaveTaken (decls : List Decl) (entries : List (ℕ × Tree))
    (files : List File) : Type 0 where
  pub count : length files ≡ length decls
  pub each : (d : ℕ) (decl : Decl) (file : File) → slice_get decls d ≡ Some decl →
      slice_get files d ≡ Some file → HasTaken decl (terms_for d entries) file
