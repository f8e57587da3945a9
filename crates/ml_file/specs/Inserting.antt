-- What an insert puts into a file: a committed item that isn't front, with place 0 and as change
-- the number of inserts that added one before. The code puts the item, and counts afterwards.
use Rattle.std.specs.Prelude.{ℕ, ◌+◌, ◌≡◌, true, false, min}
use Rattle.ml_key.specs.ItemKeys.{item_key}
use Rattle.ml_region.specs.declared.item.Item.{Item}
use Rattle.ml_term.specs.Seen.{seen}
use Rattle.ml_term.specs.declared.term.Term.{Term}
use Rattle.ml_file.specs.Adding.{IsPutAs}
use Rattle.ml_file.specs.Files.{File}
use Rattle.ml_file.specs.declared.file.put.Put.{Put}
use Rattle.ml_file.specs.declared.file.put.Put.TheVariants.{Added, Present}

-- the number of inserts that added an item, after one more; it stands still at its type's end
abbrev pub count_after : Put → ℕ → ℕ
count_after Added n = min (n + 1) 4294967295
count_after Present n = n

-- a term with a storage number was put under its key
pub record IsInserted (put : Put) (old : File) (t : Term) (number : ℕ) (new : File) : Type 0 where
  pub item : Item
  pub term_is : item.term ≡ t
  pub number_is : item.number ≡ number
  pub key_is : item.key.bits ≡ item_key old.decl.kind old.decl.keys (seen t) number
  pub committed : item.committed ≡ true
  pub front : item.front ≡ false
  pub place : item.id.place ≡ 0
  pub change : item.id.change ≡ old.added
  pub done : IsPutAs put old.regions item new.regions
  pub added : new.added ≡ count_after put old.added
