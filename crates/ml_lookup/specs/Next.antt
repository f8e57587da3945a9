-- The next item that a pattern meets, in the order of keys, which for a relation is that of its
-- list. The code climbs from the home of the key behind which it looks, and then goes from one
-- region to the next.
use Rattle.std.specs.Prelude.{◌≡◌, ◌≢◌, Bool, IsTrue, List, Contains, Option, Some, None}
use Rattle.std.specs.Prelude.{MatchOption}
use Rattle.std.specs.Borrow.{Bor}
use Rattle.std.specs.declared.cmp.Ordering.TheVariants.{Less}
use Rattle.ml_bits.specs.BitList.{BitList}
use Rattle.ml_file.specs.Hits.{is_hit}
use Rattle.ml_region.specs.declared.item.Item.{Item}
use Rattle.ml_term.specs.Keys.{key_cmp}
use Rattle.ml_term.specs.Seen.{seen}
use Rattle.ml_term.specs.Tree.{Tree}
use Rattle.ml_term.specs.declared.declaration.Kind.{Kind}

-- a key comes behind another one, if one is given
abbrev pub IsBehind : Option BitList → List Bool → Type 0
IsBehind None key = Unit {0}
IsBehind (Some after) key = key_cmp after.bits key ≡ Less

-- a pattern meets an item, which comes behind a key
pub record IsMet (kind : Kind) (pattern : Tree) (after : Option BitList) (item : Item) : Type 0
  where
    pub behind : IsBehind after item.key.bits
    pub hit : IsTrue (is_hit kind pattern (seen item.term))

-- no item of some is one
abbrev pub HasNoneMet : Kind → Tree → Option BitList → List Item → Type 0
HasNoneMet kind pattern after items = (x : Item) → Contains items x →
    IsMet kind pattern after x → ⊥

-- the first of some items that is one
pub record IsNextMet (kind : Kind) (pattern : Tree) (after : Option BitList) (items : List Item)
    (item : Item) : Type 0 where
  pub inside : Contains items item
  pub met : IsMet kind pattern after item
  pub first : (x : Item) → Contains items x → IsMet kind pattern after x →
      key_cmp x.key.bits item.key.bits ≢ Less

-- the first one was found, or none where there is none
abbrev pub IsNextIn : Kind → Tree → Option BitList → List Item → Option (Bor Item) → Type 0
IsNextIn kind pattern after items found = MatchOption found (HasNoneMet kind pattern after items)
    (λ (x : Bor Item). IsNextMet kind pattern after items x.now)
