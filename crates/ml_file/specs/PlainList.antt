-- The plain list of a file's items, in the order in which they are given. The code has nested
-- pages, and sorts clauses where they are asked for.
use Rattle.std.specs.Prelude.{◌≡◌, ◌⊎◌, ◌↔◌, Bool, true, false, List, Contains}
use Rattle.std.specs.List.{AllPairs}
use Rattle.std.specs.declared.cmp.Ordering.{Ordering}
use Rattle.std.specs.declared.cmp.Ordering.TheVariants.{Less, Greater}
use Rattle.std.specs.Ordering.{nat_cmp, ordering_then}
use Rattle.ml_term.specs.Keys.{key_cmp}
use Rattle.ml_term.specs.declared.declaration.Kind.{Kind}
use Rattle.ml_term.specs.declared.declaration.Kind.TheVariants.{Relation, Clauses}
use Rattle.ml_region.specs.declared.item.Id.{Id}
use Rattle.ml_region.specs.declared.item.Item.{Item}

-- ids by place, and then by number of change
abbrev pub id_cmp : Id → Id → Ordering
id_cmp a b = ordering_then (nat_cmp a.place b.place) (nat_cmp a.change b.change)

-- clauses that were put first: the latest first, and by storage number where ids are equal
abbrev pub front_cmp : Item → Item → Ordering
front_cmp a b = ordering_then (id_cmp b.id a.id) (nat_cmp a.number b.number)

-- the other clauses: the earliest first, and by storage number where ids are equal
abbrev pub back_cmp : Item → Item → Ordering
back_cmp a b = ordering_then (id_cmp a.id b.id) (nat_cmp a.number b.number)

-- the order of two clauses, by whether each was put first: those that were come before all others
abbrev pub by_front : Bool → Bool → Ordering → Ordering → Ordering
by_front true true among_first among_others = among_first
by_front true false among_first among_others = Less
by_front false true among_first among_others = Greater
by_front false false among_first among_others = among_others

-- the order of clauses
abbrev pub clause_cmp : Item → Item → Ordering
clause_cmp a b = by_front a.front b.front (front_cmp a b) (back_cmp a b)

-- the order of a file's items: that of keys for a relation, and that of clauses for clauses
abbrev pub item_cmp : Kind → Item → Item → Ordering
item_cmp Relation a b = key_cmp a.key.bits b.key.bits
item_cmp Clauses a b = clause_cmp a b

-- the plain list of some items: just these, each once, in their order
pub record IsListOf (kind : Kind) (items list : List Item) : Type 0 where
  pub holds : (x : Item) → Contains items x ↔ Contains list x
  pub rises : AllPairs (λ a b. item_cmp kind a b ≡ Less) list

-- one item more, and no other change
abbrev pub IsWith : List Item → Item → List Item → Type 0
IsWith before item after = (x : Item) → Contains after x ↔ (Contains before x ⊎ (x ≡ item))
