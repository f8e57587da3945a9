-- The list of one declaration as contracts see it. The code holds the items in one vector, and
-- keeps the list and each cursor over it as numbers.
use Rattle.std.specs.Prelude.{◌≡◌, ◌≤◌, ℕ, Bool, true, List, [], ◌∷◌, length, map, nat_lt, pos, slice_index_or, is_some}
use Rattle.std.specs.List.{list_all}
use Rattle.ml_list_desk.specs.Items.{items_seen}
use Rattle.ml_list_desk.specs.declared.list_item.ListItem.{ListItem}
use Rattle.ml_list_desk.specs.declared.list_item.Place.TheVariants.{Mine}
use Rattle.ml_search.specs.Db.{head_of, is_allowed, Item, rises}
use Rattle.ml_search.specs.Replay.{rename_apart}
use Rattle.ml_term.specs.Seen.{seen}
use Rattle.ml_term.specs.Tree.{Tree}
use Rattle.ml_term.specs.Unify.{unifier}
use Rattle.ml_term.specs.declared.declaration.Decl.{Decl}
use Rattle.ml_term.specs.declared.declaration.Kind.{Kind}
use Rattle.ml_term.specs.declared.declaration.Kind.TheVariants.{Clauses, Relation}
use Rattle.ml_term.specs.declared.term.Term.{Term}
use Rattle.ml_term.specs.declared.term.Term.TheVariants.{Int}

-- the declaration, its items in their order, and every item that stood among them at some time, by
-- number
pub record ItemList : Type 0 where
  pub decl : Decl
  pub items : List ListItem
  pub pool : List ListItem

-- what is read where there is no item
abbrev pub no_item : ListItem
no_item = record { place = Mine; change = 0; term = Int (pos 0) }

-- the item with a number
abbrev pub item_with : List ListItem → ℕ → ListItem
item_with pool n = slice_index_or pool n no_item

-- the items with some numbers
abbrev pub items_with : List ListItem → List ℕ → List ListItem
items_with pool numbers = map (item_with pool) numbers

-- whether each number is that of an item
abbrev pub are_within : List ListItem → List ℕ → Bool
are_within pool numbers = list_all (λ n. nat_lt n (length pool)) numbers

-- whether a declaration's list may hold each item
abbrev pub are_allowed : Decl → List ListItem → Bool
are_allowed d items = list_all (λ i. is_allowed d (seen i.term)) items

-- the head of a stored term: a tuple itself, or a clause's head
abbrev pub stored_head : Kind → Tree → Tree
stored_head Relation t = t
stored_head Clauses t = head_of t

-- whether a pattern unifies with an item's head, whose variables are renamed apart from the
-- pattern's
abbrev pub is_met : Decl → Tree → Item → Bool
is_met d pattern i = is_some (unifier pattern (rename_apart pattern (stored_head d.kind i.term)))

-- a number is none of some
abbrev pub IsNone : ℕ → List ℕ → Type 0
IsNone n [] = Unit {0}
IsNone n (m ∷ ms) = (n ≡ m → ⊥) × IsNone n ms

-- no number stands twice
abbrev pub AreDifferent : List ℕ → Type 0
AreDifferent [] = Unit {0}
AreDifferent (n ∷ ns) = IsNone n ns × AreDifferent ns

-- What the code keeps of a list: its numbers are those of different items, every item is one that
-- it may hold, a relation's rise in the order of their keys, and there is room to take the terms
-- out.
pub record IsKept (d : Decl) (pool : List ListItem) (numbers : List ℕ) (room : List Term)
    (capacity : ℕ) : Type 0 where
  pub within : are_within pool numbers ≡ true
  pub different : AreDifferent numbers
  pub allowed : are_allowed d pool ≡ true
  pub ordered : d.kind ≡ Relation → rises d.keys (items_seen (items_with pool numbers)) ≡ true
  pub empty : room ≡ []
  pub roomy : length numbers ≤ capacity
