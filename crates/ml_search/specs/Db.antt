-- The lists of a store: for each declaration the list of its items. The code keeps nested pages,
-- flags and undo lists.
use Rattle.std.specs.Prelude.{ℕ, zero, suc, ◌+◌, nat_le, Bool, true, false, ◌&&◌, not, List, []}
use Rattle.std.specs.Prelude.{◌∷◌, length, map, take, drop, Option, Some, None, codes, unwrap_or}
use Rattle.std.specs.Prelude.{slice_get, if◌then◌else◌}
use Rattle.std.specs.List.{list_all, list_any}
use Rattle.std.specs.declared.cmp.Ordering.{Ordering}
use Rattle.std.specs.declared.cmp.Ordering.TheVariants.{Less, Equal, Greater}
use Rattle.std.specs.Ordering.{nat_cmp, ordering_then}
use Rattle.ml_term.specs.Tree.{Tree, compound, no_trees, tree, is_ground, is_numbered}
use Rattle.ml_term.specs.Valid.{is_valid}
use Rattle.ml_term.specs.Order.{tree_cmp}
use Rattle.ml_term.specs.CanonicalBytes.{bytes_of}
use Rattle.ml_term.specs.Keys.{tuple_cmp, numbers_from}
use Rattle.ml_term.specs.declared.declaration.Decl.{Decl}
use Rattle.ml_term.specs.declared.declaration.Kind.{Kind}
use Rattle.ml_term.specs.declared.declaration.Kind.TheVariants.{Relation, Clauses}
use Rattle.ml_search.specs.Limits.{max_item_bytes}
use Rattle.ml_search.specs.Program.{is_of, true_body}
use Rattle.ml_search.specs.Bodies.{is_callable}

-- The place in the history, from 1, of the entry that committed an item; loaded items have place 0.
-- `mine` stands for no entry yet.
pub data Place : Type 0 where
  at : ℕ → Place
  mine : Place

-- an item by its place and the number of its change there
pub record Id : Type 0 where
  pub place : Place
  pub change : ℕ

-- a tuple, or a clause as the term `:-(Head, Body)`
pub record Item : Type 0 where
  pub id : Id
  pub term : Tree

-- a list for each declaration, in their order
abbrev pub Db : Type 0
Db = List (List Item)

-- `mine` is greater than every place
abbrev pub place_cmp : Place → Place → Ordering
place_cmp (at m) (at n) = nat_cmp m n
place_cmp (at m) mine = Less
place_cmp mine (at n) = Greater
place_cmp mine mine = Equal

-- by place, and then by number
abbrev pub id_cmp : Id → Id → Ordering
id_cmp a b = ordering_then (place_cmp a.place b.place) (nat_cmp a.change b.change)

-- whether an order is `Less`
abbrev pub is_less : Ordering → Bool
is_less Less = true
is_less Equal = false
is_less Greater = false

-- whether an order is `Equal`
abbrev pub is_equal : Ordering → Bool
is_equal Less = false
is_equal Equal = true
is_equal Greater = false

-- whether two terms are the same
abbrev pub is_same : Tree → Tree → Bool
is_same t u = is_equal (tree_cmp t u)

-- whether two ids are the same
abbrev pub is_same_id : Id → Id → Bool
is_same_id a b = is_equal (id_cmp a b)

-- the list of a declaration
abbrev pub items : Db → ℕ → List Item
items db d = unwrap_or (slice_get db d) []

-- the lists with another one for a declaration
abbrev pub with_items : Db → ℕ → List Item → Db
with_items [] d js = []
with_items (is ∷ db) zero js = js ∷ db
with_items (is ∷ db) (suc d) js = is ∷ with_items db d js

-- the head of a clause's term
abbrev pub head_of : Tree → Tree
head_of (compound f (tree h (tree b no_trees))) = h
head_of t = t

-- the body of a clause's term
abbrev pub body_of : Tree → Tree
body_of (compound f (tree h (tree b no_trees))) = b
body_of t = true_body

-- the item with an id, if there is one
abbrev pub with_id : Id → List Item → Option Item
with_id i [] = None
with_id i (j ∷ js) = if is_same_id j.id i then Some j else with_id i js

-- the terms of a list, in order
abbrev pub terms : List Item → List Tree
terms = map (λ i. i.term)

-- the items of a loaded list: their numbers are their places in it
abbrev pub load_list_from : ℕ → List Tree → List Item
load_list_from n [] = []
load_list_from n (t ∷ ts) =
    record { id = record { place = at 0; change = n }; term = t } ∷ load_list_from (1 + n) ts

-- the lists as they are loaded
abbrev pub load_lists : List (List Tree) → Db
load_lists = map (load_list_from 0)

-- a ground term of the relation, not too long
abbrev pub is_tuple : Decl → Tree → Bool
is_tuple d t =
    is_valid t && is_of d.pred.name d.pred.arity t && is_ground t
    && nat_le (length (bytes_of t)) max_item_bytes

-- `:-(Head, Body)` with a head of the predicate and a callable body, its variables numbered from 0
-- by first place, not too long
abbrev pub is_stored_clause : Decl → Tree → Bool
is_stored_clause d t =
    is_valid t && is_of (codes ":-") 2 t && is_of d.pred.name d.pred.arity (head_of t)
    && is_callable (body_of t) && is_numbered t && nat_le (length (bytes_of t)) max_item_bytes

-- whether a declaration's list may hold a term
abbrev pub is_allowed : Decl → Tree → Bool
is_allowed d t = is_allowed_in d.kind d t
  where
    is_allowed_in : Kind → Decl → Tree → Bool
    is_allowed_in Relation d t = is_tuple d t
    is_allowed_in Clauses d t = is_stored_clause d t

-- whether the terms rise in the order of their keys, so that none stands twice
abbrev pub rises : List ℕ → List Item → Bool
rises keys [] = true
rises keys (i ∷ []) = true
rises keys (i ∷ j ∷ is) = is_less (tuple_cmp keys i.term j.term) && rises keys (j ∷ is)

-- whether ids rise
abbrev pub ids_rise : List Id → Bool
ids_rise [] = true
ids_rise (a ∷ []) = true
ids_rise (a ∷ b ∷ rest) = is_less (id_cmp a b) && ids_rise (b ∷ rest)

-- whether ids fall
abbrev pub ids_fall : List Id → Bool
ids_fall [] = true
ids_fall (a ∷ []) = true
ids_fall (a ∷ b ∷ rest) = is_less (id_cmp b a) && ids_fall (b ∷ rest)

-- whether no id stands twice
abbrev pub ids_differ : List Id → Bool
ids_differ [] = true
ids_differ (a ∷ rest) = not (list_any (is_same_id a) rest) && ids_differ rest

-- whether no id stands twice, and for some n the first n ids, those put first, fall, and the others
-- rise
abbrev pub is_in_clause_order : List Id → Bool
is_in_clause_order ids =
    ids_differ ids
    && list_any (λ n. ids_fall (take n ids) && ids_rise (drop n ids))
    (numbers_from 0 (1 + length ids))

-- whether a list is one that a declaration may have
abbrev pub is_list_of : Decl → List Item → Bool
is_list_of d is = list_all (λ i. is_allowed d i.term) is && is_ordered d.kind d is
  where
    is_ordered : Kind → Decl → List Item → Bool
    is_ordered Relation d is = rises d.keys is
    is_ordered Clauses d is = is_in_clause_order (map (λ i. i.id) is)

-- whether there is one list for each declaration, and each is one that the declaration may have
abbrev pub is_db : List Decl → Db → Bool
is_db [] [] = true
is_db [] (is ∷ db) = false
is_db (d ∷ ds) [] = false
is_db (d ∷ ds) (is ∷ db) = is_list_of d is && is_db ds db

-- whether a place is that of an entry
abbrev pub is_placed : Place → Bool
is_placed (at n) = true
is_placed mine = false

-- whether each item of the lists was committed by an entry, or loaded
abbrev pub is_committed : Db → Bool
is_committed = list_all (list_all (λ i. is_placed i.id.place))
