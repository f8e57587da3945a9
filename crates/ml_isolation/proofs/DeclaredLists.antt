-- Lists that their declarations may have, by what holds of their items and by their order.
use Rattle.std.specs.Prelude.{◌≡◌, ℕ, zero, suc, Bool, true, false, List, [], ◌∷◌, map, slice_get, Some}
use Rattle.std.specs.List.{filter, list_all}
use Rattle.std.proofs.Common.{refl, sym, subst}
use Rattle.std.proofs.lemmas.Bool.{and_parts, and_from}
use Rattle.ml_term.specs.Tree.{Tree}
use Rattle.ml_term.specs.Valid.{is_valid}
use Rattle.ml_term.specs.declared.declaration.Decl.{Decl}
use Rattle.ml_term.specs.declared.declaration.Kind.{Kind}
use Rattle.ml_term.specs.declared.declaration.Kind.TheVariants.{Relation, Clauses}
use Rattle.ml_search.specs.Program.{is_relation, is_clause_list}
use Rattle.ml_search.specs.Db.{Item, Db, items, with_items, rises, is_in_clause_order, is_tuple, is_stored_clause, is_allowed, is_list_of, is_db}
use Rattle.ml_search.specs.Changes.{insert_by_key, has_term}
use Rattle.ml_isolation.proofs.Ordered.{Each, each_by, each_filter, each_true, all_true, Ordered, ordered_filter}
use Rattle.ml_isolation.proofs.TupleLists.{IsBefore, rising_ordered, ordered_rises, each_inserted, ordered_inserted, own_key}
use Rattle.ml_isolation.proofs.ClauseLists.{InClauseOrder, ordered_clauses, clauses_ordered, clauses_filtered}

-- the order of a list of each kind
abbrev pub IsOrderedBy : Kind → List ℕ → List Item → Type 0
IsOrderedBy Relation keys is = Ordered (IsBefore keys) is
IsOrderedBy Clauses keys is = InClauseOrder is

abbrev pub IsAllowed : Decl → Item → Type 0
IsAllowed q i = is_allowed q i.term ≡ true

pub parts_of : (q : Decl) (k : Kind) → q.kind ≡ k → (is : List Item) → is_list_of q is ≡ true → Each (IsAllowed q) is × IsOrderedBy k q.keys is
parts_of q Relation e is h =
    let p = and_parts (list_all (λ i. is_allowed q i.term) is) _ h in
    let b = p.1 in
    let r : rises q.keys is ≡ true = rw e at b in
    (each_true (λ i. is_allowed q i.term) is p.0, rising_ordered q.keys is r)
parts_of q Clauses e is h =
    let p = and_parts (list_all (λ i. is_allowed q i.term) is) _ h in
    let b = p.1 in
    let r : is_in_clause_order (map (λ i. i.id) is) ≡ true = rw e at b in
    (each_true (λ i. is_allowed q i.term) is p.0, ordered_clauses is r)

pub whole_of : (q : Decl) (k : Kind) → q.kind ≡ k → (is : List Item) → Each (IsAllowed q) is → IsOrderedBy k q.keys is → is_list_of q is ≡ true
whole_of q Relation e is a o = and_from _ _ (all_true (λ i. is_allowed q i.term) is a) (rw e (ordered_rises q.keys is o))
whole_of q Clauses e is a o = and_from _ _ (all_true (λ i. is_allowed q i.term) is a) (rw e (clauses_ordered is o))

-- some of the items
order_filtered : (k : Kind) (keys : List ℕ) (p : Item → Bool) (is : List Item) → IsOrderedBy k keys is → IsOrderedBy k keys (filter p is)
order_filtered Relation keys p is o = ordered_filter (IsBefore keys) p is o
order_filtered Clauses keys p is o = clauses_filtered p is o

pub list_filtered : (q : Decl) (p : Item → Bool) (is : List Item) → is_list_of q is ≡ true → is_list_of q (filter p is) ≡ true
list_filtered q p is h =
    let r = parts_of q q.kind refl is h in
    whole_of q q.kind refl (filter p is) (each_filter (IsAllowed q) p is r.0) (order_filtered q.kind q.keys p is r.1)

-- the kind of a declaration
kind_is_relation : (q : Decl) (k : Kind) → q.kind ≡ k → is_relation q ≡ true → k ≡ Relation
kind_is_relation q Relation e h = refl
kind_is_relation q Clauses e h = absurd (cc (rw e at h))

pub relation_kind : (q : Decl) → is_relation q ≡ true → q.kind ≡ Relation
relation_kind q h = kind_is_relation q q.kind refl h

kind_is_clauses : (q : Decl) (k : Kind) → q.kind ≡ k → is_clause_list q ≡ true → k ≡ Clauses
kind_is_clauses q Relation e h = absurd (cc (rw e at h))
kind_is_clauses q Clauses e h = refl

pub clauses_kind : (q : Decl) → is_clause_list q ≡ true → q.kind ≡ Clauses
clauses_kind q h = kind_is_clauses q q.kind refl h

-- what a declaration's list may hold
pub tuple_allowed : (q : Decl) (t : Tree) → q.kind ≡ Relation → is_tuple q t ≡ true → is_allowed q t ≡ true
tuple_allowed q t e h = rw e h

pub clause_allowed : (q : Decl) (t : Tree) → q.kind ≡ Clauses → is_stored_clause q t ≡ true → is_allowed q t ≡ true
clause_allowed q t e h = rw e h

tuple_valid : (q : Decl) (t : Tree) → is_tuple q t ≡ true → is_valid t ≡ true
tuple_valid q t h = (and_parts _ _ (and_parts _ _ (and_parts _ _ h).0).0).0

relation_valid : (q : Decl) (t : Tree) → q.kind ≡ Relation → is_allowed q t ≡ true → is_valid t ≡ true
relation_valid q t e h = let r : is_tuple q t ≡ true = rw e at h in tuple_valid q t r

-- a tuple put at its key's place
pub list_inserted : (q : Decl) (keys : List ℕ) (i : Item) (is : List Item) → keys ≡ q.keys → q.kind ≡ Relation → is_tuple q i.term ≡ true →
    is_list_of q is ≡ true → has_term i.term is ≡ false
    → is_list_of q (insert_by_key keys i is) ≡ true
list_inserted q keys i is e r t h n =
    let p = parts_of q Relation r is h in
    let valid = each_by (IsAllowed q) (λ j. is_valid j.term ≡ true) is (λ j a. relation_valid q j.term r a) p.0 in
    subst (λ z. is_list_of q (insert_by_key z i is) ≡ true) (sym e)
    (whole_of q Relation r (insert_by_key q.keys i is) (each_inserted (IsAllowed q) q.keys i is (tuple_allowed q i.term r t) p.0)
    (ordered_inserted q.keys i is p.1 (own_key q.keys i.term is (tuple_valid q i.term t) n valid)))

-- the list of each declaration
pub list_there : (ds : List Decl) (db : Db) (d : ℕ) (q : Decl) → is_db ds db ≡ true → slice_get ds d ≡ Some q → is_list_of q (items db d) ≡ true
list_there [] db d q h e = absurd (cc e)
list_there (x ∷ ds) [] d q h e = absurd (cc h)
list_there (x ∷ ds) (is ∷ db) zero q h e = let i : x ≡ q = cc e in subst (λ z. is_list_of z is ≡ true) i (and_parts (is_list_of x is) (is_db ds db) h).0
list_there (x ∷ ds) (is ∷ db) (suc d) q h e = list_there ds db d q (and_parts (is_list_of x is) (is_db ds db) h).1 e

pub list_replaced : (ds : List Decl) (db : Db) (d : ℕ) (js : List Item) → is_db ds db ≡ true →
    ((q : Decl) → slice_get ds d ≡ Some q → is_list_of q js ≡ true)
    → is_db ds (with_items db d js) ≡ true
list_replaced [] [] d js h f = refl
list_replaced [] (is ∷ db) d js h f = absurd (cc h)
list_replaced (x ∷ ds) [] d js h f = absurd (cc h)
list_replaced (x ∷ ds) (is ∷ db) zero js h f = and_from _ _ (f x refl) (and_parts (is_list_of x is) (is_db ds db) h).1
list_replaced (x ∷ ds) (is ∷ db) (suc d) js h f =
    let p = and_parts (is_list_of x is) (is_db ds db) h in and_from _ _ p.0 (list_replaced ds db d js p.1 f)

-- what holds of each item of the lists
pub each_items : (P : Item → Type 0) (db : Db) (d : ℕ) → Each (Each P) db → Each P (items db d)
each_items P [] d e = tt
each_items P (is ∷ db) zero e = e.0
each_items P (is ∷ db) (suc d) e = each_items P db d e.1

pub each_with : (P : Item → Type 0) (db : Db) (d : ℕ) (js : List Item) → Each (Each P) db → Each P js → Each (Each P) (with_items db d js)
each_with P [] d js e f = tt
each_with P (is ∷ db) zero js e f = (f, e.1)
each_with P (is ∷ db) (suc d) js e f = (e.0, each_with P db d js e.1 f)
