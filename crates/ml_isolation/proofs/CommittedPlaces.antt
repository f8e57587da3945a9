-- Lists that are committed at a place later than those of their items.
use Rattle.std.specs.Prelude.{◌≡◌, ℕ, suc, ◌<◌, ◌==◌, nat_lt, true, false, List, [], ◌∷◌, map}
use Rattle.std.specs.List.{list_all}
use Rattle.std.specs.Ordering.{nat_cmp, ordering_then}
use Rattle.std.proofs.Common.{refl, ap, ◌∙◌, subst, arith}
use Rattle.std.proofs.lemmas.Bool.{and_parts, and_from, ltb-true, lt-ltb, le-ltb, ne_eqb}
use Rattle.std.proofs.lemmas.Cmp.{tied_itself, nat_cmp_total}
use Rattle.std.proofs.lemmas.List.{map-append}
use Rattle.ml_term.specs.declared.declaration.Decl.{Decl}
use Rattle.ml_term.specs.declared.declaration.Kind.{Kind}
use Rattle.ml_term.specs.declared.declaration.Kind.TheVariants.{Relation, Clauses}
use Rattle.ml_search.specs.Db.{Place, at, mine, Item, Db, place_cmp, id_cmp, is_less, is_equal, is_list_of, is_db, is_placed, is_committed}
use Rattle.ml_search.specs.History.{place_at, item_at, commit_at}
use Rattle.ml_isolation.specs.Places.{is_below, are_below, AreBelow}
use Rattle.ml_isolation.proofs.Ordered.{Each, each_by, each_parts, each_map, each_true, all_true, ordered_by, ordered_map}
use Rattle.ml_isolation.proofs.TupleLists.{IsBefore}
use Rattle.ml_isolation.proofs.ClauseLists.{IsEarlier, IsLater, Differs, InClauseOrder}
use Rattle.ml_isolation.proofs.DeclaredLists.{IsOrderedBy, IsAllowed, parts_of, whole_of}
use Rattle.ml_isolation.proofs.PlacesWithin.{IsWithinAt, IsWithin}

-- an item's place is below a number, or it is an own item
abbrev pub IsOlder : ℕ → ℕ → Type 0
IsOlder k n = n < k

-- places that are committed stand in the same order
places_compare : (k m : ℕ) (p q : Place) (c d : ℕ) → IsWithinAt (IsOlder k) m p c → IsWithinAt (IsOlder k) m q d →
    place_cmp (place_at k p) (place_at k q) ≡ place_cmp p q
places_compare k m (at i) (at j) c d h l = refl
places_compare k m (at i) mine c d h l = rw (lt-ltb i k h) refl
places_compare k m mine (at j) c d h l =
    let e : nat_lt k j ≡ false = le-ltb k j (omega (arith, l)) in
    let f : (k == j) ≡ false = ne_eqb k j (λ q. omega (arith, l, q)) in
    rw (e, f) refl
places_compare k m mine mine c d h l = tied_itself nat_cmp_total k

pub ids_compare : (k m : ℕ) (i j : Item) → IsWithin (IsOlder k) m i → IsWithin (IsOlder k) m j →
    id_cmp (item_at k i).id (item_at k j).id ≡ id_cmp i.id j.id
ids_compare k m i j h l =
    ap (λ o. ordering_then o (nat_cmp i.id.change j.id.change)) (places_compare k m i.id.place j.id.place i.id.change j.id.change h l)

clauses_committed : (k m : ℕ) (is : List Item) → Each (IsWithin (IsOlder k) m) is → InClauseOrder is → InClauseOrder (map (item_at k) is)
clauses_committed k m is e o =
    let P : Item → Type 0 = IsWithin (IsOlder k) m in
    let p = each_parts P o.fronts o.backs (subst (Each P) o.parts e) in
    record {
      fronts = map (item_at k) o.fronts;
      backs = map (item_at k) o.backs;
      parts = ap (map (item_at k)) o.parts ∙ map-append (item_at k) o.fronts o.backs;
      fall = ordered_map (item_at k) IsLater o.fronts
          (ordered_by P IsLater (λ i j. IsLater (item_at k i) (item_at k j)) o.fronts
          (λ i j h l r. ap is_less (ids_compare k m j i l h) ∙ r) p.0 o.fall);
      rise = ordered_map (item_at k) IsEarlier o.backs
          (ordered_by P IsEarlier (λ i j. IsEarlier (item_at k i) (item_at k j)) o.backs
          (λ i j h l r. ap is_less (ids_compare k m i j h l) ∙ r) p.1 o.rise);
      differ = ordered_map (item_at k) Differs is
          (ordered_by P Differs (λ i j. Differs (item_at k i) (item_at k j)) is (λ i j h l r. ap is_equal (ids_compare k m i j h l) ∙ r) e o.differ);
    }

order_committed : (d : Kind) (keys : List ℕ) (k m : ℕ) (is : List Item) → Each (IsWithin (IsOlder k) m) is → IsOrderedBy d keys is →
    IsOrderedBy d keys (map (item_at k) is)
order_committed Relation keys k m is e o = ordered_map (item_at k) (IsBefore keys) is o
order_committed Clauses keys k m is e o = clauses_committed k m is e o

list_committed : (q : Decl) (k m : ℕ) (is : List Item) → Each (IsWithin (IsOlder k) m) is → is_list_of q is ≡ true →
    is_list_of q (map (item_at k) is) ≡ true
list_committed q k m is e h =
    let p = parts_of q q.kind refl is h in
    whole_of q q.kind refl (map (item_at k) is) (each_map (item_at k) (IsAllowed q) is p.0) (order_committed q.kind q.keys k m is e p.1)

-- lists are lists where they are committed
pub db_committed : (ds : List Decl) (k m : ℕ) (db : Db) → Each (Each (IsWithin (IsOlder k) m)) db → is_db ds db ≡ true → is_db ds (commit_at k db) ≡ true
db_committed [] k m [] e h = refl
db_committed [] k m (is ∷ db) e h = absurd (cc h)
db_committed (d ∷ ds) k m [] e h = absurd (cc h)
db_committed (d ∷ ds) k m (is ∷ db) e h =
    let p = and_parts (is_list_of d is) (is_db ds db) h in and_from _ _ (list_committed d k m is e.0 p.0) (db_committed ds k m db e.1 p.1)

-- their items' places
place_below : (k m : ℕ) (p : Place) (c : ℕ) → IsWithinAt (IsOlder k) m p c → is_below (suc k) (place_at k p) ≡ true
place_below k m (at n) c h = lt-ltb n (suc k) (omega (arith, h))
place_below k m mine c h = lt-ltb k (suc k) (omega arith)

list_below : (k m : ℕ) (is : List Item) → Each (IsWithin (IsOlder k) m) is → list_all (λ i. is_below (suc k) i.id.place) (map (item_at k) is) ≡ true
list_below k m is e =
    all_true (λ i. is_below (suc k) i.id.place) (map (item_at k) is)
    (each_map (item_at k) (λ i. is_below (suc k) i.id.place ≡ true) is
    (each_by (IsWithin (IsOlder k) m) (λ i. is_below (suc k) (place_at k i.id.place) ≡ true) is
    (λ i h. place_below k m i.id.place i.id.change h) e))

pub db_below : (k m : ℕ) (db : Db) → Each (Each (IsWithin (IsOlder k) m)) db → AreBelow (suc k) (commit_at k db)
db_below k m [] e = refl
db_below k m (is ∷ db) e = and_from _ _ (list_below k m is e.0) (db_below k m db e.1)

-- no item of them is uncommitted
place_placed : (k : ℕ) (p : Place) → is_placed (place_at k p) ≡ true
place_placed k (at n) = refl
place_placed k mine = refl

list_placed : (k : ℕ) (is : List Item) → list_all (λ i. is_placed i.id.place) (map (item_at k) is) ≡ true
list_placed k [] = refl
list_placed k (i ∷ is) = and_from _ _ (place_placed k i.id.place) (list_placed k is)

pub db_placed : (k : ℕ) (db : Db) → is_committed (commit_at k db) ≡ true
db_placed k [] = refl
db_placed k (is ∷ db) = and_from _ _ (list_placed k is) (db_placed k db)

-- committed items stay as they are
place_stays : (k : ℕ) (p : Place) → is_placed p ≡ true → place_at k p ≡ p
place_stays k (at n) h = refl
place_stays k mine h = absurd (cc h)

item_stays : (k : ℕ) (i : Item) → is_placed i.id.place ≡ true → item_at k i ≡ i
item_stays k i h = ap (λ p. record { id = record { place = p; change = i.id.change }; term = i.term }) (place_stays k i.id.place h)

list_stays : (k : ℕ) (is : List Item) → list_all (λ i. is_placed i.id.place) is ≡ true → map (item_at k) is ≡ is
list_stays k [] h = refl
list_stays k (i ∷ is) h =
    let p = and_parts (is_placed i.id.place) (list_all (λ i. is_placed i.id.place) is) h in
    ap (λ x. x ∷ map (item_at k) is) (item_stays k i p.0) ∙ ap (λ xs. i ∷ xs) (list_stays k is p.1)

pub db_stays : (k : ℕ) (db : Db) → is_committed db ≡ true → commit_at k db ≡ db
db_stays k [] h = refl
db_stays k (is ∷ db) h =
    let p = and_parts (list_all (λ i. is_placed i.id.place) is) (is_committed db) h in
    ap (λ x. x ∷ commit_at k db) (list_stays k is p.0) ∙ ap (λ xs. is ∷ xs) (db_stays k db p.1)

-- a later place is later too
below_later : (k : ℕ) (p : Place) → is_below k p ≡ true → is_below (suc k) p ≡ true
below_later k (at n) h = let l = ltb-true n k h in lt-ltb n (suc k) (omega (arith, l))
below_later k mine h = h

list_later : (k : ℕ) (is : List Item) → list_all (λ i. is_below k i.id.place) is ≡ true → list_all (λ i. is_below (suc k) i.id.place) is ≡ true
list_later k is h =
    all_true (λ i. is_below (suc k) i.id.place) is
    (each_by (λ i. is_below k i.id.place ≡ true) (λ i. is_below (suc k) i.id.place ≡ true) is (λ i. below_later k i.id.place)
    (each_true (λ i. is_below k i.id.place) is h))

pub db_later : (k : ℕ) (db : Db) → AreBelow k db → AreBelow (suc k) db
db_later k [] h = refl
db_later k (is ∷ db) h =
    let p = and_parts (list_all (λ i. is_below k i.id.place) is) (are_below k db) h in and_from _ _ (list_later k is p.0) (db_later k db p.1)

-- lists below a place are within, and so are committed ones
place_within : (k : ℕ) (p : Place) (c : ℕ) → is_below k p ≡ true → IsWithinAt (IsOlder k) 0 p c
place_within k (at n) c h = ltb-true n k h
place_within k mine c h = absurd (cc h)

pub below_within : (k : ℕ) (db : Db) → AreBelow k db → Each (Each (IsWithin (IsOlder k) 0)) db
below_within k db h =
    each_by (λ is. list_all (λ i. is_below k i.id.place) is ≡ true) (Each (IsWithin (IsOlder k) 0)) db
    (λ is l. each_by (λ i. is_below k i.id.place ≡ true) (IsWithin (IsOlder k) 0) is (λ i. place_within k i.id.place i.id.change)
    (each_true (λ i. is_below k i.id.place) is l)) (each_true (list_all (λ i. is_below k i.id.place)) db h)

-- any place
abbrev pub IsAny : ℕ → Type 0
IsAny n = Unit {0}

placed_within : (p : Place) (c : ℕ) → is_placed p ≡ true → IsWithinAt IsAny 0 p c
placed_within (at n) c h = tt
placed_within mine c h = absurd (cc h)

pub committed_within : (db : Db) → is_committed db ≡ true → Each (Each (IsWithin IsAny 0)) db
committed_within db h =
    each_by (λ is. list_all (λ i. is_placed i.id.place) is ≡ true) (Each (IsWithin IsAny 0)) db
    (λ is l. each_by (λ i. is_placed i.id.place ≡ true) (IsWithin IsAny 0) is (λ i. placed_within i.id.place i.id.change)
    (each_true (λ i. is_placed i.id.place) is l)) (each_true (list_all (λ i. is_placed i.id.place)) db h)

-- lists below a place are committed ones
below_is_placed : (k : ℕ) (p : Place) → is_below k p ≡ true → is_placed p ≡ true
below_is_placed k (at n) h = refl
below_is_placed k mine h = h

pub below_placed : (k : ℕ) (db : Db) → AreBelow k db → is_committed db ≡ true
below_placed k db h =
    all_true (list_all (λ i. is_placed i.id.place)) db
    (each_by (λ is. list_all (λ i. is_below k i.id.place) is ≡ true) (λ is. list_all (λ i. is_placed i.id.place) is ≡ true) db
    (λ is l. all_true (λ i. is_placed i.id.place) is
    (each_by (λ i. is_below k i.id.place ≡ true) (λ i. is_placed i.id.place ≡ true) is (λ i. below_is_placed k i.id.place)
    (each_true (λ i. is_below k i.id.place) is l))) (each_true (list_all (λ i. is_below k i.id.place)) db h))
