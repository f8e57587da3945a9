-- Ids of stored clauses: each tells its term, in the lists and in the cursors over them.
use Rattle.std.specs.Prelude.{◌≡◌, ℕ, zero, suc, ◌+◌, ◌<◌, ◌==◌, nat_lt, Bool, true, false, not, List, [], ◌∷◌, ◌++◌, map, slice_get, Some, cond}
use Rattle.std.specs.Option.{option_map_or}
use Rattle.std.specs.List.{filter, list_all, list_any}
use Rattle.std.specs.declared.cmp.Ordering.{Ordering}
use Rattle.std.specs.declared.cmp.Ordering.TheVariants.{Less, Equal, Greater}
use Rattle.std.specs.Ordering.{nat_cmp, ordering_then}
use Rattle.std.proofs.Common.{refl, sym, ap, ◌∙◌, subst, arith}
use Rattle.std.proofs.lemmas.Bool.{and_parts, or_parts, not-true, eqb-true, eq-eqb, le-ltb}
use Rattle.ml_term.specs.Tree.{Tree}
use Rattle.ml_search.specs.Program.{true_body}
use Rattle.ml_search.specs.Db.{Place, at, mine, Id, Item, Db, is_same_id, is_equal, place_cmp, items, with_items, with_id, ids_differ, is_placed}

-- this holds of each item
abbrev pub Each : (Item → Type 0) → List Item → Type 0
Each P [] = Unit {0}
Each P (i ∷ is) = P i × Each P is

pub each_by : (P Q : Item → Type 0) (is : List Item) → ((i : Item) → P i → Q i) → Each P is → Each Q is
each_by P Q [] h e = tt
each_by P Q (i ∷ is) h e = (h i e.0, each_by P Q is h e.1)

pub each_filter : (P : Item → Type 0) (p : Item → Bool) (is : List Item) → Each P is → Each P (filter p is)
each_filter P p [] e = tt
each_filter P p (i ∷ is) e = chosen (p i) (each_filter P p is e.1)
  where
    chosen : (b : Bool) → Each P (filter p is) → Each P (cond b (i ∷ filter p is) (filter p is))
    chosen true h = (e.0, h)
    chosen false h = h

pub each_and_one : (P : Item → Type 0) (is : List Item) (j : Item) → Each P is → P j → Each P (is ++ j ∷ [])
each_and_one P [] j e h = (h, tt)
each_and_one P (i ∷ is) j e h = (e.0, each_and_one P is j e.1 h)

pub each_at : (P : Item → Type 0) (is : List Item) (n : ℕ) (j : Item) → slice_get is n ≡ Some j → Each P is → P j
each_at P [] n j q e = absurd (cc q)
each_at P (i ∷ is) zero j q e = let h : i ≡ j = cc q in subst P h e.0
each_at P (i ∷ is) (suc n) j q e = each_at P is n j q e.1

-- the items of a list after another list was put for it
pub items_with : (P : Item → Type 0) (db : Db) (d : ℕ) (js : List Item) (k : ℕ) → (k ≡ d → Each P js) → Each P (items db k) →
    Each P (items (with_items db d js) k)
items_with P [] d js k h e = e
items_with P (is ∷ db) zero js zero h e = h refl
items_with P (is ∷ db) zero js (suc k) h e = e
items_with P (is ∷ db) (suc d) js zero h e = e
items_with P (is ∷ db) (suc d) js (suc k) h e = items_with P db d js k (λ q. h (ap suc q)) e

-- ids are the same where they are told to be
same_number : (m n : ℕ) → is_equal (nat_cmp m n) ≡ true → m ≡ n
same_number m n h = tested (nat_lt m n) (m == n) refl h
  where
    tested : (b c : Bool) → (m == n) ≡ c → is_equal (cond b Less (cond c Equal Greater)) ≡ true → m ≡ n
    tested true c e h = absurd (cc h)
    tested false true e h = eqb-true m n e
    tested false false e h = absurd (cc h)

both_equal : (o u : Ordering) → is_equal (ordering_then o u) ≡ true → (is_equal o ≡ true) × (is_equal u ≡ true)
both_equal Less u h = absurd (cc h)
both_equal Equal u h = (refl, h)
both_equal Greater u h = absurd (cc h)

same_parts : (p q : Place) (m n : ℕ) → is_equal (ordering_then (place_cmp p q) (nat_cmp m n)) ≡ true → (p ≡ q) × (m ≡ n)
same_parts (at i) (at j) m n h = let e = both_equal (nat_cmp i j) (nat_cmp m n) h in (ap at (same_number i j e.0), same_number m n e.1)
same_parts (at i) mine m n h = absurd (cc h)
same_parts mine (at j) m n h = absurd (cc h)
same_parts mine mine m n h = (refl, same_number m n h)

pub same_id : (a b : Id) → is_same_id a b ≡ true → a ≡ b
same_id a b h =
    let e = same_parts a.place b.place a.change b.change h in
    ap (λ x. record { place = x; change = a.change }) e.0 ∙ ap (λ y. record { place = b.place; change = y }) e.1

equal_numbers : (n : ℕ) → nat_cmp n n ≡ Equal
equal_numbers n = rw (le-ltb n n (omega arith), eq-eqb n n refl) refl

equal_places : (p : Place) → place_cmp p p ≡ Equal
equal_places (at n) = equal_numbers n
equal_places mine = refl

pub same_itself : (a : Id) → is_same_id a a ≡ true
same_itself a = rw (equal_places a.place, equal_numbers a.change) refl

-- the item with an id has it
pub found_id : (P : Item → Type 0) (a : Id) (is : List Item) (j : Item) → with_id a is ≡ Some j → Each P is → P j × (j.id ≡ a)
found_id P a [] j q e = absurd (cc q)
found_id P a (i ∷ is) j q e = tested (is_same_id i.id a) refl (found_id P a is j) q
  where
    tested : (b : Bool) → is_same_id i.id a ≡ b → (with_id a is ≡ Some j → Each P is → P j × (j.id ≡ a)) → cond b (Some i) (with_id a is) ≡ Some j →
        P j × (j.id ≡ a)
    tested true h further q = let r : i ≡ j = cc q in (subst P r e.0, ap (λ z. z.id) (sym r) ∙ same_id i.id a h)
    tested false h further q = further q e.1

-- a number of changes that is above an id's, where the session's own changes gave the id
abbrev IsOldAt : ℕ → Place → ℕ → Type 0
IsOldAt m (at n) c = Unit {0}
IsOldAt m mine c = c < m

abbrev pub IsOld : ℕ → Id → Type 0
IsOld m a = IsOldAt m a.place a.change

-- the id that the next change gives
abbrev pub next_id : ℕ → Id
next_id m = record { place = mine; change = m }

old_parts : (m : ℕ) (p : Place) (c : ℕ) → IsOldAt m p c → IsOldAt (1 + m) p c
old_parts m (at n) c h = tt
old_parts m mine c h = omega (arith, h)

pub old_later : (m : ℕ) (a : Id) → IsOld m a → IsOld (1 + m) a
old_later m a h = old_parts m a.place a.change h

new_parts : (m : ℕ) (p : Place) (c : ℕ) → IsOldAt m p c → (b : Bool) → is_equal (ordering_then (place_cmp p mine) (nat_cmp c m)) ≡ b → b ≡ false
new_parts m (at n) c h b e = sym e
new_parts m mine c h true e = absurd (omega (arith, h, same_number c m e))
new_parts m mine c h false e = refl

-- an old id isn't the next one
pub old_is_other : (m : ℕ) (a : Id) → IsOld m a → is_same_id a (next_id m) ≡ false
old_is_other m a h = new_parts m a.place a.change h (is_same_id a (next_id m)) refl

-- where no id stands twice, each item is found by its id
none_same : (a : Id) (is : List Item) → list_any (is_same_id a) (map (λ i. i.id) is) ≡ false → Each (λ j. is_same_id a j.id ≡ false) is
none_same a [] h = tt
none_same a (i ∷ is) h = let p = or_parts (is_same_id a i.id) (list_any (is_same_id a) (map (λ i. i.id) is)) h in (p.0, none_same a is p.1)

each_both : (P Q : Item → Type 0) (is : List Item) → Each P is → Each Q is → Each (λ i. P i × Q i) is
each_both P Q [] e f = tt
each_both P Q (i ∷ is) e f = ((e.0, f.0), each_both P Q is e.1 f.1)

each_found : (is : List Item) → ids_differ (map (λ i. i.id) is) ≡ true → Each (λ i. with_id i.id is ≡ Some i) is
each_found [] h = tt
each_found (i ∷ is) h =
    let p = and_parts (not (list_any (is_same_id i.id) (map (λ i. i.id) is))) (ids_differ (map (λ i. i.id) is)) h in (
      rw (same_itself i.id) refl,
      each_by (λ j. (is_same_id i.id j.id ≡ false) × (with_id j.id is ≡ Some j)) (λ j. with_id j.id (i ∷ is) ≡ Some j) is (λ j e. rw e.0 e.1)
          (each_both (λ j. is_same_id i.id j.id ≡ false) (λ j. with_id j.id is ≡ Some j) is (none_same i.id is (not-true _ p.0)) (each_found is p.1)),
    )

placed_old : (p : Place) (c : ℕ) → is_placed p ≡ true → IsOldAt 0 p c
placed_old (at n) c h = tt
placed_old mine c h = absurd (cc h)

each_old : (is : List Item) → list_all (λ i. is_placed i.id.place) is ≡ true → Each (λ i. IsOld 0 i.id) is
each_old [] h = tt
each_old (i ∷ is) h =
    let p = and_parts (is_placed i.id.place) (list_all (λ i. is_placed i.id.place) is) h in (placed_old i.id.place i.id.change p.0, each_old is p.1)

-- the term that an item with an id has in the lists
abbrev pub term_in : Db → ℕ → Id → Tree
term_in db d a = option_map_or (λ i. i.term) (with_id a (items db d)) true_body

-- what an item of a list keeps: a function gives its term by its id, which isn't one of the changes to come
abbrev pub Keeps : (ℕ → Id → Tree) → ℕ → ℕ → Item → Type 0
Keeps f m d i = (f d i.id ≡ i.term) × IsOld m i.id

pub each_keeps : (db : Db) (d : ℕ) → ids_differ (map (λ i. i.id) (items db d)) ≡ true → list_all (λ i. is_placed i.id.place) (items db d) ≡ true →
    Each (Keeps (term_in db) 0 d) (items db d)
each_keeps db d h p =
    each_both (λ i. term_in db d i.id ≡ i.term) (λ i. IsOld 0 i.id) (items db d)
    (each_by (λ i. with_id i.id (items db d) ≡ Some i) (λ i. term_in db d i.id ≡ i.term) (items db d)
    (λ i e. ap (λ z. option_map_or (λ i. i.term) z true_body) e) (each_found (items db d) h)) (each_old (items db d) p)
