-- Places of committed items, and numbers of own ones, while a log changes lists.
use Rattle.std.specs.Prelude.{◌≡◌, ℕ, ◌+◌, ◌<◌, Bool, true, List}
use Rattle.std.specs.List.{filter}
use Rattle.std.proofs.Common.{refl, arith}
use Rattle.std.proofs.lemmas.Bool.{lt-ltb}
use Rattle.ml_term.specs.Tree.{Tree}
use Rattle.ml_term.specs.declared.declaration.Decl.{Decl}
use Rattle.ml_search.specs.Db.{Place, at, mine, Item, Db, id_cmp, is_less, items, with_items, head_of}
use Rattle.ml_search.specs.Changes.{ItemName, Alter, puts, takes, puts_first, puts_last, drops, list_for, keys_of, db_after_change}
use Rattle.ml_isolation.proofs.Ordered.{Each, each_by, each_filter, each_and_one}
use Rattle.ml_isolation.proofs.TupleLists.{each_inserted}
use Rattle.ml_isolation.proofs.ClauseLists.{IsLater}
use Rattle.ml_isolation.proofs.DeclaredLists.{each_items, each_with}

-- something holds of the place of an item that was committed, and an own item's number is below that of the changes
abbrev pub IsWithinAt : (ℕ → Type 0) → ℕ → Place → ℕ → Type 0
IsWithinAt Q m (at n) c = Q n
IsWithinAt Q m mine c = c < m

abbrev pub IsWithin : (ℕ → Type 0) → ℕ → Item → Type 0
IsWithin Q m i = IsWithinAt Q m i.id.place i.id.change

within_parts : (Q : ℕ → Type 0) (m : ℕ) (p : Place) (c : ℕ) → IsWithinAt Q m p c → IsWithinAt Q (1 + m) p c
within_parts Q m (at n) c h = h
within_parts Q m mine c h = omega (arith, h)

pub within_more : (Q : ℕ → Type 0) (m : ℕ) (is : List Item) → Each (IsWithin Q m) is → Each (IsWithin Q (1 + m)) is
within_more Q m is e = each_by (IsWithin Q m) (IsWithin Q (1 + m)) is (λ i h. within_parts Q m i.id.place i.id.change h) e

-- the item that the next change puts
abbrev pub new_item : ℕ → Tree → Item
new_item m t = record { id = record { place = mine; change = m }; term = t }

new_within : (Q : ℕ → Type 0) (m : ℕ) (t : Tree) → IsWithin Q (1 + m) (new_item m t)
new_within Q m t = omega arith

later_parts : (Q : ℕ → Type 0) (m : ℕ) (p : Place) (c : ℕ) → IsWithinAt Q m p c →
    is_less (id_cmp (record { place = p; change = c }) (record { place = mine; change = m })) ≡ true
later_parts Q m (at n) c h = refl
later_parts Q m mine c h = rw (lt-ltb c m h) refl

pub new_is_later : (Q : ℕ → Type 0) (m : ℕ) (t : Tree) (is : List Item) → Each (IsWithin Q m) is → Each (IsLater (new_item m t)) is
new_is_later Q m t is e = each_by (IsWithin Q m) (IsLater (new_item m t)) is (λ i h. later_parts Q m i.id.place i.id.change h) e

module _ (decls : List Decl) (Q : ℕ → Type 0) (m : ℕ) where
  replaced : (db : Db) (d : ℕ) (js : List Item) → Each (Each (IsWithin Q m)) db → Each (IsWithin Q (1 + m)) js →
      Each (Each (IsWithin Q (1 + m))) (with_items db d js)
  replaced db d js w e =
      each_with (IsWithin Q (1 + m)) db d js (each_by (Each (IsWithin Q m)) (Each (IsWithin Q (1 + m))) db (within_more Q m) w) e

  old : (db : Db) (d : ℕ) → Each (Each (IsWithin Q m)) db → Each (IsWithin Q (1 + m)) (items db d)
  old db d w = within_more Q m (items db d) (each_items (IsWithin Q m) db d w)

  fewer : (db : Db) (d : ℕ) (p : Item → Bool) → Each (Each (IsWithin Q m)) db → Each (Each (IsWithin Q (1 + m))) (with_items db d (filter p (items db d)))
  fewer db d p w = replaced db d (filter p (items db d)) w (each_filter (IsWithin Q (1 + m)) p (items db d) (old db d w))

  -- a change
  pub changed_within : (c : Alter ItemName) (db : Db) → Each (Each (IsWithin Q m)) db →
      Each (Each (IsWithin Q (1 + m))) (db_after_change decls (record { place = mine; change = m }) c db)
  changed_within (puts t) db w =
      let d = list_for decls t in
      replaced db d _ w (each_inserted (IsWithin Q (1 + m)) (keys_of decls d) (new_item m t) (items db d) (new_within Q m t) (old db d w))
  changed_within (takes t) db w = fewer db (list_for decls t) _ w
  changed_within (puts_first c) db w = let d = list_for decls (head_of c) in replaced db d _ w (new_within Q m c, old db d w)
  changed_within (puts_last c) db w =
      let d = list_for decls (head_of c) in
      replaced db d _ w (each_and_one (IsWithin Q (1 + m)) (items db d) (new_item m c) (old db d w) (new_within Q m c))
  changed_within (drops x) db w = fewer db x.list _ w
