-- What a log changes with the place of an entry is what it changes with none yet, committed there.
use Rattle.std.specs.Prelude.{◌≡◌, ℕ, zero, suc, ◌+◌, Bool, true, false, not, List, [], ◌∷◌, ◌++◌, map, slice_get, Option, Some, None, cond}
use Rattle.std.specs.Option.{option_map}
use Rattle.std.specs.List.{filter}
use Rattle.std.proofs.Common.{refl, sym, ap, ◌∙◌, subst}
use Rattle.std.proofs.lemmas.List.{map-append}
use Rattle.ml_term.specs.Tree.{Tree}
use Rattle.ml_term.specs.Keys.{tuple_cmp}
use Rattle.ml_term.specs.declared.declaration.Decl.{Decl}
use Rattle.ml_search.specs.Program.{true_body}
use Rattle.ml_search.specs.Db.{at, mine, Id, Item, Db, is_less, is_equal, is_same, is_same_id, items, with_items, head_of}
use Rattle.ml_search.specs.Changes.{ItemName, Alter, puts, takes, puts_first, puts_last, drops, insert_by_key, list_for, keys_of, db_after_change}
use Rattle.ml_search.specs.History.{place_at, item_at, commit_at}
use Rattle.ml_search.specs.LogChanges.{is_change}
use Rattle.ml_search.specs.Operations.{Operation, opens, next, insert, delete, assertz, asserta, delete_at, Reply, Log}
use Rattle.ml_search.specs.Replay.{Cursor, Progress, alter_of, unifies, cursor_over, progress_by_change, progress_by, progress_after, db_after_log}
use Rattle.ml_isolation.specs.Places.{AreBelow}
use Rattle.ml_isolation.proofs.Ordered.{Each, each_by, each_filter, each_and_one, each_of}
use Rattle.ml_isolation.proofs.DeclaredLists.{each_items}
use Rattle.ml_isolation.proofs.PlacesWithin.{IsWithin, within_more, new_item, changed_within}
use Rattle.ml_isolation.proofs.CommittedPlaces.{IsOlder, ids_compare, below_within, below_placed, db_stays}

-- an id, a change and a cursor as they are committed
abbrev id_at : ℕ → Id → Id
id_at k a = record { place = place_at k a.place; change = a.change }

abbrev alter_at : ℕ → Alter ItemName → Alter ItemName
alter_at k (puts t) = puts t
alter_at k (takes t) = takes t
alter_at k (puts_first c) = puts_first c
alter_at k (puts_last c) = puts_last c
alter_at k (drops x) = drops (record { list = x.list; id = id_at k x.id })

abbrev cursor_at : ℕ → Cursor → Cursor
cursor_at k c = record { list = c.list; members = map (item_at k) c.members }

abbrev progress_at : ℕ → Progress → Progress
progress_at k p = record { db = commit_at k p.db; cursors = map (cursor_at k) p.cursors; changes = p.changes }

-- lists
pub items_at : (k : ℕ) (db : Db) (d : ℕ) → items (commit_at k db) d ≡ map (item_at k) (items db d)
items_at k [] d = refl
items_at k (is ∷ db) zero = refl
items_at k (is ∷ db) (suc d) = items_at k db d

with_items_at : (k : ℕ) (db : Db) (d : ℕ) (js : List Item) → with_items (commit_at k db) d (map (item_at k) js) ≡ commit_at k (with_items db d js)
with_items_at k [] d js = refl
with_items_at k (is ∷ db) zero js = refl
with_items_at k (is ∷ db) (suc d) js = ap (λ z. map (item_at k) is ∷ z) (with_items_at k db d js)

-- one list by a function, and by the same of committed lists
list_at : (k : ℕ) (db : Db) (d : ℕ) (f g : List Item → List Item) → g (map (item_at k) (items db d)) ≡ map (item_at k) (f (items db d)) →
    with_items (commit_at k db) d (g (items (commit_at k db) d)) ≡ commit_at k (with_items db d (f (items db d)))
list_at k db d f g e =
    ap (λ z. with_items (commit_at k db) d (g z)) (items_at k db d)
    ∙ (ap (with_items (commit_at k db) d) e ∙ with_items_at k db d (f (items db d)))

inserted_at : (k m : ℕ) (keys : List ℕ) (t : Tree) (is : List Item) →
    insert_by_key keys (record { id = record { place = at k; change = m }; term = t }) (map (item_at k) is)
    ≡ map (item_at k) (insert_by_key keys (new_item m t) is)
inserted_at k m keys t [] = refl
inserted_at k m keys t (i ∷ is) = chosen (is_less (tuple_cmp keys t i.term)) (inserted_at k m keys t is)
  where
    new : Item
    new = record { id = record { place = at k; change = m }; term = t }

    chosen : (b : Bool) → insert_by_key keys new (map (item_at k) is) ≡ map (item_at k) (insert_by_key keys (new_item m t) is) →
        cond b (new ∷ item_at k i ∷ map (item_at k) is) (item_at k i ∷ insert_by_key keys new (map (item_at k) is))
        ≡ map (item_at k) (cond b (new_item m t ∷ i ∷ is) (i ∷ insert_by_key keys (new_item m t) is))
    chosen true h = refl
    chosen false h = ap (λ z. item_at k i ∷ z) h

pub filtered_at : (k : ℕ) (p q : Item → Bool) (is : List Item) → Each (λ i. p (item_at k i) ≡ q i) is →
    filter p (map (item_at k) is) ≡ map (item_at k) (filter q is)
filtered_at k p q [] e = refl
filtered_at k p q (i ∷ is) e =
    ap (λ b. cond b (item_at k i ∷ filter p (map (item_at k) is)) (filter p (map (item_at k) is))) e.0 ∙ chosen (q i) (filtered_at k p q is e.1)
  where
    chosen : (b : Bool) → filter p (map (item_at k) is) ≡ map (item_at k) (filter q is) →
        cond b (item_at k i ∷ filter p (map (item_at k) is)) (filter p (map (item_at k) is)) ≡ map (item_at k) (cond b (i ∷ filter q is) (filter q is))
    chosen true h = ap (λ z. item_at k i ∷ z) h
    chosen false h = h

-- what an item that is to be taken out is named by
abbrev IsNamedWithin : ℕ → ℕ → Alter ItemName → Type 0
IsNamedWithin k m (puts t) = Unit {0}
IsNamedWithin k m (takes t) = Unit {0}
IsNamedWithin k m (puts_first c) = Unit {0}
IsNamedWithin k m (puts_last c) = Unit {0}
IsNamedWithin k m (drops x) = IsWithin (IsOlder k) m (record { id = x.id; term = true_body })

module _ (decls : List Decl) (k : ℕ) where
  change_at : (m : ℕ) (c : Alter ItemName) (db : Db) → Each (Each (IsWithin (IsOlder k) m)) db → IsNamedWithin k m c →
      db_after_change decls (record { place = at k; change = m }) (alter_at k c) (commit_at k db)
      ≡ commit_at k (db_after_change decls (record { place = mine; change = m }) c db)
  change_at m (puts t) db w n =
      let d = list_for decls t in
      let keys = keys_of decls d in
      list_at k db d (insert_by_key keys (new_item m t)) (insert_by_key keys (record { id = record { place = at k; change = m }; term = t }))
      (inserted_at k m keys t (items db d))
  change_at m (takes t) db w n =
      let d = list_for decls t in
      let p : Item → Bool = λ i. not (is_same i.term t) in
      list_at k db d (filter p) (filter p) (filtered_at k p p (items db d) (each_of (λ i. p (item_at k i) ≡ p i) (items db d) (λ i. refl)))
  change_at m (puts_first c) db w n =
      list_at k db (list_for decls (head_of c)) (λ is. new_item m c ∷ is) (λ is. record { id = record { place = at k; change = m }; term = c } ∷ is) refl
  change_at m (puts_last c) db w n =
      let d = list_for decls (head_of c) in
      list_at k db d (λ is. is ++ new_item m c ∷ []) (λ is. is ++ record { id = record { place = at k; change = m }; term = c } ∷ [])
      (sym (map-append (item_at k) (items db d) (new_item m c ∷ [])))
  change_at m (drops x) db w n =
      let d = x.list in
      let p : Item → Bool = λ i. not (is_same_id i.id (id_at k x.id)) in
      let q : Item → Bool = λ i. not (is_same_id i.id x.id) in
      list_at k db d (filter q) (filter p)
      (filtered_at k p q (items db d)
      (each_by (IsWithin (IsOlder k) m) (λ i. p (item_at k i) ≡ q i) (items db d)
      (λ i h. ap (λ o. not (is_equal o)) (ids_compare k m i (record { id = x.id; term = true_body }) h n)) (each_items (IsWithin (IsOlder k) m) db d w)))

  -- lists, and cursors over them
  pub record IsIn (p : Progress) : Type 0 where
    pub lists : Each (Each (IsWithin (IsOlder k) p.changes)) p.db
    pub cursors : Each (λ (c : Cursor). Each (IsWithin (IsOlder k) p.changes) c.members) p.cursors

  cursors_more : (m : ℕ) (cs : List Cursor) → Each (λ (c : Cursor). Each (IsWithin (IsOlder k) m) c.members) cs →
      Each (λ (c : Cursor). Each (IsWithin (IsOlder k) (1 + m)) c.members) cs
  cursors_more m cs e =
      each_by (λ (c : Cursor). Each (IsWithin (IsOlder k) m) c.members) (λ (c : Cursor). Each (IsWithin (IsOlder k) (1 + m)) c.members) cs
      (λ c. within_more (IsOlder k) m c.members) e

  -- a change, if there was one
  by_change : (b : Bool) (o : Option (Alter ItemName)) (p : Progress) → IsIn p → ((c : Alter ItemName) → o ≡ Some c → IsNamedWithin k p.changes c) →
      (progress_by_change decls (at k) b (option_map (alter_at k) o) (progress_at k p) ≡ progress_at k (progress_by_change decls mine b o p))
      × IsIn (progress_by_change decls mine b o p)
  by_change true None p i n = (
    refl,
    record {
      lists = each_by (Each (IsWithin (IsOlder k) p.changes)) (Each (IsWithin (IsOlder k) (1 + p.changes))) p.db (within_more (IsOlder k) p.changes) i.lists;
      cursors = cursors_more p.changes p.cursors i.cursors;
    },
  )
  by_change true (Some c) p i n = (
    ap (λ z. record { db = z; cursors = map (cursor_at k) p.cursors; changes = 1 + p.changes }) (change_at p.changes c p.db i.lists (n c refl)),
    record {
      lists = changed_within decls (IsOlder k) p.changes c p.db i.lists;
      cursors = cursors_more p.changes p.cursors i.cursors;
    },
  )
  by_change false o p i n = (refl, i)

  -- an operation
  same_alter : (p : Progress) (o : Operation) → alter_of (map (cursor_at k) p.cursors) o ≡ option_map (alter_at k) (alter_of p.cursors o)
  same_alter p (opens d t) = refl
  same_alter p (next c i) = refl
  same_alter p (insert t) = refl
  same_alter p (delete t) = refl
  same_alter p (assertz t) = refl
  same_alter p (asserta t) = refl
  same_alter p (delete_at c i) = under p.cursors c
    where
      named : (n : ℕ) (js : List Item) (i : ℕ) →
          option_map (λ j. drops (record { list = n; id = j.id })) (slice_get (map (item_at k) js) i)
          ≡ option_map (alter_at k) (option_map (λ j. drops (record { list = n; id = j.id })) (slice_get js i))
      named n [] i = refl
      named n (j ∷ js) zero = refl
      named n (j ∷ js) (suc i) = named n js i

      under : (cs : List Cursor) (c : ℕ) → alter_of (map (cursor_at k) cs) (delete_at c i) ≡ option_map (alter_at k) (alter_of cs (delete_at c i))
      under [] c = refl
      under (x ∷ cs) zero = named x.list x.members i
      under (x ∷ cs) (suc c) = under cs c

  named_within : (m n : ℕ) (js : List Item) (i : ℕ) → Each (IsWithin (IsOlder k) m) js → (x : Alter ItemName) →
      option_map (λ j. drops (record { list = n; id = j.id })) (slice_get js i) ≡ Some x
      → IsNamedWithin k m x
  named_within m n [] i w x e = absurd (cc e)
  named_within m n (j ∷ js) zero w x e = let q : drops (record { list = n; id = j.id }) ≡ x = cc e in subst (IsNamedWithin k m) q w.0
  named_within m n (j ∷ js) (suc i) w x e = named_within m n js i w.1 x e

  member_within : (m : ℕ) (cs : List Cursor) (c i : ℕ) → Each (λ (c : Cursor). Each (IsWithin (IsOlder k) m) c.members) cs → (x : Alter ItemName) →
      alter_of cs (delete_at c i) ≡ Some x
      → IsNamedWithin k m x
  member_within m [] c i w x e = absurd (cc e)
  member_within m (y ∷ cs) zero i w x e = named_within m y.list y.members i w.0 x e
  member_within m (y ∷ cs) (suc c) i w x e = member_within m cs c i w.1 x e

  put_within : (m : ℕ) (y x : Alter ItemName) → IsNamedWithin k m y → Some y ≡ Some x → IsNamedWithin k m x
  put_within m y x w e = let q : y ≡ x = cc e in subst (IsNamedWithin k m) q w

  name_within : (p : Progress) (o : Operation) → IsIn p → (x : Alter ItemName) → alter_of p.cursors o ≡ Some x → IsNamedWithin k p.changes x
  name_within p (opens d t) w x e = absurd (cc e)
  name_within p (next c i) w x e = absurd (cc e)
  name_within p (insert t) w x e = put_within p.changes (puts t) x tt e
  name_within p (delete t) w x e = put_within p.changes (takes t) x tt e
  name_within p (assertz t) w x e = put_within p.changes (puts_last t) x tt e
  name_within p (asserta t) w x e = put_within p.changes (puts_first t) x tt e
  name_within p (delete_at c i) w x e = member_within p.changes p.cursors c i w.cursors x e

  same_cursor : (d : ℕ) (t : Tree) (db : Db) → cursor_over decls d t (commit_at k db) ≡ cursor_at k (cursor_over decls d t db)
  same_cursor d t db =
      let u = unifies decls d t in
      ap (λ z. record { list = d; members = z })
      (ap (filter u) (items_at k db d) ∙ filtered_at k u u (items db d) (each_of (λ i. u (item_at k i) ≡ u i) (items db d) (λ i. refl)))

  abbrev StepsAlike : Operation → Reply → Progress → Type 0
  StepsAlike o r p =
      (progress_by decls (at k) (o, r) (progress_at k p) ≡ progress_at k (progress_by decls mine (o, r) p)) × IsIn (progress_by decls mine (o, r) p)

  by_alter : (o : Operation) (r : Reply) (p : Progress) → IsIn p
      → (progress_by_change decls (at k) (is_change r) (alter_of (map (cursor_at k) p.cursors) o) (progress_at k p)
      ≡ progress_at k (progress_by_change decls mine (is_change r) (alter_of p.cursors o) p))
      × IsIn (progress_by_change decls mine (is_change r) (alter_of p.cursors o) p)
  by_alter o r p w =
      let h = by_change (is_change r) (alter_of p.cursors o) p w (name_within p o w) in
      (ap (λ z. progress_by_change decls (at k) (is_change r) z (progress_at k p)) (same_alter p o) ∙ h.0, h.1)

  by_operation : (o : Operation) (r : Reply) (p : Progress) → IsIn p → StepsAlike o r p
  by_operation (opens d t) r p w =
      let c = cursor_over decls d t p.db in (
        ap (λ z. record { db = commit_at k p.db; cursors = z; changes = p.changes })
            (ap (λ z. map (cursor_at k) p.cursors ++ z ∷ []) (same_cursor d t p.db) ∙ sym (map-append (cursor_at k) p.cursors (c ∷ []))),
        record {
          lists = w.lists;
          cursors = each_and_one (λ (c : Cursor). Each (IsWithin (IsOlder k) p.changes) c.members) p.cursors c w.cursors
              (each_filter (IsWithin (IsOlder k) p.changes) (unifies decls d t) (items p.db d)
              (each_items (IsWithin (IsOlder k) p.changes) p.db d w.lists));
        },
      )
  by_operation (next c i) r p w = by_alter (next c i) r p w
  by_operation (insert t) r p w = by_alter (insert t) r p w
  by_operation (delete t) r p w = by_alter (delete t) r p w
  by_operation (assertz t) r p w = by_alter (assertz t) r p w
  by_operation (asserta t) r p w = by_alter (asserta t) r p w
  by_operation (delete_at c i) r p w = by_alter (delete_at c i) r p w

  by_log : (l : Log) (p : Progress) → IsIn p → progress_after decls (at k) l (progress_at k p) ≡ progress_at k (progress_after decls mine l p)
  by_log [] p i = refl
  by_log (e ∷ l) p i =
      let s = by_operation e.0 e.1 p i in ap (progress_after decls (at k) l) s.0 ∙ by_log l (progress_by decls mine e p) s.1

  pub commit_is_change : (db : Db) (l : Log) → AreBelow k db → commit_at k (db_after_log decls db l mine) ≡ db_after_log decls db l (at k)
  commit_is_change db l b =
      let p : Progress = record { db = db; cursors = []; changes = 0 } in
      sym (ap (λ q. q.db) (by_log l p (record { lists = below_within k db b; cursors = tt })))
      ∙ ap (λ z. db_after_log decls z l (at k)) (db_stays k db (below_placed k db b))
