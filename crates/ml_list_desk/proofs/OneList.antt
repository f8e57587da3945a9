-- One list of many changed: the lists that they stand for, and the cursors over them, which stay.
use Rattle.std.proofs.Common.{take, ◌≡◌, ℕ, zero, suc, true, List, [], ◌∷◌, ◌++◌, length, map, refl, sym, ap, ◌∙◌, append-nil}
use Rattle.std.specs.Prelude.{nat_lt, Some, slice_get, slice_set}
use Rattle.std.proofs.lemmas.Bool.{and_parts, and_from}
use Rattle.ml_list_desk.specs.inside.ItemList.{are_within, ItemList, items_with}
use Rattle.ml_list_desk.specs.Items.{items_seen}
use Rattle.ml_list_desk.specs.inside.Standing.{are_cursors_within, cursor_of, db_of, decls_of, is_cursor_within, pool_of}
use Rattle.ml_list_desk.specs.declared.list_cursor.ListCursor.{ListCursor}
use Rattle.ml_list_desk.specs.declared.list_item.ListItem.{ListItem}
use Rattle.ml_list_desk.proofs.Numbers.{items_grown, within_grown}
use Rattle.ml_search.specs.Db.{Db, items, with_items}
use Rattle.ml_search.specs.Replay.{Cursor}

-- ---- the lists

pub list_there : (lists : List ItemList) (d : ℕ) (l : ItemList) → slice_get lists d ≡ Some l → items (db_of lists) d ≡ items_seen l.items
list_there [] d l e = absurd (cc e)
list_there (k ∷ lists) zero l e = let q : k ≡ l = cc in ap (λ (j : ItemList). items_seen j.items) q
list_there (k ∷ lists) (suc d) l e = list_there lists d l e

pub db_with : (lists : List ItemList) (d : ℕ) (l : ItemList) → db_of (slice_set lists d l) ≡ with_items (db_of lists) d (items_seen l.items)
db_with [] d l = refl
db_with (k ∷ lists) zero l = refl
db_with (k ∷ lists) (suc d) l = ap (λ db. items_seen k.items ∷ db) (db_with lists d l)

pub db_without : (db : Db) (d : ℕ) → with_items db d (items db d) ≡ db
db_without [] d = refl
db_without (is ∷ db) zero = refl
db_without (is ∷ db) (suc d) = ap (λ x. is ∷ x) (db_without db d)

pub decls_with : (lists : List ItemList) (d : ℕ) (l l' : ItemList) → slice_get lists d ≡ Some l → l'.decl ≡ l.decl
    → decls_of (slice_set lists d l') ≡ decls_of lists
decls_with [] d l l' e f = refl
decls_with (k ∷ lists) zero l l' e f = let q : k ≡ l = cc in ap (λ x. x ∷ decls_of lists) (f ∙ ap (λ (j : ItemList). j.decl) (sym q))
decls_with (k ∷ lists) (suc d) l l' e f = ap (λ x. k.decl ∷ x) (decls_with lists d l l' e f)

-- ---- the cursors

pools_with : (lists : List ItemList) (d : ℕ) (l l' : ItemList) (more : List ListItem) → slice_get lists d ≡ Some l → l'.pool ≡ l.pool ++ more → (k : ℕ)
    → (rest : List ListItem) × (pool_of (slice_set lists d l') k ≡ pool_of lists k ++ rest)
pools_with [] d l l' more e f k = absurd (cc e)
pools_with (j ∷ lists) zero l l' more e f zero = let q : j ≡ l = cc in (more, f ∙ ap (λ (x : ItemList). x.pool ++ more) (sym q))
pools_with (j ∷ lists) zero l l' more e f (suc k) = ([], sym (append-nil (pool_of lists k)))
pools_with (j ∷ lists) (suc d) l l' more e f zero = ([], sym (append-nil j.pool))
pools_with (j ∷ lists) (suc d) l l' more e f (suc k) = pools_with lists d l l' more e f k

length_with : (lists : List ItemList) (d : ℕ) (l : ItemList) → length (slice_set lists d l) ≡ length lists
length_with [] d l = refl
length_with (k ∷ lists) zero l = refl
length_with (k ∷ lists) (suc d) l = ap suc (length_with lists d l)

cursor_with : (lists : List ItemList) (d : ℕ) (l l' : ItemList) (more : List ListItem) (c : ListCursor) → slice_get lists d ≡ Some l
    → l'.pool ≡ l.pool ++ more → is_cursor_within lists c ≡ true
    → (cursor_of (slice_set lists d l') c ≡ cursor_of lists c) × (is_cursor_within (slice_set lists d l') c ≡ true)
cursor_with lists d l l' more c e f w =
    let parts = and_parts (nat_lt c.list (length lists)) (are_within (pool_of lists c.list) c.members.items) w in
    let grown = pools_with lists d l l' more e f c.list in
    let over : List ListItem → Cursor = λ is. record { list = c.list; members = items_seen is } in (
      ap over (ap (λ p. items_with p c.members.items) grown.1 ∙ items_grown (pool_of lists c.list) grown.0 c.members.items parts.1),
      and_from (nat_lt c.list (length (slice_set lists d l'))) (are_within (pool_of (slice_set lists d l') c.list) c.members.items)
          (ap (nat_lt c.list) (length_with lists d l') ∙ parts.0)
          (ap (λ p. are_within p c.members.items) grown.1 ∙ within_grown (pool_of lists c.list) grown.0 c.members.items parts.1),
    )

pub cursors_with : (lists : List ItemList) (d : ℕ) (l l' : ItemList) (more : List ListItem) (cs : List ListCursor) → slice_get lists d ≡ Some l
    → l'.pool ≡ l.pool ++ more
    → are_cursors_within lists cs ≡ true → (map (cursor_of (slice_set lists d l')) cs ≡ map (cursor_of lists) cs)
    × (are_cursors_within (slice_set lists d l') cs ≡ true)
cursors_with lists d l l' more [] e f w = (refl, refl)
cursors_with lists d l l' more (c ∷ cs) e f w =
    let parts = and_parts (is_cursor_within lists c) (are_cursors_within lists cs) w in
    let one = cursor_with lists d l l' more c e f parts.0 in
    let rest = cursors_with lists d l l' more cs e f parts.1 in (
      ap (λ x. x ∷ map (cursor_of (slice_set lists d l')) cs) one.0 ∙ ap (λ xs. cursor_of lists c ∷ xs) rest.0,
      and_from (is_cursor_within (slice_set lists d l') c) (are_cursors_within (slice_set lists d l') cs) one.1 rest.1,
    )

-- ---- all lists written back

front_of : {A : Type 0} (xs ys : List A) → take (length xs) (xs ++ ys) ≡ xs
front_of [] ys = refl
front_of (x ∷ xs) ys = ap (λ zs. x ∷ zs) (front_of xs ys)

pub all_written : (lists rest : List ItemList) (n : ℕ) → n ≡ length lists → take n (lists ++ rest) ≡ lists
all_written lists rest n e = ap (λ k. take k (lists ++ rest)) e ∙ front_of lists rest
