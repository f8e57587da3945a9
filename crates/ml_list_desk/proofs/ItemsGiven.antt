-- The item that a cursor gives with a number.
use Rattle.std.proofs.Common.{◌≡◌, ℕ, zero, suc, ◌<◌, true, List, [], ◌∷◌, length, get_or, map, refl, ap, ◌∙◌, subst}
use Rattle.std.specs.Prelude.{nat_lt, Option, Some, None, option_and_then, slice_get}
use Rattle.std.proofs.lemmas.Bool.{and_parts}
use Rattle.ml_list_desk.specs.Items.{item_seen}
use Rattle.ml_list_desk.specs.inside.ItemList.{are_within, item_with, ItemList, items_with}
use Rattle.ml_list_desk.specs.inside.Standing.{are_cursors_within, cursor_of, decls_of, is_cursor_within, pool_of}
use Rattle.ml_list_desk.specs.declared.list_cursor.ListCursor.{ListCursor}
use Rattle.ml_list_desk.specs.declared.list_item.ListItem.{ListItem}
use Rattle.ml_list_desk.proofs.Declared.{stands_there}
use Rattle.ml_list_desk.proofs.Numbers.{below_from}
use Rattle.ml_list_desk.proofs.Opening.{decl_at, pool_at}
use Rattle.ml_search.specs.Db.{is_allowed}
use Rattle.ml_search.specs.Operations.{is_reply_after, item, Log, next, opened_lists}
use Rattle.ml_search.specs.Program.{holds_of}
use Rattle.ml_search.specs.Replay.{Cursor, member}
use Rattle.ml_term.specs.Tree.{Tree}

pub mapped : {A B : Type 0} (f : A → B) (xs : List A) (i : ℕ) (x : A) → slice_get xs i ≡ Some x → slice_get (map f xs) i ≡ Some (f x)
mapped f [] i x e = absurd (cc e)
mapped f (y ∷ xs) zero x e = let q : y ≡ x = cc in ap (λ a. Some (f a)) q
mapped f (y ∷ xs) (suc i) x e = mapped f xs i x e

unmapped : {A B : Type 0} (f : A → B) (xs : List A) (i : ℕ) → slice_get xs i ≡ None → slice_get (map f xs) i ≡ None
unmapped f [] i e = refl
unmapped f (y ∷ xs) zero e = absurd (cc e)
unmapped f (y ∷ xs) (suc i) e = unmapped f xs i e

one_within : (lists : List ItemList) (cursors : List ListCursor) (c : ℕ) (k : ListCursor) → are_cursors_within lists cursors ≡ true
    → slice_get cursors c ≡ Some k → is_cursor_within lists k ≡ true
one_within lists [] c k w e = absurd (cc e)
one_within lists (j ∷ cursors) zero k w e =
    let q : j ≡ k = cc in
    subst (λ x. is_cursor_within lists x ≡ true) q (and_parts (is_cursor_within lists j) (are_cursors_within lists cursors) w).0
one_within lists (j ∷ cursors) (suc c) k w e = one_within lists cursors c k (and_parts (is_cursor_within lists j) (are_cursors_within lists cursors) w).1 e

number_there : (pool : List ListItem) (ns : List ℕ) (i n : ℕ) → are_within pool ns ≡ true → slice_get ns i ≡ Some n → n < length pool
number_there pool [] i n w e = absurd (cc e)
number_there pool (m ∷ ns) zero n w e =
    let q : m ≡ n = cc in
    subst (λ k. k < length pool) q (below_from m (length pool) (and_parts (nat_lt m (length pool)) (are_within pool ns) w).0)
number_there pool (m ∷ ns) (suc i) n w e = number_there pool ns i n (and_parts (nat_lt m (length pool)) (are_within pool ns) w).1 e

-- a cursor's list is there
pub list_within : (lists : List ItemList) (cursors : List ListCursor) (c : ℕ) (k : ListCursor) → are_cursors_within lists cursors ≡ true
    → slice_get cursors c ≡ Some k → k.list < length lists
list_within lists cursors c k w e =
    below_from k.list (length lists) (and_parts (nat_lt k.list (length lists)) (are_within (pool_of lists k.list) k.members.items)
    (one_within lists cursors c k w e)).0

-- the cursor, its list, and the item's number
pub record IsGiven (lists : List ItemList) (cursors : List ListCursor) (c i n : ℕ) (k : ListCursor) (l : ItemList) : Type 0 where
  pub at : slice_get lists k.list ≡ Some l
  pub within : n < length l.pool
  pub member_is : member (map (cursor_of lists) cursors) c i ≡ Some (item_seen (item_with l.pool n))

pub given : (lists : List ItemList) (cursors : List ListCursor) (c i n : ℕ) (k : ListCursor) (l : ItemList) → are_cursors_within lists cursors ≡ true
    → slice_get cursors c ≡ Some k
    → slice_get k.members.items i ≡ Some n → l ≡ get_or lists k.list l → IsGiven lists cursors c i n k l
given lists cursors c i n k l w e f g =
    let at : slice_get lists k.list ≡ Some l = stands_there lists k.list l (list_within lists cursors c k w e) g in
    let pool : pool_of lists k.list ≡ l.pool = pool_at lists k.list l at in
    let inside = (and_parts (nat_lt k.list (length lists)) (are_within (pool_of lists k.list) k.members.items) (one_within lists cursors c k w e)).1 in
    record {
      at = at;
      within = number_there l.pool k.members.items i n (subst (λ p. are_within p k.members.items ≡ true) pool inside) f;
      member_is =
          ap (option_and_then (λ (j : Cursor). slice_get j.members i)) (mapped (cursor_of lists) cursors c k e)
          ∙ mapped item_seen (items_with (pool_of lists k.list) k.members.items) i (item_with (pool_of lists k.list) n)
          (mapped (item_with (pool_of lists k.list)) k.members.items i n f)
          ∙ ap (λ p. Some (item_seen (item_with p n))) pool;
    }

-- a cursor has no such item, or there is no such cursor
pub no_cursor_there : (lists : List ItemList) (cursors : List ListCursor) (c i : ℕ) → slice_get cursors c ≡ None
    → member (map (cursor_of lists) cursors) c i ≡ None
no_cursor_there lists cursors c i e = ap (option_and_then (λ (j : Cursor). slice_get j.members i)) (unmapped (cursor_of lists) cursors c e)

pub no_member_there : (lists : List ItemList) (cursors : List ListCursor) (c i : ℕ) (k : ListCursor) → slice_get cursors c ≡ Some k
    → slice_get k.members.items i ≡ None
    → member (map (cursor_of lists) cursors) c i ≡ None
no_member_there lists cursors c i k e f =
    ap (option_and_then (λ (j : Cursor). slice_get j.members i)) (mapped (cursor_of lists) cursors c k e)
    ∙ unmapped item_seen (items_with (pool_of lists k.list) k.members.items) i (unmapped (item_with (pool_of lists k.list)) k.members.items i f)

-- an item is of the kind of its cursor's list
pub kind_of_item : (lists : List ItemList) (cursors : List ListCursor) (c i : ℕ) (k : ListCursor) (l : ItemList) (t : Tree) (log : Log)
    → opened_lists log ≡ map (λ x. x.list) cursors
    → slice_get cursors c ≡ Some k → slice_get lists k.list ≡ Some l → is_allowed l.decl t ≡ true
    → is_reply_after (decls_of lists) log (next c i) (item t) ≡ true
kind_of_item lists cursors c i k l t log o e at a =
    let opened : slice_get (opened_lists log) c ≡ Some k.list = ap (λ ns. slice_get ns c) o ∙ mapped (λ (x : ListCursor). x.list) cursors c k e in
    ap (λ (x : Option ℕ). holds_of (λ q. is_allowed q t) (option_and_then (slice_get (decls_of lists)) x)) opened
    ∙ ap (holds_of (λ q. is_allowed q t)) (decl_at lists k.list l at)
    ∙ a
