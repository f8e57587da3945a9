-- A cursor that is opened is the one that the definitions open, and the items that a pattern meets are found one after another.
use Rattle.std.proofs.Common.{◌≡◌, ℕ, zero, suc, ◌+◌, ◌<◌, Bool, true, false, ◌&&◌, cond, List, [], ◌∷◌, ◌++◌, length, get_or, take, refl, sym, ap, ◌∙◌, subst, arith}
use Rattle.std.specs.Prelude.{nat_le, nat_lt, Option, Some, None, is_some, slice_get}
use Rattle.std.specs.Option.{option_map_or}
use Rattle.std.specs.List.{filter}
use Rattle.std.proofs.lemmas.Bool.{and_from, and_parts}
use Rattle.std.proofs.lemmas.List.{map-append}
use Rattle.std.proofs.lemmas.List.Elements.{filter-append}
use Rattle.std.proofs.lemmas.List.Folds.{list_all-append}
use Rattle.ml_list_desk.specs.Items.{item_seen, items_seen}
use Rattle.ml_list_desk.specs.inside.ItemList.{are_within, is_met, item_with, ItemList, items_with, stored_head}
use Rattle.ml_list_desk.specs.inside.Standing.{are_cursors_within, cursor_of, db_of, decls_of, is_cursor_within, pool_of, StandFor}
use Rattle.ml_list_desk.specs.declared.list_cursor.ListCursor.{ListCursor}
use Rattle.ml_list_desk.specs.declared.list_item.ListItem.{ListItem}
use Rattle.ml_list_desk.proofs.Numbers.{below_to}
use Rattle.ml_list_desk.proofs.OneList.{list_there}
use Rattle.ml_list_desk.proofs.TakenOut.{one_more}
use Rattle.ml_search.specs.Db.{Item, items}
use Rattle.ml_search.specs.Operations.{is_valid_after, Log, opens}
use Rattle.ml_search.specs.Program.{holds_of, is_clause_list, is_of}
use Rattle.ml_search.specs.Replay.{cursor_over, item_head, rename_apart, reply, Store, unifies}
use Rattle.ml_term.specs.Limits.{max_term_nodes}
use Rattle.ml_term.specs.Tree.{nodes, Tree}
use Rattle.ml_term.specs.Unify.{unifier}
use Rattle.ml_term.specs.Valid.{is_valid}
use Rattle.ml_term.specs.declared.declaration.Decl.{Decl}
use Rattle.ml_term.specs.declared.declaration.Kind.{Kind}
use Rattle.ml_term.specs.declared.declaration.Kind.TheVariants.{Clauses, Relation}

-- ---- the items that a pattern meets

one_seen : (pool : List ListItem) (ns : List ℕ) (n : ℕ) → items_seen (items_with pool (ns ++ n ∷ []))
    ≡ items_seen (items_with pool ns) ++ item_seen (item_with pool n) ∷ []
one_seen pool [] n = refl
one_seen pool (m ∷ ns) n = ap (λ is. item_seen (item_with pool m) ∷ is) (one_seen pool ns n)

module _ (p : Item → Bool) (pool : List ListItem) (numbers found : List ℕ) (at n : ℕ) where
  one_filtered : at < length numbers → n ≡ get_or numbers at 0
      → filter p (items_seen (items_with pool (take (at + 1) numbers)))
      ≡ filter p (items_seen (items_with pool (take at numbers))) ++ cond (p (item_seen (item_with pool n))) (item_seen (item_with pool n) ∷ []) []
  one_filtered h e =
      ap (λ is. filter p (items_seen is)) (one_more pool numbers at n h e)
      ∙ ap (filter p) (map-append item_seen (items_with pool (take at numbers)) (item_with pool n ∷ []))
      ∙ filter-append p (items_seen (items_with pool (take at numbers))) (item_seen (item_with pool n) ∷ [])

  pub found_met : at < length numbers → n ≡ get_or numbers at 0
      → items_seen (items_with pool found) ≡ filter p (items_seen (items_with pool (take at numbers)))
      → p (item_seen (item_with pool n)) ≡ true
      → items_seen (items_with pool (found ++ n ∷ [])) ≡ filter p (items_seen (items_with pool (take (at + 1) numbers)))
  found_met h e s m =
      one_seen pool found n
      ∙ ap (λ is. is ++ item_seen (item_with pool n) ∷ []) s
      ∙ ap (λ b. filter p (items_seen (items_with pool (take at numbers))) ++ cond b (item_seen (item_with pool n) ∷ []) []) (sym m)
      ∙ sym (one_filtered h e)

  pub passed_by : at < length numbers → n ≡ get_or numbers at 0
      → items_seen (items_with pool found) ≡ filter p (items_seen (items_with pool (take at numbers)))
      → p (item_seen (item_with pool n)) ≡ false → items_seen (items_with pool found) ≡ filter p (items_seen (items_with pool (take (at + 1) numbers)))
  passed_by h e s m =
      s
      ∙ nothing (filter p (items_seen (items_with pool (take at numbers))))
      ∙ ap (λ b. filter p (items_seen (items_with pool (take at numbers))) ++ cond b (item_seen (item_with pool n) ∷ []) []) (sym m)
      ∙ sym (one_filtered h e)
    where
      nothing : (is : List Item) → is ≡ is ++ []
      nothing [] = refl
      nothing (i ∷ is) = ap (λ js. i ∷ js) (nothing is)

  pub one_within : are_within pool found ≡ true → n < length pool → are_within pool (found ++ n ∷ []) ≡ true
  one_within w h =
      list_all-append (λ m. nat_lt m (length pool)) found (n ∷ [])
      ∙ and_from (are_within pool found) (nat_lt n (length pool) && true) w (and_from (nat_lt n (length pool)) true (below_to n (length pool) h) refl)

-- ---- a valid opening

-- the pattern of a valid opening is a term, and its list is one of the declared ones
pub record IsOpened (ds : List Decl) (d : ℕ) (p : Tree) : Type 0 where
  pub decl : Decl
  pub there : slice_get ds d ≡ Some decl
  pub valid : is_valid p ≡ true
  pub within : d < length ds

get_within : (ds : List Decl) (d : ℕ) (q : Decl) → slice_get ds d ≡ Some q → d < length ds
get_within [] d q e = absurd (cc e)
get_within (x ∷ ds) zero q e = omega arith
get_within (x ∷ ds) (suc d) q e = omega (arith, get_within ds d q e)

pub opening : (ds : List Decl) (l : Log) (d : ℕ) (p : Tree) → is_valid_after ds l (opens d p) ≡ true → IsOpened ds d p
opening ds l d p v = by (slice_get ds d) refl (and_parts (holds_of (λ q. is_valid p && is_of q.pred.name q.pred.arity p) (slice_get ds d))
    (nat_le (nodes p) max_term_nodes) v).0
  where
    by : (o : Option Decl) → slice_get ds d ≡ o → holds_of (λ q. is_valid p && is_of q.pred.name q.pred.arity p) o ≡ true → IsOpened ds d p
    by None e h = absurd (cc h)
    by (Some q) e h = record {
      decl = q;
      there = e;
      valid = (and_parts (is_valid p) (is_of q.pred.name q.pred.arity p) h).0;
      within = get_within ds d q e;
    }

-- ---- its cursor

pub decl_at : (lists : List ItemList) (d : ℕ) (l : ItemList) → slice_get lists d ≡ Some l → slice_get (decls_of lists) d ≡ Some l.decl
decl_at [] d l e = absurd (cc e)
decl_at (k ∷ lists) zero l e = let q : k ≡ l = cc in ap (λ (j : ItemList). Some j.decl) q
decl_at (k ∷ lists) (suc d) l e = decl_at lists d l e

pub pool_at : (lists : List ItemList) (d : ℕ) (l : ItemList) → slice_get lists d ≡ Some l → pool_of lists d ≡ l.pool
pool_at lists d l e = ap (λ (o : Option ItemList). option_map_or (λ (j : ItemList). j.pool) o []) e

-- the head of an item is taken by its list's kind
same_head : (d : Decl) (t : Tree) → stored_head d.kind t ≡ item_head (is_clause_list d) t
same_head d t = by d.kind refl
  where
    by : (k : Kind) → d.kind ≡ k → stored_head k t ≡ item_head (is_clause_list d) t
    by Relation e = rw e refl
    by Clauses e = rw e refl

filtered_alike : (f g : Item → Bool) (is : List Item) → ((i : Item) → f i ≡ g i) → filter f is ≡ filter g is
filtered_alike f g [] h = refl
filtered_alike f g (i ∷ is) h =
    ap (λ js. cond (f i) (i ∷ js) js) (filtered_alike f g is h) ∙ ap (λ b. cond b (i ∷ filter g is) (filter g is)) (h i)

module _ (decls : List Decl) (lists : List ItemList) (d : ℕ) (l : ItemList) (p : Tree) where
  met_alike : decls_of lists ≡ decls → slice_get lists d ≡ Some l → (i : Item) → is_met l.decl p i ≡ unifies decls d p i
  met_alike e at i =
      ap (λ t. is_some (unifier p (rename_apart p t))) (same_head l.decl i.term)
      ∙ ap (λ (o : Option Decl). is_some (unifier p (rename_apart p (item_head (holds_of is_clause_list o) i.term))))
      (sym (decl_at lists d l at) ∙ ap (λ ds. slice_get ds d) e)

  -- the cursor with the numbers of the items that the pattern meets
  pub cursor_opened : (c : ListCursor) → decls_of lists ≡ decls → slice_get lists d ≡ Some l → c.list ≡ d
      → items_seen (items_with l.pool c.members.items) ≡ filter (is_met l.decl p) (items_seen l.items)
      → cursor_of lists c ≡ cursor_over decls d p (db_of lists)
  cursor_opened c e at s m =
      let members : items_seen (items_with (pool_of lists c.list) c.members.items) ≡ filter (unifies decls d p) (items (db_of lists) d) =
      ap (λ k. items_seen (items_with (pool_of lists k) c.members.items)) s
      ∙ ap (λ pool. items_seen (items_with pool c.members.items)) (pool_at lists d l at)
      ∙ m
      ∙ filtered_alike (is_met l.decl p) (unifies decls d p) (items_seen l.items) (met_alike e at)
      ∙ ap (filter (unifies decls d p)) (sym (list_there lists d l at)) in
      cc

  lists_within : (lists : List ItemList) (d : ℕ) → slice_get lists d ≡ Some l → d < length lists
  lists_within [] d e = absurd (cc e)
  lists_within (x ∷ lists) zero e = omega arith
  lists_within (x ∷ lists) (suc d) e = omega (arith, lists_within lists d e)

  -- its numbers are those of items
  pub opened_within : (cs : List ListCursor) (c : ListCursor) → slice_get lists d ≡ Some l → c.list ≡ d → are_within l.pool c.members.items ≡ true
      → are_cursors_within lists cs ≡ true
      → are_cursors_within lists (cs ++ c ∷ []) ≡ true
  opened_within cs c at s w ws =
      list_all-append (is_cursor_within lists) cs (c ∷ [])
      ∙ and_from (are_cursors_within lists cs) (is_cursor_within lists c && true) ws
      (and_from (is_cursor_within lists c) true
      (and_from (nat_lt c.list (length lists)) (are_within (pool_of lists c.list) c.members.items)
      (below_to c.list (length lists) (omega (arith, s, lists_within lists d at)))
      (subst (λ pool. are_within pool c.members.items ≡ true) (sym (ap (pool_of lists) s ∙ pool_at lists d l at)) w))
      refl)

  -- the store with the cursor
  pub opened_stands : (cs : List ListCursor) (c : ListCursor) (changes : ℕ) (s : Store) → cursor_of lists c ≡ cursor_over decls d p (db_of lists)
      → StandFor lists cs changes s
      → StandFor lists (cs ++ c ∷ []) changes (reply decls (opens d p) s).1
  opened_stands cs c changes s e st = record {
    db = st.db;
    opened =
        map-append (cursor_of lists) cs (c ∷ [])
        ∙ ap (λ ks. ks ++ cursor_of lists c ∷ []) st.opened
        ∙ ap (λ k. s.cursors ++ k ∷ []) (e ∙ ap (cursor_over decls d p) st.db);
    made = st.made;
  }
