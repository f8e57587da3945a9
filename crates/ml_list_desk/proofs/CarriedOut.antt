-- Each operation that asks for a change is carried out by a change of one list.
use Rattle.std.proofs.Common.{◌≡◌, ℕ, zero, suc, ◌+◌, ◌<◌, ◌≤◌, Bool, true, false, not, List, [], ◌∷◌, ◌++◌, length, refl, sym, ap, ◌∙◌, subst, arith}
use Rattle.std.specs.Prelude.{find, nat_lt, Option, Some, slice_get, slice_set, if◌then◌else◌, unwrap_or}
use Rattle.std.specs.Option.{option_map, option_map_or}
use Rattle.std.specs.List.{insert}
use Rattle.ml_list_desk.proofs.Numbers.{below_from}
use Rattle.std.proofs.lemmas.List.Edits.{insert_end}
use Rattle.ml_list_desk.specs.declared.list_item.ListItem.{ListItem}
use Rattle.ml_list_desk.specs.inside.ItemList.{ItemList}
use Rattle.ml_list_desk.specs.Items.{items_seen}
use Rattle.ml_list_desk.specs.inside.ListDesks.{IsCarriedOut}
use Rattle.ml_list_desk.specs.inside.Outcomes.{count_of, IsChange, outcome_by, outcome_reply, own_id}
use Rattle.ml_list_desk.specs.inside.Standing.{are_cursors_within, decls_of, StandFor}
use Rattle.ml_list_desk.specs.declared.list_cursor.ListCursor.{ListCursor}
use Rattle.ml_list_desk.specs.declared.outcome.Outcome.{Outcome}
use Rattle.ml_list_desk.specs.declared.outcome.Outcome.TheVariants.{Absent, Added, Present, Removed}
use Rattle.ml_list_desk.proofs.Carrying.{carried}
use Rattle.ml_list_desk.proofs.OneList.{cursors_with, decls_with, list_there}
use Rattle.ml_search.specs.Changes.{Alter, at_list, change_limit, change_made, db_after_change, has_term, insert_by_key, ItemName, keys_of, list_for, no_change, puts, puts_first, puts_last, takes, without_term, would_change}
use Rattle.ml_search.specs.Db.{head_of, Item, items, with_items}
use Rattle.ml_search.specs.Limits.{max_changes}
use Rattle.ml_search.specs.Operations as O
use Rattle.ml_search.specs.Operations.{full, Operation}
use Rattle.ml_search.specs.Program.{arity_of, declaration_of, has_predicate, holds_of, name_of, place_of}
use Rattle.ml_search.specs.Replay.{reply, reply_by, reply_to_change, Store}
use Rattle.ml_search.specs.Seen.{reply_seen}
use Rattle.ml_term.specs.Tree.{Tree}
use Rattle.ml_term.specs.declared.declaration.Decl.{Decl}

-- ---- declarations

-- a declaration of which a test holds has a place
pub record IsDeclared (ds : List Decl) (f : List ℕ) (n : ℕ) (p : Decl → Bool) : Type 0 where
  pub place : ℕ
  pub decl : Decl
  pub found : place_of ds f n ≡ Some place
  pub there : slice_get ds place ≡ Some decl
  pub holds : p decl ≡ true

pub declared_place : (ds : List Decl) (f : List ℕ) (n : ℕ) (p : Decl → Bool) → holds_of p (declaration_of ds f n) ≡ true → IsDeclared ds f n p
declared_place [] f n p e = absurd (cc e)
declared_place (d ∷ ds) f n p e = by (declared_place ds f n p) (has_predicate f n d) refl e
  where
    by : (holds_of p (declaration_of ds f n) ≡ true → IsDeclared ds f n p) → (b : Bool) → has_predicate f n d ≡ b
        → holds_of p (if b then Some d else find (has_predicate f n) ds) ≡ true → IsDeclared (d ∷ ds) f n p
    by further true h q = record { place = 0; decl = d; found = rw h refl; there = refl; holds = q }
    by further false h q =
        let rest : IsDeclared ds f n p = further q in
        record { place = suc rest.place; decl = rest.decl; found = rw h (ap (option_map suc) rest.found); there = rest.there; holds = rest.holds }

-- ---- the count of changes

few_by : (few does : Bool) (done vain : Outcome) (changes : ℕ) → nat_lt changes max_changes ≡ few → count_of done ≡ 1 → count_of vain ≡ 0
    → changes ≤ max_changes
    → changes + count_of (outcome_by few does done vain) ≤ max_changes
few_by true true done vain changes e cd cv h = let l : changes < max_changes = below_from changes max_changes e in omega (arith, cd)
few_by true false done vain changes e cd cv h = omega (arith, cv)
few_by false does done vain changes e cd cv h = omega arith

module _ (decls : List Decl) (lists : List ItemList) (d : ℕ) (l l' : ItemList) (changes : ℕ) (o : Operation) (f : List Item → List Item)
    (done vain outcome : Outcome) (does : Bool) where
  -- what is to be known of each store for which the lists stand
  pub record Suits (cursors : List ListCursor) (s : Store) : Type 0 where
    pub alter : Alter ItemName
    pub asked : reply decls o s ≡ reply_to_change decls (Some alter) o s
    pub would : would_change decls alter s.lists.db ≡ does
    pub after : db_after_change decls (own_id changes) alter s.lists.db ≡ at_list decls d f s.lists.db

  pub carried_out : slice_get lists d ≡ Some l → IsChange (nat_lt changes max_changes) does done vain f l l' outcome
      → reply_seen (outcome_reply done) ≡ reply_by o change_made → count_of done ≡ 1 → reply_seen (outcome_reply vain) ≡ reply_by o no_change
      → count_of vain ≡ 0 → full ≡ reply_by o change_limit
      → (cursors : List ListCursor) → ((s : Store) → StandFor lists cursors changes s → Suits cursors s) → are_cursors_within lists cursors ≡ true
      → IsCarriedOut decls o lists (slice_set lists d l') cursors changes outcome
  carried_out at ch rd cd rv cv rf cursors suits w = record {
    told = λ s st.
        let u = suits s st in
        (carried decls lists cursors s d l l' u.alter o f done vain changes outcome does st w at ch u.would u.after rd cd rv cv rf).told
        ∙ ap (λ r. r.0) (sym u.asked);
    stands = λ s st.
        let u = suits s st in
        subst (λ r. StandFor (slice_set lists d l') cursors (changes + count_of outcome) r.1) (sym u.asked)
        (carried decls lists cursors s d l l' u.alter o f done vain changes outcome does st w at ch u.would u.after rd cd rv cv rf).stands;
    decls_are = decls_with lists d l l' at ch.decl;
    within = (cursors_with lists d l l' ch.more cursors at ch.pool w).1;
    few = λ h. subst (λ x. changes + count_of x ≤ max_changes) (sym ch.outcome_is)
        (few_by (nat_lt changes max_changes) does done vain changes refl cd cv h);
  }

module _ (decls : List Decl) (lists : List ItemList) (d : ℕ) (l l' : ItemList) (changes : ℕ) (outcome : Outcome) where
  decl_there : decls_of lists ≡ decls → slice_get lists d ≡ Some l → slice_get decls d ≡ Some l.decl
  decl_there e at = ap (λ ds. slice_get ds d) (sym e) ∙ there lists d at
    where
      there : (lists : List ItemList) (d : ℕ) → slice_get lists d ≡ Some l → slice_get (decls_of lists) d ≡ Some l.decl
      there [] d e = absurd (cc e)
      there (k ∷ lists) zero e = let q : k ≡ l = cc in ap (λ (j : ItemList). Some j.decl) q
      there (k ∷ lists) (suc d) e = there lists d e

  same_items : (cursors : List ListCursor) (s : Store) → slice_get lists d ≡ Some l → StandFor lists cursors changes s
      → items s.lists.db d ≡ items_seen l.items
  same_items cursors s at st = ap (λ db. items db d) (sym st.db) ∙ list_there lists d l at

  pub insert_carried : (t : Tree) → decls_of lists ≡ decls → place_of decls (name_of t) (arity_of t) ≡ Some d → slice_get lists d ≡ Some l
      → IsChange (nat_lt changes max_changes) (not (has_term t (items_seen l.items))) Added Present
      (insert_by_key l.decl.keys (record { id = own_id changes; term = t })) l l' outcome
      → (cursors : List ListCursor) → are_cursors_within lists cursors ≡ true
      → IsCarriedOut decls (O.insert t) lists (slice_set lists d l') cursors changes outcome
  insert_carried t e p at ch cursors w =
      let list : list_for decls t ≡ d = ap (λ x. unwrap_or x (length decls)) p in
      let keys : keys_of decls d ≡ l.decl.keys = ap (λ (x : Option Decl). option_map_or (λ (q : Decl). q.keys) x []) (decl_there e at) in
      carried_out decls lists d l l' changes (O.insert t) (insert_by_key l.decl.keys (record { id = own_id changes; term = t })) Added Present outcome
      (not (has_term t (items_seen l.items)))
      at ch refl refl refl refl refl cursors
      (λ s st. record {
        alter = puts t;
        asked = refl;
        would = ap (λ k. not (has_term t (items s.lists.db k))) list ∙ ap (λ is. not (has_term t is)) (same_items cursors s at st);
        after =
            ap (λ k. at_list decls k (insert_by_key (keys_of decls k) (record { id = own_id changes; term = t })) s.lists.db) list
            ∙ ap (λ ks. at_list decls d (insert_by_key ks (record { id = own_id changes; term = t })) s.lists.db) keys;
      }) w

  pub delete_carried : (t : Tree) → place_of decls (name_of t) (arity_of t) ≡ Some d → slice_get lists d ≡ Some l
      → IsChange (nat_lt changes max_changes) (has_term t (items_seen l.items)) Removed Absent (without_term t) l l' outcome
      → (cursors : List ListCursor) → are_cursors_within lists cursors ≡ true
      → IsCarriedOut decls (O.delete t) lists (slice_set lists d l') cursors changes outcome
  delete_carried t p at ch cursors w =
      let list : list_for decls t ≡ d = ap (λ x. unwrap_or x (length decls)) p in
      carried_out decls lists d l l' changes (O.delete t) (without_term t) Removed Absent outcome (has_term t (items_seen l.items)) at ch refl refl refl
      refl refl cursors
      (λ s st. record {
        alter = takes t;
        asked = refl;
        would = ap (λ k. has_term t (items s.lists.db k)) list ∙ ap (has_term t) (same_items cursors s at st);
        after = ap (λ k. at_list decls k (without_term t) s.lists.db) list;
      }) w

  pub first_carried : (t : Tree) → place_of decls (name_of (head_of t)) (arity_of (head_of t)) ≡ Some d → slice_get lists d ≡ Some l
      → IsChange (nat_lt changes max_changes) true Added Absent (λ is. insert is 0 (record { id = own_id changes; term = t })) l l' outcome
      → (cursors : List ListCursor) → are_cursors_within lists cursors ≡ true
      → IsCarriedOut decls (O.asserta t) lists (slice_set lists d l') cursors changes outcome
  first_carried t p at ch cursors w =
      let list : list_for decls (head_of t) ≡ d = ap (λ x. unwrap_or x (length decls)) p in
      carried_out decls lists d l l' changes (O.asserta t) (λ is. insert is 0 (record { id = own_id changes; term = t })) Added Absent outcome true at ch
      refl refl refl refl refl cursors
      (λ s st. record {
        alter = puts_first t;
        asked = refl;
        would = refl;
        after = ap (λ k. at_list decls k (λ is. record { id = own_id changes; term = t } ∷ is) s.lists.db) list;
      }) w

  pub last_carried : (t : Tree) (n : ℕ) → place_of decls (name_of (head_of t)) (arity_of (head_of t)) ≡ Some d → slice_get lists d ≡ Some l
      → n ≡ length l.items
      → IsChange (nat_lt changes max_changes) true Added Absent (λ is. insert is n (record { id = own_id changes; term = t })) l l' outcome
      → (cursors : List ListCursor) → are_cursors_within lists cursors ≡ true
      → IsCarriedOut decls (O.assertz t) lists (slice_set lists d l') cursors changes outcome
  last_carried t n p at q ch cursors w =
      let x : Item = record { id = own_id changes; term = t } in
      let list : list_for decls (head_of t) ≡ d = ap (λ y. unwrap_or y (length decls)) p in
      carried_out decls lists d l l' changes (O.assertz t) (λ is. insert is n x) Added Absent outcome true at ch refl refl refl refl refl cursors
      (λ s st. record {
        alter = puts_last t;
        asked = refl;
        would = refl;
        after =
            ap (λ k. at_list decls k (λ is. is ++ x ∷ []) s.lists.db) list
            ∙ ap (with_items s.lists.db d) (sym (insert_end (items s.lists.db d) x) ∙ ap (λ m. insert (items s.lists.db d) m x) (end s cursors st));
      }) w
    where
      counted : (is : List ListItem) → length (items_seen is) ≡ length is
      counted [] = refl
      counted (i ∷ is) = ap suc (counted is)

      end : (s : Store) → (cursors : List ListCursor) → StandFor lists cursors changes s → length (items s.lists.db d) ≡ n
      end s cursors st = ap length (same_items cursors s at st) ∙ counted l.items ∙ sym q
