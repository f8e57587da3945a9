-- The list of changes of plain lists is what a log tells of them, where they give the log's replies.
use Rattle.std.specs.Prelude.{◌≡◌, ℕ, zero, suc, ◌==◌, ◌⊎◌, nat_lt, Bool, true, false, ◌&&◌, List, [], ◌∷◌, ◌++◌, length, map, drop, slice_get, unwrap_or}
use Rattle.std.specs.Prelude.{Option, Some, None, is_some, cond}
use Rattle.std.specs.Option.{option_map, option_map_or, option_and_then}
use Rattle.std.specs.List.{filter_map, cons_option, list_all}
use Rattle.std.proofs.Common.{inl, inr, refl, sym, ap, ◌∙◌, subst, append_assoc}
use Rattle.std.proofs.lemmas.Bool.{and_parts, and_from, eqb-true}
use Rattle.std.proofs.lemmas.Bool.Decides.{eqb_tells}
use Rattle.std.proofs.lemmas.Option.{slice_get-map}
use Rattle.ml_term.specs.Tree.{Tree}
use Rattle.ml_term.specs.declared.declaration.Decl.{Decl}
use Rattle.ml_term.specs.declared.declaration.Kind.{Kind}
use Rattle.ml_term.specs.declared.declaration.Kind.TheVariants.{Relation, Clauses}
use Rattle.ml_search.specs.declared.change.What.TheVariants.{Dropped}
use Rattle.ml_search.specs.Limits.{max_changes}
use Rattle.ml_search.specs.Program.{Program, holds_of, is_clause_list, true_body}
use Rattle.ml_search.specs.Db.{mine, Item, Db, items, with_id, ids_differ, is_placed, is_allowed, is_in_clause_order, is_list_of, is_db, is_committed}
use Rattle.ml_search.specs.Changes.{Change, Lists, ItemName, Alter, puts, takes, puts_first, puts_last, drops, Effect, change_made, no_change, db_after_change}
use Rattle.ml_search.specs.Changes.{would_change, change_of, alter}
use Rattle.ml_search.specs.Changes as C
use Rattle.ml_search.specs.Operations.{Operation, opens, next, insert, delete, assertz, asserta, delete_at, Reply, item, no_item, Log, opened_lists}
use Rattle.ml_search.specs.Operations.{numbered_item, items_given, item_with_number, item_given, declaration_under, is_valid_after, is_reply_after, is_log_from}
use Rattle.ml_search.specs.Operations.{is_log}
use Rattle.ml_search.specs.LogChanges.{is_change, operation_change, change_if, log_changes}
use Rattle.ml_search.specs.Replay.{Cursor, Store, item_reply, member, list_under, cursor_over, alter_of, reply_by, reply_to_change, reply, first_store, Replays}
use Rattle.ml_search.specs.Search.{search_of}
use Rattle.ml_search.proofs.LogProgress.{changed_by_replay}
use Rattle.ml_asking.specs.Asking.{AskingSearch, Conclusion, finish, go_on}
use Rattle.ml_asking.specs.Leads.{IsLed, outcome, lists_after, lists_by_log, Begins}
use Rattle.ml_asking.proofs.BranchCounts.{member_within, member_later}
use Rattle.ml_asking.proofs.TurnsOverLists.{extended}
use Rattle.ml_asking.proofs.SearchesAgree.{append_none, after_from, ReplaysFrom, first_reply, law, replays_before}
use Rattle.ml_asking.proofs.AnswersSoFar.{answers_so_far}
use Rattle.ml_asking.proofs.RequestsAlongReplies.{longer}
use Rattle.ml_asking.proofs.RequestsAreValid.{opened_by, opened_more, given_more, consed}
use Rattle.ml_asking.proofs.ClauseIds.{each_at, found_id, Keeps, term_in, each_keeps}
use Rattle.ml_asking.proofs.IdsKeepTerms.{IsClauses, StoreKeeps, reply_keeps, held}

-- numbered items with more behind them
numbered_front : (i : ℕ) (es fs : List (ℕ × Tree)) (t : Tree) → item_with_number i es ≡ Some t → item_with_number i (es ++ fs) ≡ Some t
numbered_front i [] fs t e = absurd (cc e)
numbered_front i (x ∷ es) fs t e = chosen (x.0 == i) (numbered_front i es fs t) e
  where
    chosen : (b : Bool) → (item_with_number i es ≡ Some t → item_with_number i (es ++ fs) ≡ Some t) → cond b (Some x.1) (item_with_number i es) ≡ Some t →
        cond b (Some x.1) (item_with_number i (es ++ fs)) ≡ Some t
    chosen true h e = e
    chosen false h e = h e

numbered_behind : (i : ℕ) (es : List (ℕ × Tree)) (n : ℕ) (u t : Tree) → item_with_number i (es ++ (n, u) ∷ []) ≡ Some t →
    (item_with_number i es ≡ Some t) ⊎ ((n ≡ i) × (u ≡ t))
numbered_behind i [] n u t e = chosen (n == i) refl e
  where
    chosen : (b : Bool) → (n == i) ≡ b → cond b (Some u) None ≡ Some t → (item_with_number i [] ≡ Some t) ⊎ ((n ≡ i) × (u ≡ t))
    chosen true h e = inr (eqb-true n i h, cc e)
    chosen false h e = absurd (cc e)
numbered_behind i (x ∷ es) n u t e = chosen (x.0 == i) (numbered_behind i es n u t) e
  where
    chosen : (b : Bool) → (item_with_number i (es ++ (n, u) ∷ []) ≡ Some t → (item_with_number i es ≡ Some t) ⊎ ((n ≡ i) × (u ≡ t))) →
        cond b (Some x.1) (item_with_number i (es ++ (n, u) ∷ [])) ≡ Some t
        → (cond b (Some x.1) (item_with_number i es) ≡ Some t) ⊎ ((n ≡ i) × (u ≡ t))
    chosen true h e = inl e
    chosen false h e = h e

filtered_parts : {A B : Type 0} (h : A → Option B) (xs ys : List A) → filter_map h (xs ++ ys) ≡ filter_map h xs ++ filter_map h ys
filtered_parts h [] ys = refl
filtered_parts h (x ∷ xs) ys = consed (h x) (filter_map h (xs ++ ys)) (filter_map h xs) (filter_map h ys) (filtered_parts h xs ys)

mapped_more : (cs : List Cursor) (k : Cursor) → map (λ k. k.list) (cs ++ k ∷ []) ≡ map (λ k. k.list) cs ++ k.list ∷ []
mapped_more [] k = refl
mapped_more (x ∷ cs) k = ap (λ z. x.list ∷ z) (mapped_more cs k)

-- what a cursor gave so far, it has; and the log tells over which lists the cursors are
pub record IsTraced (l : Log) (s : Store) : Type 0 where
  pub given : (c i : ℕ) (t : Tree) → item_given l c i ≡ Some t → (j : Item) × ((member s.cursors c i ≡ Some j) × (j.term ≡ t))
  pub opened : opened_lists l ≡ map (λ k. k.list) s.cursors

-- the same cursors
still_traced : (l : Log) (s u : Store) (o : Operation) (p : Reply) → IsTraced l s → u.cursors ≡ s.cursors → opened_by o ≡ [] →
    ((c : ℕ) → numbered_item c o p ≡ None) → IsTraced (l ++ (o, p) ∷ []) u
still_traced l s u o p w q e n = record {
  given = λ c i t h.
      let k : items_given (l ++ (o, p) ∷ []) c ≡ items_given l c =
      given_more c l o p ∙ (ap (λ z. items_given l c ++ cons_option z []) (n c) ∙ sym (append_none (items_given l c))) in
      subst (λ z. (j : Item) × ((member z c i ≡ Some j) × (j.term ≡ t))) (sym q) (w.given c i t (subst (λ z. item_with_number i z ≡ Some t) k h));
  opened = opened_more l o p ∙ (ap (λ z. opened_lists l ++ z) e ∙ (sym (append_none (opened_lists l)) ∙ (w.opened ∙ ap (map (λ k. k.list)) (sym q))));
}

module _ (decls : List Decl) where
  opened_traced : (l : Log) (s : Store) (d : ℕ) (p : Tree) → IsTraced l s →
      IsTraced (l ++ (opens d p, (reply decls (opens d p) s).0) ∷ []) (reply decls (opens d p) s).1
  opened_traced l s d p w =
      let k = cursor_over decls d p s.lists.db in
      let r = (reply decls (opens d p) s).0 in
      record {
        given = λ c i t h.
            let e : items_given (l ++ (opens d p, r) ∷ []) c ≡ items_given l c = given_more c l (opens d p) r ∙ sym (append_none (items_given l c)) in
            let g = w.given c i t (subst (λ z. item_with_number i z ≡ Some t) e h) in
            (g.0, (member_later s.cursors (s.cursors ++ k ∷ []) (extended s.cursors k) c (member_within s.cursors c i g.0 g.1.0) i ∙ g.1.0, g.1.1));
        opened = opened_more l (opens d p) r ∙ (ap (λ z. z ++ d ∷ []) w.opened ∙ sym (mapped_more s.cursors k));
      }

  next_traced : (l : Log) (s : Store) (c i : ℕ) (o : Option Item) → member s.cursors c i ≡ o → IsTraced l s → IsTraced (l ++ (next c i, item_reply o) ∷ []) s
  next_traced l s c i None e w = still_traced l s s (next c i) no_item w refl refl (λ d. refl)
  next_traced l s c i (Some j) e w = record {
    given = λ d n t h. elim (eqb_tells c d) [
      | inl q ↦
          let k : items_given (l ++ (next c i, item j.term) ∷ []) d ≡ items_given l d ++ (i, j.term) ∷ [] =
          given_more d l (next c i) (item j.term) ∙ rw q.0 refl in
          elim (numbered_behind n (items_given l d) i j.term t (subst (λ z. item_with_number n z ≡ Some t) k h)) [
            | inl a ↦ w.given d n t a
            | inr a ↦ (j, (subst (λ z. member s.cursors z n ≡ Some j) q.1 (subst (λ z. member s.cursors c z ≡ Some j) a.0 e), a.1))
          ]
      | inr q ↦
          let k : items_given (l ++ (next c i, item j.term) ∷ []) d ≡ items_given l d =
          given_more d l (next c i) (item j.term) ∙ (rw q.0 (sym (append_none (items_given l d)))) in
          w.given d n t (subst (λ z. item_with_number n z ≡ Some t) k h)
    ];
    opened = opened_more l (next c i) (item j.term) ∙ (sym (append_none (opened_lists l)) ∙ w.opened);
  }

  same_cursors : (o : Option (Alter ItemName)) (p : Operation) (s : Store) → (reply_to_change decls o p s).1.cursors ≡ s.cursors
  same_cursors None p s = refl
  same_cursors (Some c) p s = refl

  reply_traced : (o : Operation) (l : Log) (s : Store) → IsTraced l s → IsTraced (l ++ (o, (reply decls o s).0) ∷ []) (reply decls o s).1
  reply_traced (opens d p) l s w = opened_traced l s d p w
  reply_traced (next c i) l s w = next_traced l s c i (member s.cursors c i) refl w
  reply_traced (insert t) l s w = still_traced l s _ (insert t) _ w refl refl (λ c. refl)
  reply_traced (delete t) l s w = still_traced l s _ (delete t) _ w refl refl (λ c. refl)
  reply_traced (assertz t) l s w = still_traced l s _ (assertz t) _ w refl refl (λ c. refl)
  reply_traced (asserta t) l s w = still_traced l s _ (asserta t) _ w refl refl (λ c. refl)
  reply_traced (delete_at c i) l s w =
      still_traced l s (reply decls (delete_at c i) s).1 (delete_at c i) (reply decls (delete_at c i) s).0 w
      (same_cursors (alter_of s.cursors (delete_at c i)) (delete_at c i) s) refl (λ c. refl)

  -- a change is made where it is told
  abbrev MadeBy : Log → Operation → List Change → Reply → List Change → Type 0
  MadeBy whole o before r made = made ≡ before ++ cons_option (change_if (is_change r) (operation_change whole o)) []

  tests_made : (full_or_not changes_or_not : Bool) (whole : Log) (o : Operation) (c : Alter ItemName) (s : Lists) → would_change decls c s.db ≡ changes_or_not
      → is_change (reply_by o change_made) ≡ true → is_change (reply_by o no_change) ≡ false →
      (would_change decls c s.db ≡ true → operation_change whole o ≡ Some (change_of decls c s.db))
      → (let x : Effect × Lists =
      cond full_or_not
      (cond changes_or_not (
        change_made,
        record
            { db = db_after_change decls (record { place = mine; change = length s.made }) c s.db; made = s.made ++ change_of decls c s.db ∷ [] },
      ) (
        no_change,
        s,
      )) (C.change_limit, s)
      in MadeBy whole o s.made (reply_by o x.0) x.1.made)
  tests_made true true whole o c s e h i k = rw (h, k e) refl
  tests_made true false whole o c s e h i k = rw i (append_none s.made)
  tests_made false b whole o c s e h i k = full_made o
    where
      full_made : (o : Operation) → MadeBy whole o s.made (reply_by o C.change_limit) s.made
      full_made o = append_none s.made

  alter_made : (whole : Log) (o : Operation) (c : Alter ItemName) (s : Lists) → is_change (reply_by o change_made) ≡ true →
      is_change (reply_by o no_change) ≡ false → (would_change decls c s.db ≡ true → operation_change whole o ≡ Some (change_of decls c s.db))
      → MadeBy whole o s.made (reply_by o (alter decls c s).0) (alter decls c s).1.made
  alter_made whole o c s = tests_made (nat_lt (length s.made) max_changes) (would_change decls c s.db) whole o c s refl

  -- the cursor of an item
  pub cursor_there : (cs : List Cursor) (c i : ℕ) (j : Item) → member cs c i ≡ Some j →
      (k : Cursor) × (slice_get cs c ≡ Some k) × (slice_get k.members i ≡ Some j) × (list_under cs c ≡ k.list)
  cursor_there [] c i j e = absurd (cc e)
  cursor_there (k ∷ cs) zero i j e = (k, refl, e, refl)
  cursor_there (k ∷ cs) (suc c) i j e = cursor_there cs c i j e

  some_of : {A : Type 0} (o : Option A) → is_some o ≡ true → (x : A) × (o ≡ Some x)
  some_of None h = absurd (cc h)
  some_of (Some x) h = (x, refl)

  given_front : (l more : Log) (c i : ℕ) (t : Tree) → item_given l c i ≡ Some t → item_given (l ++ more) c i ≡ Some t
  given_front l more c i t e =
      let k : items_given (l ++ more) c ≡ items_given l c ++ items_given more c = filtered_parts (λ e. numbered_item c e.0 e.1) l more in
      subst (λ z. item_with_number i z ≡ Some t) (sym k) (numbered_front i (items_given l c) (items_given more c) t e)

  drop_made : (l more : Log) (c i : ℕ) (s : Store) → is_valid_after decls l (delete_at c i) ≡ true → StoreKeeps decls s → IsTraced l s
      → MadeBy (l ++ more) (delete_at c i) s.lists.made (reply decls (delete_at c i) s).0 (reply decls (delete_at c i) s).1.lists.made
  drop_made l more c i s v keeps w =
      let p = and_parts (holds_of is_clause_list (declaration_under decls l c)) (is_some (item_given l c i)) v in
      let t = some_of (item_given l c i) p.1 in
      let g = w.given c i t.0 t.1 in
      let j = g.0 in
      let n = list_under s.cursors c in
      let k = cursor_there s.cursors c i j g.1.0 in
      let o : slice_get (opened_lists l) c ≡ Some k.0.list =
      ap (λ z. slice_get z c) w.opened ∙ (slice_get-map (λ k. k.list) s.cursors c ∙ ap (option_map (λ k. k.list)) k.1) in
      let clauses : IsClauses decls k.0.list = subst (λ z. holds_of is_clause_list (option_and_then (slice_get decls) z) ≡ true) o p.0 in
      let f = keeps.0 in
      let m = length s.lists.made in
      let mine_term : f k.0.list j.id ≡ j.term = (each_at (Keeps f m k.0.list) k.0.members i j k.2 (keeps.1.cursors c k.0 k.1 clauses)).0 in
      let same : is_some (with_id j.id (items s.lists.db n)) ≡ true →
      operation_change (l ++ more) (delete_at c i)
      ≡ Some (record { what = Dropped; term = option_map_or (λ i. i.term) (with_id j.id (items s.lists.db n)) true_body }) =
      λ h.
      let x = some_of (with_id j.id (items s.lists.db n)) h in
      let y =
      found_id (Keeps f m k.0.list) j.id (items s.lists.db k.0.list) x.0 (subst (λ z. with_id j.id (items s.lists.db z) ≡ Some x.0) k.3 x.1)
      (keeps.1.lists k.0.list clauses) in
      let e : j.term ≡ x.0.term = sym mine_term ∙ (ap (f k.0.list) (sym y.1) ∙ y.0.0) in
      ap (λ z. Some (record { what = Dropped; term = z }))
      (ap (λ z. unwrap_or z true_body) (given_front l more c i t.0 t.1) ∙ (sym g.1.1 ∙ (e ∙ sym (ap (λ z. option_map_or (λ i. i.term) z true_body) x.1)))) in
      subst
      (λ z.
      let q : Reply × Store = reply_to_change decls (option_map (λ j. drops (record { list = n; id = j.id })) z) (delete_at c i) s in
      MadeBy (l ++ more) (delete_at c i) s.lists.made q.0 q.1.lists.made) (sym g.1.0)
      (alter_made (l ++ more) (delete_at c i) (drops (record { list = n; id = j.id })) s.lists refl refl same)

  reply_made : (o : Operation) (l more : Log) (s : Store) → is_valid_after decls l o ≡ true → StoreKeeps decls s → IsTraced l s →
      MadeBy (l ++ more) o s.lists.made (reply decls o s).0 (reply decls o s).1.lists.made
  reply_made (opens d p) l more s v k w = append_none s.lists.made
  reply_made (next c i) l more s v k w = nothing (member s.cursors c i)
    where
      nothing : (o : Option Item) → MadeBy (l ++ more) (next c i) s.lists.made (item_reply o) s.lists.made
      nothing None = append_none s.lists.made
      nothing (Some j) = append_none s.lists.made
  reply_made (insert t) l more s v k w = alter_made (l ++ more) (insert t) (puts t) s.lists refl refl (λ h. refl)
  reply_made (delete t) l more s v k w = alter_made (l ++ more) (delete t) (takes t) s.lists refl refl (λ h. refl)
  reply_made (assertz t) l more s v k w = alter_made (l ++ more) (assertz t) (puts_last t) s.lists refl refl (λ h. refl)
  reply_made (asserta t) l more s v k w = alter_made (l ++ more) (asserta t) (puts_first t) s.lists refl refl (λ h. refl)
  reply_made (delete_at c i) l more s v k w = drop_made l more c i s v k w

  -- from a store on
  told_from : (rest before : Log) (s : Store) → ReplaysFrom decls s rest → is_log_from decls before rest ≡ true → StoreKeeps decls s → IsTraced before s
      → (after_from decls rest s).lists.made ≡ s.lists.made ++ filter_map (λ e. change_if (is_change e.1) (operation_change (before ++ rest) e.0)) rest
  told_from [] before s r h k w = append_none s.lists.made
  told_from (e ∷ rest) before s r h k w =
      let o = e.0 in
      let q : (reply decls o s).0 ≡ e.1 = ap first_reply r in
      let u = (reply decls o s).1 in
      let whole = before ++ e ∷ rest in
      let p = and_parts (is_valid_after decls before o && is_reply_after decls before o e.1) (is_log_from decls (before ++ e ∷ []) rest) h in
      let v = (and_parts (is_valid_after decls before o) (is_reply_after decls before o e.1) p.0).0 in
      let w' : IsTraced (before ++ e ∷ []) u = subst (λ z. IsTraced (before ++ (o, z) ∷ []) u) q (reply_traced o before s w) in
      let same : (before ++ e ∷ []) ++ rest ≡ whole = append_assoc before (e ∷ []) rest in
      let one : MadeBy whole o s.lists.made e.1 u.lists.made =
      subst (λ z. MadeBy whole o s.lists.made z u.lists.made) q (reply_made o before (e ∷ rest) s v k w) in
      let further : (after_from decls rest u).lists.made ≡ u.lists.made ++ filter_map (λ x. change_if (is_change x.1) (operation_change whole x.0)) rest =
      subst (λ z. (after_from decls rest u).lists.made ≡ u.lists.made ++ filter_map (λ x. change_if (is_change x.1) (operation_change z x.0)) rest) same
      (told_from rest (before ++ e ∷ []) u (ap (drop 1) r) p.1 (reply_keeps decls o before s v k) w') in
      let f = filter_map (λ x. change_if (is_change x.1) (operation_change whole x.0)) rest in
      let c = change_if (is_change e.1) (operation_change whole o) in
      further ∙ (ap (λ z. z ++ f) one ∙ (append_assoc s.lists.made (cons_option c []) f ∙ ap (λ z. s.lists.made ++ z) (sym (consed c f [] f refl))))

  -- lists that a declaration may have
  list_there : (ds : List Decl) (db : Db) (d : ℕ) (q : Decl) → is_db ds db ≡ true → slice_get ds d ≡ Some q → is_list_of q (items db d) ≡ true
  list_there [] db d q h e = absurd (cc e)
  list_there (x ∷ ds) [] d q h e = absurd (cc h)
  list_there (x ∷ ds) (is ∷ db) zero q h e = let i : x ≡ q = cc e in subst (λ z. is_list_of z is ≡ true) i (and_parts (is_list_of x is) (is_db ds db) h).0
  list_there (x ∷ ds) (is ∷ db) (suc d) q h e = list_there ds db d q (and_parts (is_list_of x is) (is_db ds db) h).1 e

  ids_of_list : (q : Decl) (k : Kind) (is : List Item) → q.kind ≡ k → is_clause_list q ≡ true → is_list_of q is ≡ true → ids_differ (map (λ i. i.id) is) ≡ true
  ids_of_list q Relation is e h l = absurd (cc (rw e at h))
  ids_of_list q Clauses is e h l =
      let b = (and_parts (list_all (λ i. is_allowed q i.term) is) _ l).1 in
      let a : is_in_clause_order (map (λ i. i.id) is) ≡ true = rw e at b in
      (and_parts (ids_differ (map (λ i. i.id) is)) _ a).0

  placed_there : (db : Db) (d : ℕ) → is_committed db ≡ true → list_all (λ i. is_placed i.id.place) (items db d) ≡ true
  placed_there [] d h = refl
  placed_there (is ∷ db) zero h = (and_parts (list_all (λ i. is_placed i.id.place) is) (is_committed db) h).0
  placed_there (is ∷ db) (suc d) h = placed_there db d (and_parts (list_all (λ i. is_placed i.id.place) is) (is_committed db) h).1

  -- lists without uncommitted items keep what a log tells of their changes
  pub made_is_told : (db : Db) (l : Log) → is_db decls db ≡ true → is_committed db ≡ true → is_log decls l ≡ true → Replays decls db l →
      (lists_after decls db l).made ≡ log_changes l
  made_is_told db l h p v r =
      told_from l [] (first_store decls db) r v (
        term_in db,
        record {
          lists = λ d c. let q = held decls is_clause_list (slice_get decls d) c in
              each_keeps db d (ids_of_list q.0 q.0.kind (items db d) refl q.1.1 (list_there decls db d q.0 h q.1.0)) (placed_there db d p);
          cursors = λ c k e x. absurd (cc e);
        },
      )
      (record { given = λ c i t e. absurd (cc e); opened = refl })

  -- a beginning of a log
  log_begins : (before l more : Log) → is_log_from decls before (l ++ more) ≡ true → is_log_from decls before l ≡ true
  log_begins before [] more h = refl
  log_begins before (e ∷ l) more h =
      let p = and_parts (is_valid_after decls before e.0 && is_reply_after decls before e.0 e.1) (is_log_from decls (before ++ e ∷ []) (l ++ more)) h in
      and_from _ _ p.0 (log_begins (before ++ e ∷ []) l more p.1)

  pub told_after : (db : Db) (l : Log) → is_db decls db ≡ true → is_committed db ≡ true → is_log decls l ≡ true → Replays decls db l →
      lists_after decls db l ≡ lists_by_log decls db l
  told_after db l h p v r =
      ap (λ x. record { db = (lists_after decls db l).db; made = x }) (made_is_told db l h p v r)
      ∙ ap (λ x. record { db = x; made = log_changes l }) (sym (changed_by_replay decls db l r))

module _ (program : Program) where
  -- the law, as a log tells of the lists
  pub law_told : (goal : Tree) (terms : List Tree) (number left : ℕ) (l k : Log) (o : Conclusion) → IsLed program goal terms number left l (finish o) k
      → (db : Db) → is_db program.decls db ≡ true → is_committed db ≡ true → is_log program.decls k ≡ true → Replays program.decls db k
      → search_of program goal terms number (lists_by_log program.decls db l) left ≡ outcome o (lists_by_log program.decls db k)
  law_told goal terms number left l k o h db d p v r =
      let c = longer program h in
      let v' : is_log program.decls l ≡ true = log_begins program.decls [] l c.0 (subst (λ z. is_log program.decls z ≡ true) c.1 v) in
      ap (λ x. search_of program goal terms number x left)
      (sym (told_after program.decls db l d p v' (replays_before program goal terms number left l k (finish o) h db r)))
      ∙ (law program goal terms number left l k o h db r ∙ ap (outcome o) (told_after program.decls db k d p v r))

  -- and the answers so far
  pub answers_told : (goal : Tree) (terms : List Tree) (number left : ℕ) (l k : Log) (m : AskingSearch) → m.frames ≡ [] →
      IsLed program goal terms number left l (go_on m) k
      → (db : Db) → is_db program.decls db ≡ true → is_committed db ≡ true → is_log program.decls k ≡ true → Replays program.decls db k
      → Begins m.found (search_of program goal terms number (lists_by_log program.decls db l) left).found
  answers_told goal terms number left l k m q h db d p v r =
      let c = longer program h in
      let v' : is_log program.decls l ≡ true = log_begins program.decls [] l c.0 (subst (λ z. is_log program.decls z ≡ true) c.1 v) in
      subst (λ x. Begins m.found (search_of program goal terms number x left).found)
      (told_after program.decls db l d p v' (replays_before program goal terms number left l k (go_on m) h db r))
      (answers_so_far program goal terms number left l k m q h db r)
