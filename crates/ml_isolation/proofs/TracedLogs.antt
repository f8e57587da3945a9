-- What a cursor gave in a log, it has, along a log.
use Rattle.std.specs.Prelude.{◌≡◌, ℕ, ◌==◌, ◌⊎◌, Bool, true, false, List, [], ◌∷◌, ◌++◌, map, slice_get, Option, Some, None, is_some, cond}
use Rattle.std.specs.Prelude.{option_and_then}
use Rattle.std.specs.Option.{option_map}
use Rattle.std.specs.List.{cons_option}
use Rattle.std.proofs.Common.{inl, inr, refl, sym, ap, ◌∙◌, subst}
use Rattle.std.proofs.lemmas.Bool.{and_parts, eqb-true}
use Rattle.std.proofs.lemmas.Bool.Decides.{eqb_tells}
use Rattle.std.proofs.lemmas.List.{map-append}
use Rattle.std.proofs.lemmas.List.Elements.{filter_map-append}
use Rattle.std.proofs.lemmas.Option.{slice_get-map}
use Rattle.ml_term.specs.Tree.{Tree}
use Rattle.ml_term.specs.declared.declaration.Decl.{Decl}
use Rattle.ml_search.specs.Program.{holds_of, is_clause_list}
use Rattle.ml_search.specs.Db.{Item, Db}
use Rattle.ml_search.specs.Changes.{ItemName, Alter}
use Rattle.ml_search.specs.Operations.{Operation, opens, next, insert, delete, assertz, asserta, delete_at, Reply, item, no_item, Log, opened_lists}
use Rattle.ml_search.specs.Operations.{numbered_item, items_given, item_with_number, item_given, declaration_under, is_valid_after}
use Rattle.ml_search.specs.Replay.{Cursor, Store, item_reply, member, list_under, cursor_over, reply_to_change, alter_of, reply, first_store}
use Rattle.ml_asking.proofs.BranchCounts.{member_within, member_later}
use Rattle.ml_asking.proofs.TurnsOverLists.{extended}
use Rattle.ml_asking.proofs.SearchesAgree.{append_none}
use Rattle.ml_asking.proofs.RequestsAreValid.{opened_by, opened_more, given_more}
use Rattle.ml_asking.proofs.ChangesByLog.{IsTraced, cursor_there}
use Rattle.ml_asking.proofs.IdsKeepTerms.{IsClauses}

-- numbered items with one more behind them
numbered_behind : (i : ℕ) (es : List (ℕ × Tree)) (n : ℕ) (u t : Tree) → item_with_number i (es ++ (n, u) ∷ []) ≡ Some t →
    (item_with_number i es ≡ Some t) ⊎ ((n ≡ i) × (u ≡ t))
numbered_behind i [] n u t e = chosen (n == i) refl e
  where
    chosen : (b : Bool) → (n == i) ≡ b → cond b (Some u) None ≡ Some t → (item_with_number i [] ≡ Some t) ⊎ ((n ≡ i) × (u ≡ t))
    chosen true h e = inr (eqb-true n i h, cc e)
    chosen false h e = absurd (cc e)
numbered_behind i (x ∷ es) n u t e = chosen (x.0 == i) (numbered_behind i es n u t) e
  where
    chosen : (b : Bool) → (item_with_number i (es ++ (n, u) ∷ []) ≡ Some t → (item_with_number i es ≡ Some t) ⊎ ((n ≡ i) × (u ≡ t))) →
        cond b (Some x.1) (item_with_number i (es ++ (n, u) ∷ [])) ≡ Some t
        → (cond b (Some x.1) (item_with_number i es) ≡ Some t) ⊎ ((n ≡ i) × (u ≡ t))
    chosen true h e = inl e
    chosen false h e = h e

numbered_front : (i : ℕ) (es fs : List (ℕ × Tree)) (t : Tree) → item_with_number i es ≡ Some t → item_with_number i (es ++ fs) ≡ Some t
numbered_front i [] fs t e = absurd (cc e)
numbered_front i (x ∷ es) fs t e = chosen (x.0 == i) (numbered_front i es fs t) e
  where
    chosen : (b : Bool) → (item_with_number i es ≡ Some t → item_with_number i (es ++ fs) ≡ Some t) → cond b (Some x.1) (item_with_number i es) ≡ Some t →
        cond b (Some x.1) (item_with_number i (es ++ fs)) ≡ Some t
    chosen true h e = e
    chosen false h e = h e

pub given_front : (l more : Log) (c i : ℕ) (t : Tree) → item_given l c i ≡ Some t → item_given (l ++ more) c i ≡ Some t
given_front l more c i t e =
    let k : items_given (l ++ more) c ≡ items_given l c ++ items_given more c = filter_map-append (λ e. numbered_item c e.0 e.1) l more in
    subst (λ z. item_with_number i z ≡ Some t) (sym k) (numbered_front i (items_given l c) (items_given more c) t e)

pub first_traced : (decls : List Decl) (db : Db) → IsTraced [] (first_store decls db)
first_traced decls db = record { given = λ c i t e. absurd (cc e); opened = refl }

-- the same cursors
still_traced : (l : Log) (s u : Store) (o : Operation) (p : Reply) → IsTraced l s → u.cursors ≡ s.cursors → opened_by o ≡ [] →
    ((c : ℕ) → numbered_item c o p ≡ None) → IsTraced (l ++ (o, p) ∷ []) u
still_traced l s u o p w q e n = record {
  given = λ c i t h.
      let k : items_given (l ++ (o, p) ∷ []) c ≡ items_given l c =
      given_more c l o p ∙ (ap (λ z. items_given l c ++ cons_option z []) (n c) ∙ sym (append_none (items_given l c))) in
      subst (λ z. (j : Item) × ((member z c i ≡ Some j) × (j.term ≡ t))) (sym q) (w.given c i t (subst (λ z. item_with_number i z ≡ Some t) k h));
  opened = opened_more l o p ∙ (ap (λ z. opened_lists l ++ z) e ∙ (sym (append_none (opened_lists l)) ∙ (w.opened ∙ ap (map (λ k. k.list)) (sym q))));
}

next_traced : (l : Log) (s : Store) (c i : ℕ) (o : Option Item) → member s.cursors c i ≡ o → IsTraced l s → IsTraced (l ++ (next c i, item_reply o) ∷ []) s
next_traced l s c i None e w = still_traced l s s (next c i) no_item w refl refl (λ d. refl)
next_traced l s c i (Some j) e w = record {
  given = λ d n t h. elim (eqb_tells c d) [
    | inl q ↦
        let k : items_given (l ++ (next c i, item j.term) ∷ []) d ≡ items_given l d ++ (i, j.term) ∷ [] =
        given_more d l (next c i) (item j.term) ∙ rw q.0 refl in
        elim (numbered_behind n (items_given l d) i j.term t (subst (λ z. item_with_number n z ≡ Some t) k h)) [
          | inl a ↦ w.given d n t a
          | inr a ↦ (j, (subst (λ z. member s.cursors z n ≡ Some j) q.1 (subst (λ z. member s.cursors c z ≡ Some j) a.0 e), a.1))
        ]
    | inr q ↦
        let k : items_given (l ++ (next c i, item j.term) ∷ []) d ≡ items_given l d =
        given_more d l (next c i) (item j.term) ∙ (rw q.0 (sym (append_none (items_given l d)))) in
        w.given d n t (subst (λ z. item_with_number n z ≡ Some t) k h)
  ];
  opened = opened_more l (next c i) (item j.term) ∙ (sym (append_none (opened_lists l)) ∙ w.opened);
}

module _ (decls : List Decl) where
  opened_traced : (l : Log) (s : Store) (d : ℕ) (p : Tree) → IsTraced l s →
      IsTraced (l ++ (opens d p, (reply decls (opens d p) s).0) ∷ []) (reply decls (opens d p) s).1
  opened_traced l s d p w =
      let k = cursor_over decls d p s.lists.db in
      let r = (reply decls (opens d p) s).0 in
      record {
        given = λ c i t h.
            let e : items_given (l ++ (opens d p, r) ∷ []) c ≡ items_given l c = given_more c l (opens d p) r ∙ sym (append_none (items_given l c)) in
            let g = w.given c i t (subst (λ z. item_with_number i z ≡ Some t) e h) in
            (g.0, (member_later s.cursors (s.cursors ++ k ∷ []) (extended s.cursors k) c (member_within s.cursors c i g.0 g.1.0) i ∙ g.1.0, g.1.1));
        opened = opened_more l (opens d p) r ∙ (ap (λ z. z ++ d ∷ []) w.opened ∙ sym (map-append (λ k. k.list) s.cursors (k ∷ [])));
      }

  pub same_cursors : (o : Option (Alter ItemName)) (p : Operation) (s : Store) → (reply_to_change decls o p s).1.cursors ≡ s.cursors
  same_cursors None p s = refl
  same_cursors (Some c) p s = refl

  pub reply_traced : (o : Operation) (l : Log) (s : Store) → IsTraced l s → IsTraced (l ++ (o, (reply decls o s).0) ∷ []) (reply decls o s).1
  reply_traced (opens d p) l s w = opened_traced l s d p w
  reply_traced (next c i) l s w = next_traced l s c i (member s.cursors c i) refl w
  reply_traced (insert t) l s w = still_traced l s _ (insert t) _ w refl refl (λ c. refl)
  reply_traced (delete t) l s w = still_traced l s _ (delete t) _ w refl refl (λ c. refl)
  reply_traced (assertz t) l s w = still_traced l s _ (assertz t) _ w refl refl (λ c. refl)
  reply_traced (asserta t) l s w = still_traced l s _ (asserta t) _ w refl refl (λ c. refl)
  reply_traced (delete_at c i) l s w =
      still_traced l s (reply decls (delete_at c i) s).1 (delete_at c i) (reply decls (delete_at c i) s).0 w
      (same_cursors (alter_of s.cursors (delete_at c i)) (delete_at c i) s) refl (λ c. refl)

  some_of : {A : Type 0} (o : Option A) → is_some o ≡ true → (x : A) × (o ≡ Some x)
  some_of None h = absurd (cc h)
  some_of (Some x) h = (x, refl)

  -- The clause that may be taken out by its cursor: the cursor and its list, the item, and what the log tells of them.
  pub record IsDropped (l : Log) (s : Store) (c i : ℕ) : Type 0 where
    pub cursor : Cursor
    pub clause : Item
    pub there : slice_get s.cursors c ≡ Some cursor
    pub among : slice_get cursor.members i ≡ Some clause
    pub named : member s.cursors c i ≡ Some clause
    pub under : list_under s.cursors c ≡ cursor.list
    pub told : slice_get (opened_lists l) c ≡ Some cursor.list
    pub given : item_given l c i ≡ Some clause.term
    pub clauses : IsClauses decls cursor.list

  pub dropped : (l : Log) (s : Store) (c i : ℕ) → is_valid_after decls l (delete_at c i) ≡ true → IsTraced l s → IsDropped l s c i
  dropped l s c i v w =
      let p = and_parts (holds_of is_clause_list (declaration_under decls l c)) (is_some (item_given l c i)) v in
      let t = some_of (item_given l c i) p.1 in
      let g = w.given c i t.0 t.1 in
      let k = cursor_there decls s.cursors c i g.0 g.1.0 in
      let o : slice_get (opened_lists l) c ≡ Some k.0.list =
      ap (λ z. slice_get z c) w.opened ∙ (slice_get-map (λ k. k.list) s.cursors c ∙ ap (option_map (λ k. k.list)) k.1) in
      record {
        cursor = k.0;
        clause = g.0;
        there = k.1;
        among = k.2;
        named = g.1.0;
        under = k.3;
        told = o;
        given = t.1 ∙ ap Some (sym g.1.1);
        clauses = subst (λ z. holds_of is_clause_list (option_and_then (slice_get decls) z) ≡ true) o p.0;
      }
