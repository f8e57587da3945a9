-- A desk over plain lists with one operation more, of each kind.
use Rattle.std.proofs.Common.{◌≡◌, ℕ, suc, ◌+◌, true, List, [], ◌∷◌, ◌++◌, length, map, refl, sym, ap, ◌∙◌, subst, append-nil, arith, eq-eqb}
use Rattle.std.specs.Prelude.{Some, slice_get}
use Rattle.std.specs.List.{filter}
use Rattle.std.proofs.lemmas.List.{map-append}
use Rattle.ml_list_desk.specs.Items.{items_seen, lists_seen}
use Rattle.ml_list_desk.specs.inside.ItemList.{are_within, is_met, ItemList, items_with}
use Rattle.ml_list_desk.specs.inside.ListDesks.{asks_change, IsCarriedOut, IsListDesk, store_after_log}
use Rattle.ml_list_desk.specs.inside.Outcomes.{count_of, outcome_reply}
use Rattle.ml_list_desk.specs.inside.Standing.{cursor_of, db_of, decls_of}
use Rattle.ml_list_desk.specs.declared.list_cursor.ListCursor.{ListCursor}
use Rattle.ml_list_desk.specs.declared.list_item.ListItem.{ListItem}
use Rattle.ml_list_desk.specs.declared.outcome.Outcome.{Outcome}
use Rattle.ml_list_desk.proofs.Logs.{desk_more}
use Rattle.ml_list_desk.proofs.Opening.{cursor_opened, opened_stands, opened_within}
use Rattle.ml_list_desk.proofs.ReplyKinds.{kind_of_change}
use Rattle.ml_search.specs.Operations as O
use Rattle.ml_search.specs.Operations.{cursor, is_reply_after, is_valid_after, next, opened_lists, opens, Operation, Reply}
use Rattle.ml_search.proofs.LogProgress.{changed_by_replay}
use Rattle.ml_search.specs.Db.{mine}
use Rattle.ml_search.specs.Replay.{db_after_log, item_reply, member, reply}
use Rattle.ml_search.specs.Seen.{log_seen, operation_seen, reply_seen}
use Rattle.ml_search.specs.declared.operation.Op.{Op}
use Rattle.ml_search.specs.declared.operation.Op.TheVariants.{Next, Open}
use Rattle.ml_search.specs.declared.operation.Reply as R
use Rattle.ml_search.specs.declared.operation.Reply.TheVariants.{Cursor}
use Rattle.ml_term.specs.Seen.{seen}
use Rattle.ml_term.specs.declared.declaration.Decl.{Decl}
use Rattle.ml_term.specs.declared.term.Term.{Term}

counted : {A B : Type 0} (f : A → B) (xs : List A) → length xs ≡ length (map f xs)
counted f [] = refl
counted f (x ∷ xs) = ap suc (counted f xs)

-- an operation that asks for a change opens no cursor
no_cursor : (o : Operation) (r : Reply) → asks_change o ≡ true → opened_lists ((o, r) ∷ []) ≡ []
no_cursor (opens d p) r e = cc
no_cursor (next c i) r e = cc
no_cursor (O.insert t) r e = refl
no_cursor (O.delete t) r e = refl
no_cursor (O.assertz t) r e = refl
no_cursor (O.asserta t) r e = refl
no_cursor (O.delete_at c i) r e = refl

module _ (decls : List Decl) (lists : List ItemList) (cursors : List ListCursor) (changes : ℕ) (log : List (Op × R.Reply))
    (first : List (List ListItem)) where
  -- an operation and its reply: the reply is of its kind, and the desk with both is one
  pub record IsAnswered (lists' : List ItemList) (cursors' : List ListCursor) (changes' : ℕ) (o : Op) (r : R.Reply) : Type 0 where
    pub kind : is_reply_after decls (log_seen log) (operation_seen o) (reply_seen r) ≡ true
    pub kept : IsListDesk decls lists' cursors' changes' (log ++ (o, r) ∷ []) first

  -- a cursor is opened
  pub opened_more : (d : ℕ) (p : Term) (l : ItemList) (c : ListCursor) (n : ℕ) → IsListDesk decls lists cursors changes log first
      → is_valid_after decls (log_seen log) (opens d (seen p)) ≡ true → slice_get lists d ≡ Some l → c.list ≡ d
      → items_seen (items_with l.pool c.members.items) ≡ filter (is_met l.decl (seen p)) (items_seen l.items) → are_within l.pool c.members.items ≡ true
      → n ≡ length cursors
      → IsAnswered lists (cursors ++ c ∷ []) changes (Open d p) (Cursor n)
  opened_more d p l c n k v at s m w e =
      let store = store_after_log decls (lists_seen first) (log_seen log) in
      let same = cursor_opened decls lists d l (seen p) c k.decls_are at s m in
      let kind : is_reply_after decls (log_seen log) (opens d (seen p)) (cursor n) ≡ true =
      eq-eqb n (length (opened_lists (log_seen log))) (e ∙ counted (λ (x : ListCursor). x.list) cursors ∙ sym (ap length k.opened)) in
      let told : cursor n ≡ (reply decls (opens d (seen p)) store).0 = ap cursor (e ∙ counted (cursor_of lists) cursors ∙ ap length k.stands.opened) in
      record {
        kind = kind;
        kept =
            desk_more decls lists lists cursors (cursors ++ c ∷ []) changes changes log first (Open d p) (Cursor n) k v kind told
            (opened_stands decls lists d l (seen p) cursors c changes store same k.stands) refl
            (opened_within decls lists d l (seen p) cursors c at s w k.within) k.few
            (map-append (λ (x : ListCursor). x.list) cursors (c ∷ []) ∙ ap (λ x. map (λ (y : ListCursor). y.list) cursors ++ x ∷ []) s);
      }

  -- a cursor is asked for an item
  pub given_more : (c i : ℕ) (r : R.Reply) → IsListDesk decls lists cursors changes log first → is_valid_after decls (log_seen log) (next c i) ≡ true
      → reply_seen r ≡ item_reply (member (map (cursor_of lists) cursors) c i) → is_reply_after decls (log_seen log) (next c i) (reply_seen r) ≡ true
      → IsListDesk decls lists cursors changes (log ++ (Next c i, r) ∷ []) first
  given_more c i r k v told kind =
      desk_more decls lists lists cursors cursors changes changes log first (Next c i) r k v kind
      (told ∙ ap (λ cs. item_reply (member cs c i)) k.stands.opened) k.stands refl k.within k.few
      (sym (append-nil (map (λ (x : ListCursor). x.list) cursors)))

  -- a list is changed
  pub changed_more : (o : Op) (outcome : Outcome) (lists' : List ItemList) → IsListDesk decls lists cursors changes log first
      → is_valid_after decls (log_seen log) (operation_seen o) ≡ true → asks_change (operation_seen o) ≡ true
      → IsCarriedOut decls (operation_seen o) lists lists' cursors changes outcome
      → IsAnswered lists' cursors (changes + count_of outcome) o (outcome_reply outcome)
  changed_more o outcome lists' k v a carried =
      let store = store_after_log decls (lists_seen first) (log_seen log) in
      let told = carried.told store k.stands in
      let kind : is_reply_after decls (log_seen log) (operation_seen o) (reply_seen (outcome_reply outcome)) ≡ true =
      subst (λ r. is_reply_after decls (log_seen log) (operation_seen o) r ≡ true) (sym told)
      (kind_of_change decls (log_seen log) (operation_seen o) store a) in
      record {
        kind = kind;
        kept =
            desk_more decls lists lists' cursors cursors changes (changes + count_of outcome) log first o (outcome_reply outcome) k v kind told
            (carried.stands store k.stands) carried.decls_are
            carried.within (carried.few k.few)
            (sym (append-nil (map (λ (x : ListCursor). x.list) cursors))
            ∙ ap (λ xs. map (λ (x : ListCursor). x.list) cursors ++ xs) (sym (no_cursor (operation_seen o) (reply_seen (outcome_reply outcome)) a)));
      }

-- a desk of which nothing was asked
pub desk_begun : (decls : List Decl) (lists : List ItemList) (cursors : List ListCursor) (log : List (Op × R.Reply)) (first : List (List ListItem))
    → decls_of lists ≡ decls
    → db_of lists ≡ lists_seen first → cursors ≡ [] → log ≡ [] → IsListDesk decls lists cursors 0 log first
desk_begun decls lists cursors log first d e c l =
    subst (λ cs. IsListDesk decls lists cs 0 log first) (sym c)
    (subst (λ es. IsListDesk decls lists [] 0 es first) (sym l)
    (record {
      decls_are = d;
      within = refl;
      few = omega arith;
      stands = record { db = e; opened = refl; made = refl };
      replays = refl;
      logged = refl;
      opened = refl;
    }))

-- the lists are those that the log left
pub lists_left : (decls : List Decl) (lists : List ItemList) (cursors : List ListCursor) (changes : ℕ) (log : List (Op × R.Reply))
    (first : List (List ListItem))
    → IsListDesk decls lists cursors changes log first → db_of lists ≡ db_after_log decls (lists_seen first) (log_seen log) mine
lists_left decls lists cursors changes log first k = k.stands.db ∙ sym (changed_by_replay decls (lists_seen first) (log_seen log) k.replays)
