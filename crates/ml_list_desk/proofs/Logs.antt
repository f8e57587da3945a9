-- Logs with one operation more: they are logs, plain lists give their replies, and these tell which cursors were opened.
use Rattle.std.proofs.Common.{◌≡◌, ℕ, ◌≤◌, true, ◌&&◌, List, [], ◌∷◌, ◌++◌, map, refl, sym, ap, ◌∙◌, subst, append_assoc, append-nil}
use Rattle.std.proofs.lemmas.Bool.{and_from, and_parts}
use Rattle.std.proofs.lemmas.List.{map-append}
use Rattle.std.proofs.lemmas.List.Elements.{filter_map-append}
use Rattle.ml_list_desk.specs.inside.ItemList.{ItemList}
use Rattle.ml_list_desk.specs.Items.{lists_seen}
use Rattle.ml_list_desk.specs.inside.ListDesks.{IsListDesk, store_after_log}
use Rattle.ml_list_desk.specs.inside.Standing.{are_cursors_within, decls_of, StandFor}
use Rattle.ml_list_desk.specs.declared.list_cursor.ListCursor.{ListCursor}
use Rattle.ml_list_desk.specs.declared.list_item.ListItem.{ListItem}
use Rattle.ml_search.proofs.LogBeginnings.{in_parts, store_in_parts}
use Rattle.ml_search.specs.Db.{Db}
use Rattle.ml_search.specs.Limits.{max_changes}
use Rattle.ml_search.specs.Operations.{is_log, is_log_from, is_reply_after, is_valid_after, Log, opened_lists, Operation, Reply}
use Rattle.ml_search.specs.Replay.{first_store, replies, Replays, reply, store_after}
use Rattle.ml_search.specs.Seen.{log_seen, operation_seen, reply_seen}
use Rattle.ml_search.specs.declared.operation.Op.{Op}
use Rattle.ml_search.specs.declared.operation.Reply as R
use Rattle.ml_term.specs.declared.declaration.Decl.{Decl}

module _ (decls : List Decl) where
  log_from_more : (before l : Log) (o : Operation) (r : Reply) → is_log_from decls before l ≡ true → is_valid_after decls (before ++ l) o ≡ true
      → is_reply_after decls (before ++ l) o r ≡ true
      → is_log_from decls before (l ++ (o, r) ∷ []) ≡ true
  log_from_more before [] o r h v k =
      let e : before ++ [] ≡ before = append-nil before in
      and_from _ true
      (and_from (is_valid_after decls before o) (is_reply_after decls before o r) (subst (λ b. is_valid_after decls b o ≡ true) e v)
      (subst (λ b. is_reply_after decls b o r ≡ true) e k))
      refl
  log_from_more before (e ∷ l) o r h v k =
      let parts = and_parts (is_valid_after decls before e.0 && is_reply_after decls before e.0 e.1) (is_log_from decls (before ++ e ∷ []) l) h in
      let same : (before ++ e ∷ []) ++ l ≡ before ++ e ∷ l = append_assoc before (e ∷ []) l in
      and_from (is_valid_after decls before e.0 && is_reply_after decls before e.0 e.1) (is_log_from decls (before ++ e ∷ []) (l ++ (o, r) ∷ [])) parts.0
      (log_from_more (before ++ e ∷ []) l o r parts.1 (subst (λ b. is_valid_after decls b o ≡ true) (sym same) v)
      (subst (λ b. is_reply_after decls b o r ≡ true) (sym same) k))

  pub log_more : (l : Log) (o : Operation) (r : Reply) → is_log decls l ≡ true → is_valid_after decls l o ≡ true → is_reply_after decls l o r ≡ true
      → is_log decls (l ++ (o, r) ∷ []) ≡ true
  log_more l o r = log_from_more [] l o r

  pub store_more : (db : Db) (l : Log) (o : Operation) (r : Reply) → store_after_log decls db (l ++ (o, r) ∷ [])
      ≡ (reply decls o (store_after_log decls db l)).1
  store_more db l o r =
      ap (λ os. store_after decls os (first_store decls db)) (map-append (λ e. e.0) l ((o, r) ∷ []))
      ∙ store_in_parts decls (map (λ e. e.0) l) (o ∷ []) (first_store decls db)

  pub replays_more : (db : Db) (l : Log) (o : Operation) (r : Reply) → Replays decls db l → r ≡ (reply decls o (store_after_log decls db l)).0
      → Replays decls db (l ++ (o, r) ∷ [])
  replays_more db l o r h e =
      ap (λ os. replies decls os (first_store decls db)) (map-append (λ e. e.0) l ((o, r) ∷ []))
      ∙ in_parts decls (map (λ e. e.0) l) (o ∷ []) (first_store decls db)
      ∙ ap (λ rs. rs ++ (reply decls o (store_after_log decls db l)).0 ∷ []) h
      ∙ ap (λ p. map (λ e. e.1) l ++ p ∷ []) (sym e)
      ∙ sym (map-append (λ e. e.1) l ((o, r) ∷ []))

-- which cursors a log opened
pub opened_more : (l k : Log) → opened_lists (l ++ k) ≡ opened_lists l ++ opened_lists k
opened_more l k = filter_map-append _ l k

pub seen_more : (l : List (Op × R.Reply)) (o : Op) (r : R.Reply) → log_seen (l ++ (o, r) ∷ []) ≡ log_seen l ++ (operation_seen o, reply_seen r) ∷ []
seen_more l o r = map-append _ l ((o, r) ∷ [])

-- a desk over plain lists with one operation more
pub desk_more : (decls : List Decl) (lists lists' : List ItemList) (cursors cursors' : List ListCursor) (changes changes' : ℕ) (log : List (Op × R.Reply))
    (first : List (List ListItem)) (o : Op) (r : R.Reply)
    → IsListDesk decls lists cursors changes log first
    → is_valid_after decls (log_seen log) (operation_seen o) ≡ true → is_reply_after decls (log_seen log) (operation_seen o) (reply_seen r) ≡ true
    → reply_seen r ≡ (reply decls (operation_seen o) (store_after_log decls (lists_seen first) (log_seen log))).0
    → StandFor lists' cursors' changes' (reply decls (operation_seen o) (store_after_log decls (lists_seen first) (log_seen log))).1
    → decls_of lists' ≡ decls_of lists → are_cursors_within lists' cursors' ≡ true → changes' ≤ max_changes
    → map (λ c. c.list) cursors' ≡ map (λ c. c.list) cursors ++ opened_lists ((operation_seen o, reply_seen r) ∷ [])
    → IsListDesk decls lists' cursors' changes' (log ++ (o, r) ∷ []) first
desk_more decls lists lists' cursors cursors' changes changes' log first o r d v k told st same w few new = record {
  decls_are = same ∙ d.decls_are;
  within = w;
  few = few;
  stands = subst (StandFor lists' cursors' changes')
      (sym (ap (store_after_log decls (lists_seen first)) (seen_more log o r)
      ∙ store_more decls (lists_seen first) (log_seen log) (operation_seen o) (reply_seen r))) st;
  replays = subst (Replays decls (lists_seen first)) (sym (seen_more log o r))
      (replays_more decls (lists_seen first) (log_seen log) (operation_seen o) (reply_seen r) d.replays told);
  logged = ap (is_log decls) (seen_more log o r) ∙ log_more decls (log_seen log) (operation_seen o) (reply_seen r) d.logged v k;
  opened =
      ap opened_lists (seen_more log o r)
      ∙ opened_more (log_seen log) ((operation_seen o, reply_seen r) ∷ [])
      ∙ ap (λ xs. xs ++ opened_lists ((operation_seen o, reply_seen r) ∷ [])) d.opened
      ∙ sym new;
}
