-- A log grows by what the present lists reply to an operation that may be asked.
use Rattle.std.specs.Prelude.{◌≡◌, ℕ, nat_lt, Bool, true, false, ◌&&◌, List, [], ◌∷◌, ◌++◌, length, map, drop, slice_get, Option, Some, None, cond}
use Rattle.std.specs.Prelude.{option_and_then}
use Rattle.std.specs.Option.{option_map}
use Rattle.std.proofs.Common.{refl, sym, ap, ◌∙◌, subst, append_assoc}
use Rattle.std.proofs.lemmas.Bool.{and_parts, eq-eqb}
use Rattle.std.proofs.lemmas.List.{map-append, length-map}
use Rattle.std.proofs.lemmas.Option.{slice_get-map}
use Rattle.ml_term.specs.Tree.{Tree}
use Rattle.ml_term.specs.Valid.{is_valid}
use Rattle.ml_term.specs.declared.declaration.Decl.{Decl}
use Rattle.ml_search.specs.Limits.{max_changes}
use Rattle.ml_search.specs.Program.{holds_of, is_of}
use Rattle.ml_search.specs.Db.{mine, Item, Db, items, is_allowed, is_db, is_committed}
use Rattle.ml_search.specs.Changes.{Lists, ItemName, Alter, puts, takes, puts_first, puts_last, drops, Effect, change_made, no_change, alter, db_after_change}
use Rattle.ml_search.specs.Changes.{change_of}
use Rattle.ml_search.specs.Changes as C
use Rattle.ml_search.specs.Operations.{Operation, opens, next, insert, delete, assertz, asserta, delete_at, Reply, absent, full, Log, opened_lists}
use Rattle.ml_search.specs.Operations.{is_valid_after, is_reply_after, is_log_from, is_log}
use Rattle.ml_search.specs.Replay.{Cursor, Store, item_reply, member, unifies, cursor_over, alter_of, reply_by, reply_to_change, reply, replies, first_store, Replays}
use Rattle.ml_asking.proofs.SearchesAgree.{append_none, after_from, after, ReplaysFrom, first_reply}
use Rattle.ml_asking.proofs.ChangesByLog.{cursor_there}
use Rattle.ml_asking.proofs.RequestsAreValid.{opened_by, opened_more}
use Rattle.ml_isolation.proofs.Ordered.{Each, each_by, each_filter, each_and_one, each_at}
use Rattle.ml_isolation.proofs.DeclaredLists.{IsAllowed, parts_of, list_there}
use Rattle.ml_isolation.proofs.ChangedLists.{ListsKept, reply_kept, held}
use Rattle.ml_isolation.proofs.CommittedPlaces.{IsAny, committed_within}

module _ (decls : List Decl) where
  -- one more reply that a store gives
  replays_one : (l : Log) (o : Operation) (s : Store) → ReplaysFrom decls s l → ReplaysFrom decls s (l ++ (o, (reply decls o (after_from decls l s)).0) ∷ [])
  replays_one [] o s h = refl
  replays_one (e ∷ l) o s h =
      let more = l ++ (o, (reply decls o (after_from decls l (reply decls e.0 s).1)).0) ∷ [] in
      ap (λ z. z ∷ replies decls (map (λ x. x.0) more) (reply decls e.0 s).1) (ap first_reply h)
      ∙ ap (λ zs. e.1 ∷ zs) (replays_one l o (reply decls e.0 s).1 (ap (drop 1) h))

  pub replays_longer : (db : Db) (l : Log) (o : Operation) → Replays decls db l → Replays decls db (l ++ (o, (reply decls o (after decls db l)).0) ∷ [])
  replays_longer db l o h = replays_one l o (first_store decls db) h

  -- the list of a cursor may hold its members
  abbrev MayHold : ℕ → Item → Type 0
  MayHold d i = holds_of (λ q. is_allowed q i.term) (slice_get decls d) ≡ true

  abbrev AreMembers : Cursor → Type 0
  AreMembers k = Each (MayHold k.list) k.members

  -- the log tells over which lists the cursors are
  pub record IsTold (l : Log) (s : Store) : Type 0 where
    pub opened : opened_lists l ≡ map (λ k. k.list) s.cursors
    pub members : Each AreMembers s.cursors
    pub kept : ListsKept decls IsAny s.lists

  items_held : (db : Db) (d : ℕ) → is_db decls db ≡ true → (q : Decl) → slice_get decls d ≡ Some q → Each (MayHold d) (items db d)
  items_held db d h q e =
      each_by (IsAllowed q) (MayHold d) (items db d) (λ i a. ap (holds_of (λ q. is_allowed q i.term)) e ∙ a)
      (parts_of q q.kind refl (items db d) (list_there decls db d q h e)).0

  same_cursors : (o : Option (Alter ItemName)) (p : Operation) (s : Store) → (reply_to_change decls o p s).1.cursors ≡ s.cursors
  same_cursors None p s = refl
  same_cursors (Some c) p s = refl

  still_told : (l : Log) (o : Operation) (p : Reply) (s u : Store) → IsTold l s → u.cursors ≡ s.cursors → opened_by o ≡ [] → ListsKept decls IsAny u.lists →
      IsTold (l ++ (o, p) ∷ []) u
  still_told l o p s u w q e k = record {
    opened = opened_more l o p ∙ (ap (λ z. opened_lists l ++ z) e ∙ (sym (append_none (opened_lists l)) ∙ (w.opened ∙ ap (map (λ k. k.list)) (sym q))));
    members = subst (Each AreMembers) (sym q) w.members;
    kept = k;
  }

  declared : (l : Log) (d : ℕ) (p : Tree) → is_valid_after decls l (opens d p) ≡ true → (q : Decl) × (slice_get decls d ≡ Some q)
  declared l d p v =
      let a = (and_parts (holds_of (λ q. is_valid p && is_of q.pred.name q.pred.arity p) (slice_get decls d)) _ v).0 in
      let q = held (λ q. is_valid p && is_of q.pred.name q.pred.arity p) (slice_get decls d) a in
      (q.0, q.1.0)

  reply_told : (o : Operation) (p : Reply) (l : Log) (s : Store) → is_valid_after decls l o ≡ true → IsTold l s →
      IsTold (l ++ (o, p) ∷ []) (reply decls o s).1
  reply_told (opens d t) p l s v w =
      let q = declared l d t v in
      let k = cursor_over decls d t s.lists.db in
      record {
        opened = opened_more l (opens d t) p ∙ (ap (λ z. z ++ d ∷ []) w.opened ∙ sym (map-append (λ k. k.list) s.cursors (k ∷ [])));
        members = each_and_one AreMembers s.cursors k w.members
            (each_filter (MayHold d) (unifies decls d t) (items s.lists.db d) (items_held s.lists.db d w.kept.lists q.0 q.1));
        kept = w.kept;
      }
  reply_told (next c i) p l s v w = still_told l (next c i) p s s w refl refl w.kept
  reply_told (insert t) p l s v w = still_told l (insert t) p s (reply decls (insert t) s).1 w refl refl (reply_kept decls IsAny (insert t) l s v w.kept)
  reply_told (delete t) p l s v w = still_told l (delete t) p s (reply decls (delete t) s).1 w refl refl (reply_kept decls IsAny (delete t) l s v w.kept)
  reply_told (assertz t) p l s v w = still_told l (assertz t) p s (reply decls (assertz t) s).1 w refl refl (reply_kept decls IsAny (assertz t) l s v w.kept)
  reply_told (asserta t) p l s v w = still_told l (asserta t) p s (reply decls (asserta t) s).1 w refl refl (reply_kept decls IsAny (asserta t) l s v w.kept)
  reply_told (delete_at c i) p l s v w =
      still_told l (delete_at c i) p s (reply decls (delete_at c i) s).1 w (same_cursors (alter_of s.cursors (delete_at c i)) (delete_at c i) s) refl
      (reply_kept decls IsAny (delete_at c i) l s v w.kept)

  told_after : (rest before : Log) (s : Store) → is_log_from decls before rest ≡ true → IsTold before s → IsTold (before ++ rest) (after_from decls rest s)
  told_after [] before s h w = subst (λ z. IsTold z s) (append_none before) w
  told_after (e ∷ rest) before s h w =
      let p = and_parts (is_valid_after decls before e.0 && is_reply_after decls before e.0 e.1) (is_log_from decls (before ++ e ∷ []) rest) h in
      let v = (and_parts (is_valid_after decls before e.0) (is_reply_after decls before e.0 e.1) p.0).0 in
      subst (λ z. IsTold z (after_from decls rest (reply decls e.0 s).1)) (append_assoc before (e ∷ []) rest)
      (told_after rest (before ++ e ∷ []) (reply decls e.0 s).1 p.1 (reply_told e.0 e.1 before s v w))

  -- the kinds of replies
  insert_kind : (l : Log) (t : Tree) (e : Effect) → is_reply_after decls l (insert t) (reply_by (insert t) e) ≡ true
  insert_kind l t change_made = refl
  insert_kind l t no_change = refl
  insert_kind l t C.change_limit = refl

  delete_kind : (l : Log) (t : Tree) (e : Effect) → is_reply_after decls l (delete t) (reply_by (delete t) e) ≡ true
  delete_kind l t change_made = refl
  delete_kind l t no_change = refl
  delete_kind l t C.change_limit = refl

  drop_kind : (l : Log) (c i : ℕ) (o : Option (Alter ItemName)) (s : Store) →
      is_reply_after decls l (delete_at c i) (reply_to_change decls o (delete_at c i) s).0 ≡ true
  drop_kind l c i None s = by (nat_lt (length s.lists.made) max_changes)
    where
      by : (b : Bool) → is_reply_after decls l (delete_at c i) (cond b absent full) ≡ true
      by true = refl
      by false = refl
  drop_kind l c i (Some x) s = by (alter decls x s.lists).0
    where
      by : (e : Effect) → is_reply_after decls l (delete_at c i) (reply_by (delete_at c i) e) ≡ true
      by change_made = refl
      by no_change = refl
      by C.change_limit = refl

  last_kind : (l : Log) (t : Tree) (s : Lists) → is_reply_after decls l (assertz t) (reply_by (assertz t) (alter decls (puts_last t) s).0) ≡ true
  last_kind l t s = by (nat_lt (length s.made) max_changes)
    where
      by : (b : Bool)
          → (let x : Effect × Lists =
          cond b (
            change_made,
            record {
              db = db_after_change decls (record { place = mine; change = length s.made }) (puts_last t) s.db;
              made = s.made ++ change_of decls (puts_last t) s.db ∷ [];
            },
          ) (C.change_limit, s)
          in is_reply_after decls l (assertz t) (reply_by (assertz t) x.0) ≡ true)
      by true = refl
      by false = refl

  first_kind : (l : Log) (t : Tree) (s : Lists) → is_reply_after decls l (asserta t) (reply_by (asserta t) (alter decls (puts_first t) s).0) ≡ true
  first_kind l t s = by (nat_lt (length s.made) max_changes)
    where
      by : (b : Bool)
          → (let x : Effect × Lists =
          cond b (
            change_made,
            record {
              db = db_after_change decls (record { place = mine; change = length s.made }) (puts_first t) s.db;
              made = s.made ++ change_of decls (puts_first t) s.db ∷ [];
            },
          ) (C.change_limit, s)
          in is_reply_after decls l (asserta t) (reply_by (asserta t) x.0) ≡ true)
      by true = refl
      by false = refl

  next_kind : (l : Log) (s : Store) (c i : ℕ) (o : Option Item) → member s.cursors c i ≡ o → IsTold l s →
      is_reply_after decls l (next c i) (item_reply o) ≡ true
  next_kind l s c i None e w = refl
  next_kind l s c i (Some j) e w =
      let k = cursor_there decls s.cursors c i j e in
      let d : slice_get (opened_lists l) c ≡ Some k.0.list =
      ap (λ z. slice_get z c) w.opened ∙ (slice_get-map (λ k. k.list) s.cursors c ∙ ap (option_map (λ k. k.list)) k.1) in
      let a = each_at (MayHold k.0.list) k.0.members i j k.2 (each_at AreMembers s.cursors c k.0 k.1 w.members) in
      ap (λ z. holds_of (λ q. is_allowed q j.term) (option_and_then (slice_get decls) z)) d ∙ a

  reply_kind : (o : Operation) (l : Log) (s : Store) → IsTold l s → is_reply_after decls l o (reply decls o s).0 ≡ true
  reply_kind (opens d p) l s w = eq-eqb (length s.cursors) (length (opened_lists l)) (sym (ap length w.opened ∙ length-map s.cursors (λ k. k.list)))
  reply_kind (next c i) l s w = next_kind l s c i (member s.cursors c i) refl w
  reply_kind (insert t) l s w = insert_kind l t (alter decls (puts t) s.lists).0
  reply_kind (delete t) l s w = delete_kind l t (alter decls (takes t) s.lists).0
  reply_kind (assertz t) l s w = last_kind l t s.lists
  reply_kind (asserta t) l s w = first_kind l t s.lists
  reply_kind (delete_at c i) l s w = drop_kind l c i (alter_of s.cursors (delete_at c i)) s

  -- the present lists reply of the kind that an operation has
  pub kind_after : (db : Db) (l : Log) (o : Operation) → is_db decls db ≡ true → is_committed db ≡ true → is_log decls l ≡ true →
      is_reply_after decls l o (reply decls o (after decls db l)).0 ≡ true
  kind_after db l o h p v =
      reply_kind o l (after decls db l)
      (told_after l [] (first_store decls db) v
      (record { opened = refl; members = tt; kept = record { lists = h; within = committed_within db p } }))
