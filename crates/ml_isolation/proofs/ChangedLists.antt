-- What a log of operations that may be asked leaves of lists are lists.
use Rattle.std.specs.Prelude.{◌≡◌, ℕ, ◌+◌, nat_lt, Bool, true, false, ◌&&◌, List, [], ◌∷◌, ◌++◌, length, map, slice_get, Option, Some, None, unwrap_or, cond}
use Rattle.std.specs.Option.{option_map, option_map_or}
use Rattle.std.specs.List.{filter}
use Rattle.std.proofs.Common.{refl, sym, ap, ◌∙◌, subst, arith, length-append}
use Rattle.std.proofs.lemmas.Bool.{and_parts, not-true}
use Rattle.ml_term.specs.Tree.{Tree}
use Rattle.ml_term.specs.declared.declaration.Decl.{Decl}
use Rattle.ml_term.specs.declared.declaration.Kind.TheVariants.{Relation, Clauses}
use Rattle.ml_search.specs.Limits.{max_changes}
use Rattle.ml_search.specs.Program.{name_of, arity_of, declaration_of, holds_of, is_relation, is_clause_list}
use Rattle.ml_search.specs.Db.{mine, Item, Db, items, with_items, head_of, is_tuple, is_stored_clause, is_list_of, is_db}
use Rattle.ml_search.specs.Changes.{Change, Lists, ItemName, Alter, puts, takes, puts_first, puts_last, drops, Effect, change_made, no_change, insert_by_key}
use Rattle.ml_search.specs.Changes.{without_term, without_id, has_term, list_for, keys_of, db_after_change, would_change, change_of, alter}
use Rattle.ml_search.specs.Changes as C
use Rattle.ml_search.specs.Operations.{Operation, opens, next, insert, delete, assertz, asserta, delete_at, Log, is_valid_after, is_reply_after, is_log_from}
use Rattle.ml_search.specs.Operations.{is_log}
use Rattle.ml_search.specs.Replay.{Store, alter_of, reply_to_change, reply, store_after, first_store, db_after_log, Replays}
use Rattle.ml_search.proofs.LogProgress.{changed_by_replay}
use Rattle.ml_asking.proofs.ProcedureFacts.{found}
use Rattle.ml_isolation.proofs.Ordered.{Each, each_and_one}
use Rattle.ml_isolation.proofs.ClauseLists.{clause_first, clause_last}
use Rattle.ml_isolation.proofs.DeclaredLists.{IsAllowed, parts_of, whole_of, list_filtered, relation_kind, clauses_kind, clause_allowed, list_inserted, list_there}
use Rattle.ml_isolation.proofs.DeclaredLists.{list_replaced, each_items}
use Rattle.ml_isolation.proofs.PlacesWithin.{IsWithin, new_item, new_is_later, changed_within}

same_decl : (o : Option Decl) (q r : Decl) → o ≡ Some q → o ≡ Some r → q ≡ r
same_decl o q r e f = cc

pub held : (p : Decl → Bool) (o : Option Decl) → holds_of p o ≡ true → (q : Decl) × ((o ≡ Some q) × (p q ≡ true))
held p None e = absurd (cc e)
held p (Some q) e = (q, (refl, e))

module _ (decls : List Decl) where
  -- lists, of which each item is within
  pub record IsKept (Q : ℕ → Type 0) (m : ℕ) (db : Db) : Type 0 where
    pub lists : is_db decls db ≡ true
    pub within : Each (Each (IsWithin Q m)) db

  -- what is put is a tuple of its relation, or a clause of its list
  pub record IsTupleThere (t : Tree) : Type 0 where
    pub decl : Decl
    pub stands : slice_get decls (list_for decls t) ≡ Some decl
    pub kind : decl.kind ≡ Relation
    pub allowed : is_tuple decl t ≡ true

  pub record IsClauseThere (c : Tree) : Type 0 where
    pub decl : Decl
    pub stands : slice_get decls (list_for decls (head_of c)) ≡ Some decl
    pub kind : decl.kind ≡ Clauses
    pub allowed : is_stored_clause decl c ≡ true

  abbrev pub MayChange : Alter ItemName → Type 0
  MayChange (puts t) = IsTupleThere t
  MayChange (takes t) = Unit {0}
  MayChange (puts_first c) = IsClauseThere c
  MayChange (puts_last c) = IsClauseThere c
  MayChange (drops x) = Unit {0}

  -- some items of one list
  fewer : (db : Db) (d : ℕ) (p : Item → Bool) → is_db decls db ≡ true → is_db decls (with_items db d (filter p (items db d))) ≡ true
  fewer db d p h = list_replaced decls db d (filter p (items db d)) h (λ q e. list_filtered q p (items db d) (list_there decls db d q h e))

  changed_db : (Q : ℕ → Type 0) (m : ℕ) (c : Alter ItemName) (db : Db) → MayChange c → would_change decls c db ≡ true → IsKept Q m db →
      is_db decls (db_after_change decls (record { place = mine; change = m }) c db) ≡ true
  changed_db Q m (puts t) db a w k =
      let d = list_for decls t in
      let js = insert_by_key (keys_of decls d) (new_item m t) (items db d) in
      list_replaced decls db d js k.lists
      (λ q e. subst (λ z. is_list_of z js ≡ true) (same_decl (slice_get decls d) a.decl q a.stands e)
      (list_inserted a.decl (keys_of decls d) (new_item m t) (items db d) (ap (λ z. option_map_or (λ x. x.keys) z []) a.stands) a.kind a.allowed
      (list_there decls db d a.decl k.lists a.stands) (not-true (has_term t (items db d)) w)))
  changed_db Q m (takes t) db a w k = fewer db (list_for decls t) _ k.lists
  changed_db Q m (puts_first c) db a w k =
      let d = list_for decls (head_of c) in
      let js = new_item m c ∷ items db d in
      let p = parts_of a.decl Clauses a.kind (items db d) (list_there decls db d a.decl k.lists a.stands) in
      list_replaced decls db d js k.lists
      (λ q e. subst (λ z. is_list_of z js ≡ true) (same_decl (slice_get decls d) a.decl q a.stands e)
      (whole_of a.decl Clauses a.kind js (clause_allowed a.decl c a.kind a.allowed, p.0)
      (clause_first (new_item m c) (items db d) p.1 (new_is_later Q m c (items db d) (each_items (IsWithin Q m) db d k.within)))))
  changed_db Q m (puts_last c) db a w k =
      let d = list_for decls (head_of c) in
      let js = items db d ++ new_item m c ∷ [] in
      let p = parts_of a.decl Clauses a.kind (items db d) (list_there decls db d a.decl k.lists a.stands) in
      list_replaced decls db d js k.lists
      (λ q e. subst (λ z. is_list_of z js ≡ true) (same_decl (slice_get decls d) a.decl q a.stands e)
      (whole_of a.decl Clauses a.kind js (each_and_one (IsAllowed a.decl) (items db d) (new_item m c) p.0 (clause_allowed a.decl c a.kind a.allowed))
      (clause_last (new_item m c) (items db d) p.1 (new_is_later Q m c (items db d) (each_items (IsWithin Q m) db d k.within)))))
  changed_db Q m (drops x) db a w k = fewer db x.list _ k.lists

  changed : (Q : ℕ → Type 0) (m : ℕ) (c : Alter ItemName) (db : Db) → MayChange c → would_change decls c db ≡ true → IsKept Q m db →
      IsKept Q (1 + m) (db_after_change decls (record { place = mine; change = m }) c db)
  changed Q m c db a w k = record { lists = changed_db Q m c db a w k; within = changed_within decls Q m c db k.within }

  -- whether a change is made or not
  abbrev pub ListsKept : (ℕ → Type 0) → Lists → Type 0
  ListsKept Q s = IsKept Q (length s.made) s.db

  by_tests : (Q : ℕ → Type 0) (full_or_not changes_or_not : Bool) (c : Alter ItemName) (s : Lists) → would_change decls c s.db ≡ changes_or_not → MayChange c →
      ListsKept Q s
      → (let x : Effect × Lists =
      cond full_or_not
      (cond changes_or_not (
        change_made,
        record
            { db = db_after_change decls (record { place = mine; change = length s.made }) c s.db; made = s.made ++ change_of decls c s.db ∷ [] },
      ) (
        no_change,
        s,
      )) (C.change_limit, s)
      in ListsKept Q x.1)
  by_tests Q true true c s w a k =
      let e : 1 + length s.made ≡ length (s.made ++ change_of decls c s.db ∷ []) = omega (arith, length-append s.made (change_of decls c s.db ∷ [])) in
      subst (λ n. IsKept Q n (db_after_change decls (record { place = mine; change = length s.made }) c s.db)) e (changed Q (length s.made) c s.db a w k)
  by_tests Q true false c s w a k = k
  by_tests Q false b c s w a k = k

  alter_kept : (Q : ℕ → Type 0) (c : Alter ItemName) (s : Lists) → MayChange c → ListsKept Q s → ListsKept Q (alter decls c s).1
  alter_kept Q c s a k = by_tests Q (nat_lt (length s.made) max_changes) (would_change decls c s.db) c s refl a k

  change_kept : (Q : ℕ → Type 0) (c : Option (Alter ItemName)) (o : Operation) (s : Store) → ((x : Alter ItemName) → c ≡ Some x → MayChange x) →
      ListsKept Q s.lists
      → ListsKept Q (reply_to_change decls c o s).1.lists
  change_kept Q None o s f k = k
  change_kept Q (Some c) o s f k = alter_kept Q c s.lists (f c refl) k

  -- what may be asked
  place_there : (t : Tree) (q : Decl) → declaration_of decls (name_of t) (arity_of t) ≡ Some q → slice_get decls (list_for decls t) ≡ Some q
  place_there t q e =
      let w = found decls (name_of t) (arity_of t) q e in
      ap (slice_get decls) (ap (λ z. unwrap_or z (length decls)) w.1.1.0) ∙ w.1.1.1

  pub tuple_there : (l : Log) (t : Tree) → is_valid_after decls l (insert t) ≡ true → IsTupleThere t
  tuple_there l t v =
      let q = held (λ q. is_relation q && is_tuple q t) (declaration_of decls (name_of t) (arity_of t)) v in
      let p = and_parts (is_relation q.0) (is_tuple q.0 t) q.1.1 in
      record { decl = q.0; stands = place_there t q.0 q.1.0; kind = relation_kind q.0 p.0; allowed = p.1 }

  pub clause_there : (l : Log) (t : Tree) → is_valid_after decls l (assertz t) ≡ true → IsClauseThere t
  clause_there l t v =
      let q = held (λ q. is_clause_list q && is_stored_clause q t) (declaration_of decls (name_of (head_of t)) (arity_of (head_of t))) v in
      let p = and_parts (is_clause_list q.0) (is_stored_clause q.0 t) q.1.1 in
      record { decl = q.0; stands = place_there (head_of t) q.0 q.1.0; kind = clauses_kind q.0 p.0; allowed = p.1 }

  drop_may : (o : Option Item) (n : ℕ) (x : Alter ItemName) → option_map (λ j. drops (record { list = n; id = j.id })) o ≡ Some x → MayChange x
  drop_may None n x e = absurd (cc e)
  drop_may (Some j) n x e = let q : drops (record { list = n; id = j.id }) ≡ x = cc e in subst MayChange q tt

  some_may : (c x : Alter ItemName) → MayChange c → Some c ≡ Some x → MayChange x
  some_may c x a e = let q : c ≡ x = cc e in subst MayChange q a

  pub reply_kept : (Q : ℕ → Type 0) (o : Operation) (l : Log) (s : Store) → is_valid_after decls l o ≡ true → ListsKept Q s.lists →
      ListsKept Q (reply decls o s).1.lists
  reply_kept Q (opens d p) l s v k = k
  reply_kept Q (next c i) l s v k = k
  reply_kept Q (insert t) l s v k = change_kept Q (Some (puts t)) (insert t) s (λ x. some_may (puts t) x (tuple_there l t v)) k
  reply_kept Q (delete t) l s v k = change_kept Q (Some (takes t)) (delete t) s (λ x. some_may (takes t) x tt) k
  reply_kept Q (assertz t) l s v k = change_kept Q (Some (puts_last t)) (assertz t) s (λ x. some_may (puts_last t) x (clause_there l t v)) k
  reply_kept Q (asserta t) l s v k = change_kept Q (Some (puts_first t)) (asserta t) s (λ x. some_may (puts_first t) x (clause_there l t v)) k
  reply_kept Q (delete_at c i) l s v k = change_kept Q (alter_of s.cursors (delete_at c i)) (delete_at c i) s (drop_may _ _) k

  store_kept : (Q : ℕ → Type 0) (rest before : Log) (s : Store) → is_log_from decls before rest ≡ true → ListsKept Q s.lists →
      ListsKept Q (store_after decls (map (λ e. e.0) rest) s).lists
  store_kept Q [] before s h k = k
  store_kept Q (e ∷ rest) before s h k =
      let p = and_parts (is_valid_after decls before e.0 && is_reply_after decls before e.0 e.1) (is_log_from decls (before ++ e ∷ []) rest) h in
      let v = (and_parts (is_valid_after decls before e.0) (is_reply_after decls before e.0 e.1) p.0).0 in
      store_kept Q rest (before ++ e ∷ []) (reply decls e.0 s).1 p.1 (reply_kept Q e.0 before s v k)

  -- the lists that a log leaves
  pub log_keeps : (Q : ℕ → Type 0) (db : Db) (l : Log) → IsKept Q 0 db → is_log decls l ≡ true → Replays decls db l →
      (m : ℕ) × IsKept Q m (db_after_log decls db l mine)
  log_keeps Q db l k v r =
      let s = store_after decls (map (λ e. e.0) l) (first_store decls db) in
      (length s.lists.made, subst (IsKept Q (length s.lists.made)) (sym (changed_by_replay decls db l r)) (store_kept Q l [] (first_store decls db) v k))
