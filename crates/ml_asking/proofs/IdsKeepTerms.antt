-- Along a log, a function gives the term of each stored clause by its id, in the lists and in the cursors.
use Rattle.std.specs.Prelude.{◌≡◌, ℕ, zero, suc, ◌+◌, ◌==◌, ◌⊎◌, nat_lt, Bool, true, false, ◌&&◌, not, List, [], ◌∷◌, ◌++◌, length, slice_get, unwrap_or}
use Rattle.std.specs.Prelude.{Option, Some, None, cond}
use Rattle.std.specs.Option.{option_map}
use Rattle.std.specs.List.{filter}
use Rattle.std.proofs.Common.{inl, inr, refl, sym, ap, subst, arith, length-append}
use Rattle.std.proofs.lemmas.Bool.{and_parts, and_right, eq-eqb}
use Rattle.ml_term.specs.Tree.{Tree}
use Rattle.ml_term.specs.declared.declaration.Decl.{Decl}
use Rattle.ml_search.specs.Limits.{max_changes}
use Rattle.ml_search.specs.Program.{name_of, arity_of, declaration_of, holds_of, is_relation, is_clause_list}
use Rattle.ml_search.specs.Db.{mine, Id, Item, Db, is_same_id, items, with_items, head_of, is_tuple}
use Rattle.ml_search.specs.Changes.{Change, Lists, ItemName, Alter, puts, takes, puts_first, puts_last, drops, Effect, change_made, no_change, list_for}
use Rattle.ml_search.specs.Changes.{without_term, without_id, db_after_change, would_change, change_of, alter}
use Rattle.ml_search.specs.Changes as C
use Rattle.ml_search.specs.Operations.{Operation, opens, next, insert, delete, assertz, asserta, delete_at, Log, is_valid_after}
use Rattle.ml_search.specs.Replay.{Cursor, Store, member, list_under, unifies, cursor_over, alter_of, reply_to_change, reply}
use Rattle.ml_asking.proofs.ProcedureFacts.{found}
use Rattle.ml_asking.proofs.ClauseIds.{Each, each_by, each_filter, each_and_one, items_with, same_itself, next_id, old_later, old_is_other, Keeps}

module _ (decls : List Decl) where
  -- a list is one of clauses
  abbrev pub IsClauses : ℕ → Type 0
  IsClauses d = holds_of is_clause_list (slice_get decls d) ≡ true

  -- A function gives the term of each clause by its id, in the lists and in the cursors, and no id is one of the changes to come.
  pub record KeepsAll (f : ℕ → Id → Tree) (db : Db) (m : ℕ) (cs : List Cursor) : Type 0 where
    pub lists : (d : ℕ) → IsClauses d → Each (Keeps f m d) (items db d)
    pub cursors : (c : ℕ) (k : Cursor) → slice_get cs c ≡ Some k → IsClauses k.list → Each (Keeps f m k.list) k.members

  later : (f : ℕ → Id → Tree) (m d : ℕ) (is : List Item) → Each (Keeps f m d) is → Each (Keeps f (1 + m) d) is
  later f m d is = each_by (Keeps f m d) (Keeps f (1 + m) d) is (λ i e. (e.0, old_later m i.id e.1))

  -- the next id has a term
  abbrev with_next : (ℕ → Id → Tree) → ℕ → ℕ → Tree → ℕ → Id → Tree
  with_next f n m t d a = cond ((d == n) && is_same_id a (next_id m)) t (f d a)

  others : (f : ℕ → Id → Tree) (n m : ℕ) (t : Tree) (d : ℕ) (is : List Item) → Each (Keeps f m d) is → Each (Keeps (with_next f n m t) (1 + m) d) is
  others f n m t d is =
      each_by (Keeps f m d) (Keeps (with_next f n m t) (1 + m) d) is
      (λ i e. (rw (and_right (d == n) (is_same_id i.id (next_id m)) (old_is_other m i.id e.1)) e.0, old_later m i.id e.1))

  itself : (f : ℕ → Id → Tree) (n m : ℕ) (t : Tree) (d : ℕ) → d ≡ n → Keeps (with_next f n m t) (1 + m) d (record { id = next_id m; term = t })
  itself f n m t d e = (rw (eq-eqb d n e, same_itself (next_id m)) refl, omega arith)

  -- a tuple is put into no list of clauses
  abbrev IsAllowedThere : Alter ItemName → Type 0
  IsAllowedThere (puts t) = IsClauses (list_for decls t) → ⊥
  IsAllowedThere (takes t) = Unit {0}
  IsAllowedThere (puts_first c) = Unit {0}
  IsAllowedThere (puts_last c) = Unit {0}
  IsAllowedThere (drops x) = Unit {0}

  -- lists of which some items were left out
  fewer : (f : ℕ → Id → Tree) (db : Db) (m n : ℕ) (p : Item → Bool) → ((d : ℕ) → IsClauses d → Each (Keeps f m d) (items db d)) → (d : ℕ) → IsClauses d →
      Each (Keeps f (1 + m) d) (items (with_items db n (filter p (items db n))) d)
  fewer f db m n p h d k =
      items_with (Keeps f (1 + m) d) db n (filter p (items db n)) d
      (λ e. each_filter (Keeps f (1 + m) d) p (items db n) (subst (λ z. Each (Keeps f (1 + m) d) (items db z)) e (later f m d (items db d) (h d k))))
      (later f m d (items db d) (h d k))

  changed_keeps : (c : Alter ItemName) → IsAllowedThere c → (f : ℕ → Id → Tree) (db : Db) (m : ℕ) (cs : List Cursor) → KeepsAll f db m cs →
      (g : ℕ → Id → Tree) × KeepsAll g (db_after_change decls (next_id m) c db) (1 + m) cs
  changed_keeps (puts t) bars f db m cs k = (
    f,
    record {
      lists =
          λ d h. items_with (Keeps f (1 + m) d) db (list_for decls t) _ d (λ e. absurd (bars (subst IsClauses e h))) (later f m d (items db d) (k.lists d h));
      cursors = λ c q e h. later f m q.list q.members (k.cursors c q e h);
    },
  )
  changed_keeps (takes t) bars f db m cs k =
      (f, record { lists = fewer f db m (list_for decls t) _ k.lists; cursors = λ c q e h. later f m q.list q.members (k.cursors c q e h) })
  changed_keeps (puts_first t) bars f db m cs k =
      let n = list_for decls (head_of t) in
      let g = with_next f n m t in (
        g,
        record {
          lists =
              λ d h. items_with (Keeps g (1 + m) d) db n _ d
              (λ e. (itself f n m t d e, subst (λ z. Each (Keeps g (1 + m) d) (items db z)) e (others f n m t d (items db d) (k.lists d h))))
              (others f n m t d (items db d) (k.lists d h));
          cursors = λ c q e h. others f n m t q.list q.members (k.cursors c q e h);
        },
      )
  changed_keeps (puts_last t) bars f db m cs k =
      let n = list_for decls (head_of t) in
      let g = with_next f n m t in (
        g,
        record {
          lists = λ d h. items_with (Keeps g (1 + m) d) db n _ d
              (λ e. each_and_one (Keeps g (1 + m) d) (items db n) (record { id = next_id m; term = t })
              (subst (λ z. Each (Keeps g (1 + m) d) (items db z)) e (others f n m t d (items db d) (k.lists d h))) (itself f n m t d e)) (others f n m t d
              (items db d) (k.lists d h));
          cursors = λ c q e h. others f n m t q.list q.members (k.cursors c q e h);
        },
      )
  changed_keeps (drops x) bars f db m cs k =
      (f, record { lists = fewer f db m x.list _ k.lists; cursors = λ c q e h. later f m q.list q.members (k.cursors c q e h) })

  -- whether a change was made or not
  abbrev pub SomeKeeps : Lists → List Cursor → Type 0
  SomeKeeps s cs = (g : ℕ → Id → Tree) × KeepsAll g s.db (length s.made) cs

  tests_keep : (full_or_not changes_or_not : Bool) (c : Alter ItemName) (s : Lists) (cs : List Cursor) → IsAllowedThere c → SomeKeeps s cs
      → (let x : Effect × Lists =
      cond full_or_not
      (cond changes_or_not (
        change_made,
        record
            { db = db_after_change decls (record { place = mine; change = length s.made }) c s.db; made = s.made ++ change_of decls c s.db ∷ [] },
      ) (
        no_change,
        s,
      )) (C.change_limit, s)
      in SomeKeeps x.1 cs)
  tests_keep true true c s cs bars k =
      let h = changed_keeps c bars k.0 s.db (length s.made) cs k.1 in
      let e : length (s.made ++ change_of decls c s.db ∷ []) ≡ 1 + length s.made = omega (arith, length-append s.made (change_of decls c s.db ∷ [])) in
      (h.0, subst (λ n. KeepsAll h.0 (db_after_change decls (next_id (length s.made)) c s.db) n cs) (sym e) h.1)
  tests_keep true false c s cs bars k = k
  tests_keep false b c s cs bars k = k

  alter_keeps : (c : Alter ItemName) (s : Lists) (cs : List Cursor) → IsAllowedThere c → SomeKeeps s cs → SomeKeeps (alter decls c s).1 cs
  alter_keeps c s cs bars k = tests_keep (nat_lt (length s.made) max_changes) (would_change decls c s.db) c s cs bars k

  -- a tuple that may be put is one of a relation
  pub held : (p : Decl → Bool) (o : Option Decl) → holds_of p o ≡ true → (q : Decl) × ((o ≡ Some q) × (p q ≡ true))
  held p None e = absurd (cc e)
  held p (Some q) e = (q, (refl, e))

  not_both : (b : Bool) → b ≡ true → not b ≡ true → ⊥
  not_both true e h = cc h
  not_both false e h = cc e

  no_clause_list : (l : Log) (t : Tree) → is_valid_after decls l (insert t) ≡ true → IsClauses (list_for decls t) → ⊥
  no_clause_list l t v h =
      let q = held (λ q. is_relation q && is_tuple q t) (declaration_of decls (name_of t) (arity_of t)) v in
      let w = found decls (name_of t) (arity_of t) q.0 q.1.0 in
      let r : is_relation q.0 ≡ true = (and_parts (is_relation q.0) (is_tuple q.0 t) q.1.1).0 in
      let e : list_for decls t ≡ w.1.0 = ap (λ z. unwrap_or z (length decls)) w.1.1.0 in
      not_both (is_relation q.0) r (subst (λ z. holds_of is_clause_list z ≡ true) w.1.1.1 (subst IsClauses e h))

  -- the cursors with one more
  pub last_or : (cs : List Cursor) (k : Cursor) (c : ℕ) (q : Cursor) → slice_get (cs ++ k ∷ []) c ≡ Some q → (slice_get cs c ≡ Some q) ⊎ (k ≡ q)
  last_or [] k zero q e = inr (cc e)
  last_or [] k (suc c) q e = absurd (cc e)
  last_or (x ∷ cs) k zero q e = inl e
  last_or (x ∷ cs) k (suc c) q e = last_or cs k c q e

  abbrev pub StoreKeeps : Store → Type 0
  StoreKeeps s = SomeKeeps s.lists s.cursors

  dropped_keeps : (o : Option (Alter ItemName)) (p : Operation) (s : Store) → ((c : Alter ItemName) → o ≡ Some c → IsAllowedThere c) → StoreKeeps s →
      StoreKeeps (reply_to_change decls o p s).1
  dropped_keeps None p s bars k = k
  dropped_keeps (Some c) p s bars k = alter_keeps c s.lists s.cursors (bars c refl) k

  drop_allowed : (o : Option Item) (n : ℕ) (c : Alter ItemName) → option_map (λ j. drops (record { list = n; id = j.id })) o ≡ Some c → IsAllowedThere c
  drop_allowed None n c e = absurd (cc e)
  drop_allowed (Some j) n c e = let q : drops (record { list = n; id = j.id }) ≡ c = cc e in subst IsAllowedThere q tt

  pub reply_keeps : (o : Operation) (l : Log) (s : Store) → is_valid_after decls l o ≡ true → StoreKeeps s → StoreKeeps (reply decls o s).1
  reply_keeps (opens d p) l s v k = (
    k.0,
    record {
      lists = k.1.lists;
      cursors = λ c q e h. elim (last_or s.cursors (cursor_over decls d p s.lists.db) c q e) [
        | inl i ↦ k.1.cursors c q i h
        | inr i ↦ subst (λ z. IsClauses z.list → Each (Keeps k.0 (length s.lists.made) z.list) z.members) i
            (λ h. each_filter (Keeps k.0 (length s.lists.made) d) (unifies decls d p) (items s.lists.db d) (k.1.lists d h)) h
      ];
    },
  )
  reply_keeps (next c i) l s v k = k
  reply_keeps (insert t) l s v k = alter_keeps (puts t) s.lists s.cursors (no_clause_list l t v) k
  reply_keeps (delete t) l s v k = alter_keeps (takes t) s.lists s.cursors tt k
  reply_keeps (assertz t) l s v k = alter_keeps (puts_last t) s.lists s.cursors tt k
  reply_keeps (asserta t) l s v k = alter_keeps (puts_first t) s.lists s.cursors tt k
  reply_keeps (delete_at c i) l s v k =
      dropped_keeps (alter_of s.cursors (delete_at c i)) (delete_at c i) s (drop_allowed (member s.cursors c i) (list_under s.cursors c)) k
