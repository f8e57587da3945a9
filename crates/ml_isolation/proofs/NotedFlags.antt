-- The notes of a log tell at each of its places whether an item is there.
use Rattle.std.specs.Prelude.{length}
use Rattle.std.specs.Prelude.{◌≡◌, ℕ, zero, suc, ◌+◌, ◌≤◌, nat_lt, Bool, true, false, ◌&&◌, List, [], ◌∷◌, ◌++◌, map, take, slice_get, Option, Some, None}
use Rattle.std.specs.Prelude.{is_some, unwrap_or, cond, option_and_then}
use Rattle.std.specs.Option.{option_map}
use Rattle.std.specs.List.{cons_option}
use Rattle.std.proofs.Common.{refl, sym, ap, ◌∙◌, subst, arith}
use Rattle.std.proofs.lemmas.Bool.{and_parts, lt-ltb, le-ltb}
use Rattle.std.proofs.lemmas.List.{map-append}
use Rattle.ml_term.specs.Tree.{Tree}
use Rattle.ml_term.specs.declared.declaration.Decl.{Decl}
use Rattle.ml_search.specs.Program.{holds_of, is_relation, is_clause_list}
use Rattle.ml_search.specs.Db.{Place, mine, Id, Item, Db, items, with_id, is_list_of, is_db}
use Rattle.ml_search.specs.Changes.{ItemName, Alter, puts, takes, puts_first, puts_last, drops, has_term, list_for}
use Rattle.ml_search.specs.LogChanges.{is_change}
use Rattle.ml_search.specs.Operations.{Operation, opens, next, insert, delete, assertz, asserta, delete_at, Reply, Log, opened_lists, declaration_under}
use Rattle.ml_search.specs.Operations.{is_valid_after, is_reply_after, is_log_from, is_log, item_given}
use Rattle.ml_search.specs.Replay.{Cursor, Progress, member, list_under, cursor_over, alter_of, progress_by_change, progress_by, progress_after, db_after_log}
use Rattle.ml_asking.proofs.SearchesAgree.{append_none}
use Rattle.ml_asking.proofs.RequestsAreValid.{opened_by, opened_more, consed}
use Rattle.ml_isolation.specs.Logs.{IsRelation, IsClauseList}
use Rattle.ml_isolation.specs.Notes.{Noted, tuple, clause, flag_at, flag_of, noted_by, notes_from, notes_of}
use Rattle.ml_isolation.proofs.ChangedLists.{tuple_there, clause_there}
use Rattle.ml_isolation.proofs.AlikeStores.{there_is_relation}
use Rattle.ml_isolation.proofs.ChangedFlags.{clause_there_kind, change_exists, list_of, IsOfKind, is_there, MayBe, flagged}

-- flags: notes from a place on say nothing below it, and else the first one is over
flags_skip : (decls : List Decl) (x : Noted) (l : Log) (n stamp : ℕ) (p : Progress) (b : Bool) → stamp ≤ n → flag_at stamp b (notes_from decls x n p l) ≡ b
flags_skip decls x [] n stamp p b h = refl
flags_skip decls x (e ∷ l) n stamp p b h =
    by (noted_by decls x p e) (flags_skip decls x l (1 + n) stamp (progress_by decls mine e p) b (omega (arith, h)))
  where
    by : (o : Option Bool) → flag_at stamp b (notes_from decls x (1 + n) (progress_by decls mine e p) l) ≡ b →
        flag_at stamp b (cons_option (option_map (λ flag. (n, flag)) o) (notes_from decls x (1 + n) (progress_by decls mine e p) l)) ≡ b
    by None r = r
    by (Some f) r =
        ap (λ c. flag_at stamp (cond c f b) (notes_from decls x (1 + n) (progress_by decls mine e p) l)) (le-ltb n stamp h) ∙ r

flags_first : (n stamp : ℕ) (b : Bool) (o : Option Bool) (es : List (ℕ × Bool)) → nat_lt n stamp ≡ true →
    flag_at stamp b (cons_option (option_map (λ flag. (n, flag)) o) es) ≡ flag_at stamp (unwrap_or o b) es
flags_first n stamp b None es h = refl
flags_first n stamp b (Some f) es h = ap (λ c. flag_at stamp (cond c f b) es) h

module _ (decls : List Decl) where
  -- a cursor's list is the one that the log says
  under_told : (cs : List Cursor) (c d : ℕ) → slice_get (map (λ k. k.list) cs) c ≡ Some d → list_under cs c ≡ d
  under_told [] c d e = absurd (cc e)
  under_told (k ∷ cs) zero d e = cc e
  under_told (k ∷ cs) (suc c) d e = under_told cs c d e

  told_list : (o : Option ℕ) → holds_of is_clause_list (option_and_then (slice_get decls) o) ≡ true → (d : ℕ) × ((o ≡ Some d) × IsClauseList decls d)
  told_list None h = absurd (cc h)
  told_list (Some d) h = (d, (refl, h))

  abbrev IsOpened : Log → Progress → Type 0
  IsOpened l p = opened_lists l ≡ map (λ k. k.list) p.cursors

  clauses_under : (l : Log) (p : Progress) (c i : ℕ) → is_valid_after decls l (delete_at c i) ≡ true → IsOpened l p →
      IsClauseList decls (list_under p.cursors c)
  clauses_under l p c i v w =
      let h = (and_parts (holds_of is_clause_list (declaration_under decls l c)) (is_some (item_given l c i)) v).0 in
      let d = told_list (slice_get (opened_lists l) c) h in
      subst (IsClauseList decls) (sym (under_told p.cursors c d.0 (ap (λ z. slice_get z c) (sym w) ∙ d.1.0))) d.1.1

  -- the cursors after an operation
  same_opened : (l : Log) (o : Operation) (r : Reply) (p q : Progress) → IsOpened l p → q.cursors ≡ p.cursors → opened_by o ≡ [] →
      IsOpened (l ++ (o, r) ∷ []) q
  same_opened l o r p q w e f =
      opened_more l o r
      ∙ (ap (λ z. opened_lists l ++ z) f ∙ (sym (append_none (opened_lists l)) ∙ (w ∙ ap (map (λ k. k.list)) (sym e))))

  change_cursors : (place : Place) (b : Bool) (c : Option (Alter ItemName)) (p : Progress) → (progress_by_change decls place b c p).cursors ≡ p.cursors
  change_cursors place true None p = refl
  change_cursors place true (Some c) p = refl
  change_cursors place false c p = refl

  by_opened : (l : Log) (o : Operation) (r : Reply) (p : Progress) → IsOpened l p → IsOpened (l ++ (o, r) ∷ []) (progress_by decls mine (o, r) p)
  by_opened l (opens d t) r p w =
      opened_more l (opens d t) r ∙ (ap (λ z. z ++ d ∷ []) w ∙ sym (map-append (λ k. k.list) p.cursors (cursor_over decls d t p.db ∷ [])))
  by_opened l (next c i) r p w = same_opened l (next c i) r p (progress_by decls mine (next c i, r) p) w (change_cursors mine (is_change r) None p) refl
  by_opened l (insert t) r p w =
      same_opened l (insert t) r p (progress_by decls mine (insert t, r) p) w (change_cursors mine (is_change r) (Some (puts t)) p) refl
  by_opened l (delete t) r p w =
      same_opened l (delete t) r p (progress_by decls mine (delete t, r) p) w (change_cursors mine (is_change r) (Some (takes t)) p) refl
  by_opened l (assertz t) r p w =
      same_opened l (assertz t) r p (progress_by decls mine (assertz t, r) p) w (change_cursors mine (is_change r) (Some (puts_last t)) p) refl
  by_opened l (asserta t) r p w =
      same_opened l (asserta t) r p (progress_by decls mine (asserta t, r) p) w (change_cursors mine (is_change r) (Some (puts_first t)) p) refl
  by_opened l (delete_at c i) r p w =
      same_opened l (delete_at c i) r p (progress_by decls mine (delete_at c i, r) p) w
      (change_cursors mine (is_change r) (alter_of p.cursors (delete_at c i)) p) refl

  progress_exists : (b : Bool) (c : Option (Alter ItemName)) (p : Progress) (d : ℕ) → is_some (slice_get p.db d) ≡ true →
      is_some (slice_get (progress_by_change decls mine b c p).db d) ≡ true
  progress_exists true None p d h = h
  progress_exists true (Some c) p d h = change_exists decls (record { place = mine; change = p.changes }) c p.db d h
  progress_exists false c p d h = h

  by_exists : (o : Operation) (r : Reply) (p : Progress) (d : ℕ) → is_some (slice_get p.db d) ≡ true →
      is_some (slice_get (progress_by decls mine (o, r) p).db d) ≡ true
  by_exists (opens n t) r p d h = h
  by_exists (next c i) r p d h = progress_exists (is_change r) None p d h
  by_exists (insert t) r p d h = progress_exists (is_change r) (Some (puts t)) p d h
  by_exists (delete t) r p d h = progress_exists (is_change r) (Some (takes t)) p d h
  by_exists (assertz t) r p d h = progress_exists (is_change r) (Some (puts_last t)) p d h
  by_exists (asserta t) r p d h = progress_exists (is_change r) (Some (puts_first t)) p d h
  by_exists (delete_at c i) r p d h = progress_exists (is_change r) (alter_of p.cursors (delete_at c i)) p d h

  -- an operation
  abbrev Stepped : Noted → Operation → Reply → Progress → Type 0
  Stepped x o r p =
      is_there decls x (items (progress_by decls mine (o, r) p).db (list_of decls x))
      ≡ unwrap_or (noted_by decls x p (o, r)) (is_there decls x (items p.db (list_of decls x)))

  by_change : (x : Noted) (b : Bool) (c : Option (Alter ItemName)) (p : Progress) → IsOfKind decls x → ((y : Alter ItemName) → c ≡ Some y → MayBe decls y) →
      is_some (slice_get p.db (list_of decls x)) ≡ true
      → is_there decls x (items (progress_by_change decls mine b c p).db (list_of decls x))
      ≡ unwrap_or (cond b (option_and_then (flag_of decls x p.changes) c) None) (is_there decls x (items p.db (list_of decls x)))
  by_change x true None p k f h = refl
  by_change x true (Some c) p k f h = flagged decls x p.changes c p.db k (f c refl) h
  by_change x false c p k f h = refl

  nothing_noted : (b y : Bool) → y ≡ unwrap_or (cond b None None) y
  nothing_noted true y = refl
  nothing_noted false y = refl

  one_may : (c y : Alter ItemName) → MayBe decls c → Some c ≡ Some y → MayBe decls y
  one_may c y m e = let q : c ≡ y = cc e in subst (MayBe decls) q m

  drop_may : (o : Option Item) (n : ℕ) (y : Alter ItemName) → IsClauseList decls n →
      option_map (λ j. drops (record { list = n; id = j.id })) o ≡ Some y
      → MayBe decls y
  drop_may None n y k e = absurd (cc e)
  drop_may (Some j) n y k e = let q : drops (record { list = n; id = j.id }) ≡ y = cc e in subst (MayBe decls) q k

  stepped : (x : Noted) (o : Operation) (r : Reply) (l : Log) (p : Progress) → IsOfKind decls x → is_valid_after decls l o ≡ true → IsOpened l p →
      is_some (slice_get p.db (list_of decls x)) ≡ true
      → Stepped x o r p
  stepped x (opens d t) r l p k v w h = nothing_noted (is_change r) (is_there decls x (items p.db (list_of decls x)))
  stepped x (next c i) r l p k v w h = by_change x (is_change r) None p k (λ y e. absurd (cc e)) h
  stepped x (insert t) r l p k v w h =
      by_change x (is_change r) (Some (puts t)) p k (λ y. one_may (puts t) y (there_is_relation decls t (tuple_there decls l t v))) h
  stepped x (delete t) r l p k v w h =
      by_change x (is_change r) (Some (takes t)) p k (λ y. one_may (takes t) y (there_is_relation decls t (tuple_there decls l t v))) h
  stepped x (assertz t) r l p k v w h =
      by_change x (is_change r) (Some (puts_last t)) p k (λ y. one_may (puts_last t) y (clause_there_kind decls t (clause_there decls l t v))) h
  stepped x (asserta t) r l p k v w h =
      by_change x (is_change r) (Some (puts_first t)) p k (λ y. one_may (puts_first t) y (clause_there_kind decls t (clause_there decls l t v))) h
  stepped x (delete_at c i) r l p k v w h =
      by_change x (is_change r) (alter_of p.cursors (delete_at c i)) p k
      (λ y. drop_may (member p.cursors c i) (list_under p.cursors c) y (clauses_under l p c i v w)) h

  tells : (x : Noted) (l before : Log) (n k : ℕ) (p : Progress) → IsOfKind decls x → is_log_from decls before l ≡ true → IsOpened before p →
      is_some (slice_get p.db (list_of decls x)) ≡ true
      → is_there decls x (items (progress_after decls mine (take k l) p).db (list_of decls x))
      ≡ flag_at (n + k) (is_there decls x (items p.db (list_of decls x))) (notes_from decls x n p l)
  tells x [] before n zero p y g w h = refl
  tells x [] before n (suc k) p y g w h = refl
  tells x (e ∷ l) before n zero p y g w h = sym (flags_skip decls x (e ∷ l) n (n + 0) p (is_there decls x (items p.db (list_of decls x))) (omega arith))
  tells x (e ∷ l) before n (suc k) p y g w h =
      let c = and_parts (is_valid_after decls before e.0 && is_reply_after decls before e.0 e.1) (is_log_from decls (before ++ e ∷ []) l) g in
      let v = (and_parts (is_valid_after decls before e.0) (is_reply_after decls before e.0 e.1) c.0).0 in
      let q = progress_by decls mine e p in
      let rest = notes_from decls x (1 + n) q l in
      let later = tells x l (before ++ e ∷ []) (1 + n) k q y c.1 (by_opened before e.0 e.1 p w) (by_exists e.0 e.1 p (list_of decls x) h) in
      let number : (1 + n) + k ≡ n + suc k = omega arith in
      subst
      (λ z.
      is_there decls x (items (progress_after decls mine (take k l) q).db (list_of decls x))
      ≡ flag_at z (is_there decls x (items q.db (list_of decls x))) rest) number later
      ∙ (ap (λ b. flag_at (n + suc k) b rest) (stepped x e.0 e.1 before p y v w h)
      ∙ sym (flags_first n (n + suc k) (is_there decls x (items p.db (list_of decls x))) (noted_by decls x p e) rest (lt-ltb n (n + suc k) (omega arith))))

  -- a declared list is there
  list_is_there : (f : Decl → Bool) (ds : List Decl) (db : Db) (d : ℕ) → is_db ds db ≡ true → holds_of f (slice_get ds d) ≡ true →
      is_some (slice_get db d) ≡ true
  list_is_there f [] db d h e = absurd (cc e)
  list_is_there f (q ∷ ds) [] d h e = absurd (cc h)
  list_is_there f (q ∷ ds) (is ∷ db) zero h e = refl
  list_is_there f (q ∷ ds) (is ∷ db) (suc d) h e = list_is_there f ds db d (and_parts (is_list_of q is) (is_db ds db) h).1 e

  exists_for : (x : Noted) (db : Db) → IsOfKind decls x → is_db decls db ≡ true → is_some (slice_get db (list_of decls x)) ≡ true
  exists_for (tuple t) db k h = list_is_there is_relation decls db (list_for decls t) h k
  exists_for (clause d a) db k h = list_is_there is_clause_list decls db d h k

  noted_told : (x : Noted) (db : Db) (l : Log) (n : ℕ) → IsOfKind decls x → is_db decls db ≡ true → is_log decls l ≡ true →
      is_there decls x (items (db_after_log decls db (take n l) mine) (list_of decls x))
      ≡ flag_at n (is_there decls x (items db (list_of decls x))) (notes_of decls db x l)
  noted_told x db l n k h v =
      let p : Progress = record { db = db; cursors = []; changes = 0 } in
      let number : 0 + n ≡ n = omega arith in
      subst
      (λ z.
      is_there decls x (items (progress_after decls mine (take n l) p).db (list_of decls x))
      ≡ flag_at z (is_there decls x (items db (list_of decls x))) (notes_of decls db x l))
      number (tells x l [] 0 n p k v refl (exists_for x db k h))

  pub tuples_told : (db : Db) (l : Log) (n : ℕ) (t : Tree) → is_db decls db ≡ true → is_log decls l ≡ true → IsRelation decls (list_for decls t) →
      has_term t (items (db_after_log decls db (take n l) mine) (list_for decls t))
      ≡ flag_at n (has_term t (items db (list_for decls t))) (notes_of decls db (tuple t) l)
  tuples_told db l n t h v k = noted_told (tuple t) db l n k h v

  pub clauses_told : (db : Db) (l : Log) (n d : ℕ) (a : Id) → is_db decls db ≡ true → is_log decls l ≡ true → IsClauseList decls d →
      is_some (with_id a (items (db_after_log decls db (take n l) mine) d)) ≡ flag_at n (is_some (with_id a (items db d))) (notes_of decls db (clause d a) l)
  clauses_told db l n d a h v k = noted_told (clause d a) db l n k h v

  -- one more operation notes what it does
  notes_more : (x : Noted) (l : Log) (e : Operation × Reply) (n : ℕ) (p : Progress) →
      notes_from decls x n p (l ++ e ∷ [])
      ≡ notes_from decls x n p l
      ++ cons_option (option_map (λ flag. (n + length l, flag)) (noted_by decls x (progress_after decls mine l p) e)) []
  notes_more x [] e n p =
      let m : n ≡ n + 0 = omega arith in ap (λ m. cons_option (option_map (λ flag. (m, flag)) (noted_by decls x p e)) []) m
  notes_more x (a ∷ l) e n p =
      let q = progress_by decls mine a p in
      let m : (1 + n) + length l ≡ n + suc (length l) = omega arith in
      let last : ℕ → List (ℕ × Bool) = λ m.
      cons_option (option_map (λ flag. (m, flag)) (noted_by decls x (progress_after decls mine l q) e)) [] in
      consed (option_map (λ flag. (n, flag)) (noted_by decls x p a)) (notes_from decls x (1 + n) q (l ++ e ∷ [])) (notes_from decls x (1 + n) q l)
      (last (n + suc (length l)))
      (notes_more x l e (1 + n) q ∙ ap (λ m. notes_from decls x (1 + n) q l ++ last m) m)

  pub notes_grow : (db : Db) (x : Noted) (l : Log) (e : Operation × Reply) →
      notes_of decls db x (l ++ e ∷ [])
      ≡ notes_of decls db x l
      ++ cons_option
      (option_map (λ flag. (length l, flag)) (noted_by decls x (progress_after decls mine l (record { db = db; cursors = []; changes = 0 })) e)) []
  notes_grow db x l e =
      let p : Progress = record { db = db; cursors = []; changes = 0 } in
      let m : 0 + length l ≡ length l = omega arith in
      notes_more x l e 0 p
      ∙ ap (λ m. notes_of decls db x l ++ cons_option (option_map (λ flag. (m, flag)) (noted_by decls x (progress_after decls mine l p) e)) []) m

  -- what is noted of a tuple is told by the log alone
  noted_same : (t : Tree) (o : Operation) (r : Reply) (p q : Progress) → noted_by decls (tuple t) p (o, r) ≡ noted_by decls (tuple t) q (o, r)
  noted_same t (opens d u) r p q = refl
  noted_same t (next c i) r p q = refl
  noted_same t (insert u) r p q = refl
  noted_same t (delete u) r p q = refl
  noted_same t (assertz u) r p q = refl
  noted_same t (asserta u) r p q = refl
  noted_same t (delete_at c i) r p q =
      ap (λ z. cond (is_change r) z None)
      (no_tuple p.changes (list_under p.cursors c) (member p.cursors c i)
      ∙ sym (no_tuple q.changes (list_under q.cursors c) (member q.cursors c i)))
    where
      no_tuple : (m n : ℕ) (o : Option Item) → option_and_then (flag_of decls (tuple t) m) (option_map (λ j. drops (record { list = n; id = j.id })) o) ≡ None
      no_tuple m n None = refl
      no_tuple m n (Some j) = refl

  notes_same : (t : Tree) (l : Log) (n : ℕ) (p q : Progress) → notes_from decls (tuple t) n p l ≡ notes_from decls (tuple t) n q l
  notes_same t [] n p q = refl
  notes_same t (e ∷ l) n p q =
      ap (λ z. cons_option (option_map (λ flag. (n, flag)) z) (notes_from decls (tuple t) (1 + n) (progress_by decls mine e p) l))
      (noted_same t e.0 e.1 p q)
      ∙ ap (cons_option (option_map (λ flag. (n, flag)) (noted_by decls (tuple t) q e)))
      (notes_same t l (1 + n) (progress_by decls mine e p) (progress_by decls mine e q))

  pub tuple_notes_same : (db eb : Db) (t : Tree) (l : Log) → notes_of decls db (tuple t) l ≡ notes_of decls eb (tuple t) l
  tuple_notes_same db eb t l = notes_same t l 0 _ _
