-- A log that writes nothing that is looked at leaves what is looked at.
use Rattle.std.specs.Prelude.{◌≡◌, ℕ, nat_lt, Bool, true, false, ◌&&◌, not, List, [], ◌∷◌, ◌++◌, length, drop, slice_get, Option}
use Rattle.std.specs.Prelude.{Some, None, cond, option_and_then, Contains}
use Rattle.std.specs.Option.{option_map}
use Rattle.std.specs.List.{filter, filter_map, cons_option}
use Rattle.std.proofs.Common.{refl, sym, ap, ◌∙◌, subst, append_assoc}
use Rattle.std.proofs.lemmas.Bool.{and_parts}
use Rattle.std.proofs.lemmas.List.Elements.{filter-append, filter_map-append}
use Rattle.ml_term.specs.Tree.{Tree}
use Rattle.ml_term.specs.declared.declaration.Decl.{Decl}
use Rattle.ml_search.specs.Limits.{max_changes}
use Rattle.ml_search.specs.Db.{mine, Id, Item, Db, is_same, is_same_id, items, with_items, head_of, is_db, is_committed}
use Rattle.ml_search.specs.Changes.{Change, Lists, ItemName, Alter, puts, takes, puts_first, puts_last, drops, Effect, change_made, no_change, list_for, keys_of}
use Rattle.ml_search.specs.Changes.{db_after_change, would_change, change_of, alter}
use Rattle.ml_search.specs.Changes as C
use Rattle.ml_search.specs.Operations.{Operation, opens, next, insert, delete, assertz, asserta, delete_at, Reply, Log, opened_lists, item_given}
use Rattle.ml_search.specs.Operations.{is_valid_after, is_reply_after, is_log_from, is_log}
use Rattle.ml_search.specs.Replay.{Store, Replays, list_under, reply_by, reply_to_change, reply, first_store}
use Rattle.ml_asking.proofs.SearchesAgree.{after_from, after, ReplaysFrom, first_reply}
use Rattle.ml_asking.proofs.ChangesByLog.{IsTraced}
use Rattle.ml_asking.proofs.IdsKeepTerms.{StoreKeeps, reply_keeps}
use Rattle.ml_isolation.specs.Logs.{is_full, concerned, concerned_by, written}
use Rattle.ml_isolation.proofs.Members.{contains_first, contains_later, front_there}
use Rattle.ml_isolation.proofs.Ordered.{Each, each_by, each_of}
use Rattle.ml_isolation.proofs.SameTerms.{same_terms}
use Rattle.ml_isolation.proofs.FilteredLists.{filter_left, inserted_unseen, list_with}
use Rattle.ml_isolation.proofs.TracedLogs.{given_front, first_traced, reply_traced, dropped}
use Rattle.ml_isolation.proofs.KeptIds.{first_keeps, one_clause}

denied : (b : Bool) → not b ≡ false → b ≡ true
denied true h = refl
denied false h = absurd (cc h)

-- what holds of all that comes of the elements
abbrev pub Comes : {A B : Type 0} → (A → Option B) → (B → Type 0) → A → Type 0
Comes h P x = (y : _) → h x ≡ Some y → P y

pub each_comes : {A B : Type 0} (h : A → Option B) (P : B → Type 0) (xs : List A) → ((y : B) → Contains (filter_map h xs) y → P y) →
    Each (λ x. (y : B) → h x ≡ Some y → P y) xs
each_comes h P [] f = tt
each_comes {A} {B} h P (x ∷ xs) f = by (h x) refl f (each_comes h P xs)
  where
    by : (o : Option B) → h x ≡ o → ((y : B) → Contains (cons_option o (filter_map h xs)) y → P y) →
        (((y : B) → Contains (filter_map h xs) y → P y) → Each (Comes h P) xs)
        → Each (Comes h P) (x ∷ xs)
    by None e f rest = (λ y q. absurd (cc (e, q)), rest f)
    by (Some z) e f rest = (
      λ y q. let r : z ≡ y = cc (e, q) in subst P r (f z (contains_first z (filter_map h xs))),
      rest (λ y c. f y (contains_later z y (filter_map h xs) c)),
    )

-- what a deletion by cursor concerns
pub dropped_term : (decls : List Decl) (l more : Log) (c i d : ℕ) (t : Tree) → slice_get (opened_lists l) c ≡ Some d → item_given l c i ≡ Some t →
    concerned decls (l ++ more) (delete_at c i) ≡ Some (d, t)
dropped_term decls l more c i d t e g =
    let o : slice_get (opened_lists (l ++ more)) c ≡ Some d =
    ap (λ z. slice_get z c) (filter_map-append _ l more) ∙ front_there (opened_lists l) (opened_lists more) c d e in
    ap (option_and_then (λ d. option_map (λ t. (d, t)) (item_given (l ++ more) c i))) o
    ∙ ap (option_map (λ t. (d, t))) (given_front l more c i t g)

module _ (decls : List Decl) (looks : ℕ → Tree → Bool) where
  -- whether an item of a list is looked at
  abbrev pub is_seen : ℕ → Item → Bool
  is_seen d i = looks d i.term

  -- two lists that are the same to whoever looks at these items
  abbrev pub SameSeen : Db → Db → Type 0
  SameSeen db before = (d : ℕ) → filter (is_seen d) (items db d) ≡ filter (is_seen d) (items before d)

  -- a change of what isn't looked at
  abbrev pub IsUnseen : Alter ItemName → Db → Type 0
  IsUnseen (puts t) db = looks (list_for decls t) t ≡ false
  IsUnseen (takes t) db = looks (list_for decls t) t ≡ false
  IsUnseen (puts_first c) db = looks (list_for decls (head_of c)) c ≡ false
  IsUnseen (puts_last c) db = looks (list_for decls (head_of c)) c ≡ false
  IsUnseen (drops x) db = Each (λ (j : Item). is_same_id j.id x.id ≡ true → looks x.list j.term ≡ false) (items db x.list)

  pub replaced : (db : Db) (n : ℕ) (js : List Item) → filter (is_seen n) js ≡ filter (is_seen n) (items db n) → SameSeen (with_items db n js) db
  replaced db n js e d =
      list_with (λ z. filter (is_seen d) z ≡ filter (is_seen d) (items db d)) db n js d
      (λ q. subst (λ z. filter (is_seen z) js ≡ filter (is_seen z) (items db z)) (sym q) e) refl

  unseen_one : (d : ℕ) (i : Item) → looks d i.term ≡ false → filter (is_seen d) (i ∷ []) ≡ []
  unseen_one d i e = rw e refl

  no_more : (xs : List Item) → xs ++ [] ≡ xs
  no_more [] = refl
  no_more (x ∷ xs) = ap (λ z. x ∷ z) (no_more xs)

  change_unseen : (a : Id) (c : Alter ItemName) (db : Db) → IsUnseen c db → SameSeen (db_after_change decls a c db) db
  change_unseen a (puts t) db u =
      let n = list_for decls t in replaced db n _ (inserted_unseen (is_seen n) (keys_of decls n) (record { id = a; term = t }) (items db n) u)
  change_unseen a (takes t) db u =
      let n = list_for decls t in
      replaced db n _
      (filter_left (is_seen n) (λ i. not (is_same i.term t)) (items db n)
      (each_of (λ i. not (is_same i.term t) ≡ false → looks n i.term ≡ false) (items db n)
      (λ i e. ap (looks n) (same_terms i.term t (denied (is_same i.term t) e)) ∙ u)))
  change_unseen a (puts_first c) db u =
      let n = list_for decls (head_of c) in
      let i : Item = record { id = a; term = c } in
      replaced db n (i ∷ items db n) (ap (λ b. cond b (i ∷ filter (is_seen n) (items db n)) (filter (is_seen n) (items db n))) u)
  change_unseen a (puts_last c) db u =
      let n = list_for decls (head_of c) in
      let i : Item = record { id = a; term = c } in
      replaced db n (items db n ++ i ∷ [])
      (filter-append (is_seen n) (items db n) (i ∷ []) ∙ (ap (λ z. filter (is_seen n) (items db n) ++ z) (unseen_one n i u) ∙ no_more _))
  change_unseen a (drops x) db u =
      replaced db x.list _
      (filter_left (is_seen x.list) (λ i. not (is_same_id i.id x.id)) (items db x.list)
      (each_by (λ (j : Item). is_same_id j.id x.id ≡ true → looks x.list j.term ≡ false)
      (λ (i : Item). not (is_same_id i.id x.id) ≡ false → looks x.list i.term ≡ false) (items db x.list) (λ i h e. h (denied (is_same_id i.id x.id) e)) u))

  -- whether a change is made or not
  tests_unseen : (full_or_not changes_or_not : Bool) (o : Operation) (c : Alter ItemName) (s : Lists) → is_full (reply_by o change_made) ≡ false
      → (let x : Effect × Lists =
      cond full_or_not
      (cond changes_or_not (
        change_made,
        record
            { db = db_after_change decls (record { place = mine; change = length s.made }) c s.db; made = s.made ++ change_of decls c s.db ∷ [] },
      ) (
        no_change,
        s,
      )) (C.change_limit, s)
      in (is_full (reply_by o x.0) ≡ false → IsUnseen c s.db) → SameSeen x.1.db s.db)
  tests_unseen true true o c s f u = change_unseen (record { place = mine; change = length s.made }) c s.db (u f)
  tests_unseen true false o c s f u = λ d. refl
  tests_unseen false b o c s f u = λ d. refl

  alter_unseen : (o : Operation) (c : Alter ItemName) (s : Lists) → is_full (reply_by o change_made) ≡ false →
      (is_full (reply_by o (alter decls c s).0) ≡ false → IsUnseen c s.db)
      → SameSeen (alter decls c s).1.db s.db
  alter_unseen o c s = tests_unseen (nat_lt (length s.made) max_changes) (would_change decls c s.db) o c s

  -- nothing that an operation concerns is looked at
  abbrev pub IsUnread : Log → Operation × Reply → Type 0
  IsUnread whole e = (x : ℕ × Tree) → concerned_by decls whole e ≡ Some x → looks x.0 x.1 ≡ false

  not_full : (whole : Log) (o : Operation) (r : Reply) (x : ℕ × Tree) → concerned decls whole o ≡ Some x → is_full r ≡ false →
      concerned_by decls whole (o, r) ≡ Some x
  not_full whole o r x e f = rw f e

  drop_unseen : (before more : Log) (c i : ℕ) (s : Store) → is_valid_after decls before (delete_at c i) ≡ true → StoreKeeps decls s → IsTraced before s →
      IsUnread (before ++ more) (delete_at c i, (reply decls (delete_at c i) s).0)
      → SameSeen (reply decls (delete_at c i) s).1.lists.db s.lists.db
  drop_unseen before more c i s v k w =
      let x = dropped decls before s c i v w in
      let one = one_clause decls before s c i x k in
      let told : concerned decls (before ++ more) (delete_at c i) ≡ Some (x.cursor.list, x.clause.term) =
      dropped_term decls before more c i x.cursor.list x.clause.term x.told x.given in
      let drop : Alter ItemName = drops (record { list = list_under s.cursors c; id = x.clause.id }) in
      subst
      (λ z.
      let q : Reply × Store = reply_to_change decls (option_map (λ j. drops (record { list = list_under s.cursors c; id = j.id })) z) (delete_at c i) s in
      IsUnread (before ++ more) (delete_at c i, q.0) → SameSeen q.1.lists.db s.lists.db) (sym x.named)
      (λ u. alter_unseen (delete_at c i) drop s.lists refl
      (λ f.
      let unread = u (x.cursor.list, x.clause.term) (not_full (before ++ more) (delete_at c i) _ _ told f) in
      subst (λ n. Each (λ (j : Item). is_same_id j.id x.clause.id ≡ true → looks n j.term ≡ false) (items s.lists.db n)) (sym x.under)
      (each_by (λ (j : Item). is_same_id j.id x.clause.id ≡ true → j.term ≡ x.clause.term)
      (λ (j : Item). is_same_id j.id x.clause.id ≡ true → looks x.cursor.list j.term ≡ false) (items s.lists.db x.cursor.list)
      (λ j h e. ap (looks x.cursor.list) (h e) ∙ unread) one)))

  reply_unseen : (o : Operation) (before more : Log) (s : Store) → is_valid_after decls before o ≡ true → StoreKeeps decls s → IsTraced before s →
      IsUnread (before ++ more) (o, (reply decls o s).0)
      → SameSeen (reply decls o s).1.lists.db s.lists.db
  reply_unseen (opens d p) before more s v k w u = λ n. refl
  reply_unseen (next c i) before more s v k w u = λ n. refl
  reply_unseen (insert t) before more s v k w u =
      alter_unseen (insert t) (puts t) s.lists refl (λ f. u (list_for decls t, t) (not_full (before ++ more) (insert t) _ _ refl f))
  reply_unseen (delete t) before more s v k w u =
      alter_unseen (delete t) (takes t) s.lists refl (λ f. u (list_for decls t, t) (not_full (before ++ more) (delete t) _ _ refl f))
  reply_unseen (assertz t) before more s v k w u =
      alter_unseen (assertz t) (puts_last t) s.lists refl (λ f. u (list_for decls (head_of t), t) (not_full (before ++ more) (assertz t) _ _ refl f))
  reply_unseen (asserta t) before more s v k w u =
      alter_unseen (asserta t) (puts_first t) s.lists refl (λ f. u (list_for decls (head_of t), t) (not_full (before ++ more) (asserta t) _ _ refl f))
  reply_unseen (delete_at c i) before more s v k w u = drop_unseen before more c i s v k w u

  unseen_from : (rest before whole : Log) (s : Store) → before ++ rest ≡ whole → ReplaysFrom decls s rest → is_log_from decls before rest ≡ true →
      StoreKeeps decls s → IsTraced before s → Each (IsUnread whole) rest
      → SameSeen (after_from decls rest s).lists.db s.lists.db
  unseen_from [] before whole s q r h k w u = λ d. refl
  unseen_from (e ∷ rest) before whole s q r h k w u =
      let o = e.0 in
      let z : (reply decls o s).0 ≡ e.1 = ap first_reply r in
      let p = and_parts (is_valid_after decls before o && is_reply_after decls before o e.1) (is_log_from decls (before ++ e ∷ []) rest) h in
      let v = (and_parts (is_valid_after decls before o) (is_reply_after decls before o e.1) p.0).0 in
      let w' : IsTraced (before ++ e ∷ []) (reply decls o s).1 =
      subst (λ z. IsTraced (before ++ (o, z) ∷ []) (reply decls o s).1) z (reply_traced decls o before s w) in
      let now : SameSeen (reply decls o s).1.lists.db s.lists.db =
      reply_unseen o before (e ∷ rest) s v k w (subst (λ y. IsUnread y (o, (reply decls o s).0)) (sym q) (subst (λ y. IsUnread whole (o, y)) (sym z) u.0)) in
      let later =
      unseen_from rest (before ++ e ∷ []) whole (reply decls o s).1 (append_assoc before (e ∷ []) rest ∙ q) (ap (drop 1) r) p.1
      (reply_keeps decls o before s v k) w' u.1 in λ d. later d ∙ now d

  -- what a log leaves of lists that give its replies
  pub log_unseen : (db : Db) (l : Log) → is_db decls db ≡ true → is_committed db ≡ true → is_log decls l ≡ true → Replays decls db l →
      ((d : ℕ) (t : Tree) → Contains (written decls l) (d, t) → looks d t ≡ false)
      → SameSeen (after decls db l).lists.db db
  log_unseen db l h p v r f =
      unseen_from l [] l (first_store decls db) refl r v (first_keeps decls db h p) (first_traced decls db)
      (each_comes (concerned_by decls l) (λ (x : ℕ × Tree). looks x.0 x.1 ≡ false) l (λ x c. f x.0 x.1 c))
