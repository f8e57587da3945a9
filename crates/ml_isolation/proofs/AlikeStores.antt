-- Stores that are alike to whoever looks at some items give the same replies to who asks for these alone.
use Rattle.std.specs.Prelude.{◌≡◌, ℕ, nat_lt, Bool, true, false, ◌&&◌, List, [], ◌∷◌, ◌++◌, length, map, drop, slice_get, Option, Some, None, cond}
use Rattle.std.specs.Option.{option_map}
use Rattle.std.specs.List.{filter}
use Rattle.std.proofs.Common.{refl, sym, ap, ◌∙◌, subst, append_assoc}
use Rattle.std.proofs.lemmas.Bool.{and_parts, eq-eqb}
use Rattle.ml_term.specs.Tree.{Tree}
use Rattle.ml_term.specs.declared.declaration.Decl.{Decl}
use Rattle.ml_term.specs.declared.declaration.Kind.TheVariants.{Relation}
use Rattle.ml_search.specs.Limits.{max_changes}
use Rattle.ml_search.specs.Program.{holds_of, is_relation}
use Rattle.ml_search.specs.Db.{mine, Item, Db, is_same_id, items}
use Rattle.ml_search.specs.Changes.{Lists, ItemName, Alter, puts, takes, puts_first, puts_last, drops, Effect, change_made, no_change}
use Rattle.ml_search.specs.Changes.{list_for, db_after_change, would_change, change_of, alter}
use Rattle.ml_search.specs.Operations.{Operation, opens, next, insert, delete, assertz, asserta, delete_at, Reply, cursor, Log, is_valid_after, is_reply_after}
use Rattle.ml_search.specs.Operations.{is_log_from}
use Rattle.ml_search.specs.Replay.{Cursor, Store, member, list_under, item_reply, unifies, cursor_over, alter_of, reply_by, reply_to_change, reply, replies}
use Rattle.std.specs.Prelude.{◌+◌, option_and_then}
use Rattle.std.specs.List.{cons_option}
use Rattle.ml_search.specs.LogChanges.{is_change}
use Rattle.ml_search.specs.Replay.{progress_by}
use Rattle.ml_search.proofs.LogProgress.{progress_of}
use Rattle.ml_isolation.specs.Notes.{Noted, flag_of, noted_by, notes_from}
use Rattle.ml_isolation.proofs.StoreProgress.{progress_step}
use Rattle.ml_asking.proofs.SearchesAgree.{after_from, ReplaysFrom, first_reply}
use Rattle.ml_asking.proofs.ChangesByLog.{IsTraced}
use Rattle.ml_asking.proofs.IdsKeepTerms.{StoreKeeps, reply_keeps}
use Rattle.ml_isolation.specs.Logs.{pattern_on, is_full, meets, IsRelation, concerned_by}
use Rattle.ml_isolation.proofs.Ordered.{Each, each_by, each_at, each_and_one}
use Rattle.ml_isolation.proofs.ChangedLists.{IsTupleThere, tuple_there, ListsKept, reply_kept}
use Rattle.ml_isolation.proofs.CommittedPlaces.{IsAny}
use Rattle.ml_isolation.proofs.FilteredLists.{filter_within}
use Rattle.ml_isolation.proofs.TracedLogs.{reply_traced, IsDropped, dropped}
use Rattle.ml_isolation.proofs.KeptIds.{one_clause}
use Rattle.ml_isolation.proofs.UntouchedLists.{is_seen, SameSeen}
use Rattle.ml_isolation.proofs.AlikeChanges.{IsAsked, alter_alike}

pub each_passes : {A : Type 0} (p : A → Bool) (xs : List A) → Each (λ x. p x ≡ true) (filter p xs)
each_passes p [] = tt
each_passes p (x ∷ xs) = by (p x) refl (each_passes p xs)
  where
    by : (b : Bool) → p x ≡ b → Each (λ x. p x ≡ true) (filter p xs) → Each (λ x. p x ≡ true) (cond b (x ∷ filter p xs) (filter p xs))
    by true e h = (e, h)
    by false e h = h

relation_is : (q : Decl) → q.kind ≡ Relation → is_relation q ≡ true
relation_is q e = rw e refl

module _ (decls : List Decl) where
  pub there_is_relation : (t : Tree) → IsTupleThere decls t → IsRelation decls (list_for decls t)
  there_is_relation t a = ap (holds_of is_relation) a.stands ∙ relation_is a.decl a.kind

  -- the same cursors
  abbrev same_dropped : (l : Log) (s u : Store) (c i : ℕ) → s.cursors ≡ u.cursors → IsDropped decls l s c i → IsDropped decls l u c i
  same_dropped l s u c i e x = record {
    cursor = x.cursor;
    clause = x.clause;
    there = ap (λ z. slice_get z c) (sym e) ∙ x.there;
    among = x.among;
    named = ap (λ z. member z c i) (sym e) ∙ x.named;
    under = ap (λ z. list_under z c) (sym e) ∙ x.under;
    told = x.told;
    given = x.given;
    clauses = x.clauses;
  }

  -- a reply that isn't `full`
  room_told : (o : Operation) (c : Alter ItemName) (s : Lists) → is_full (reply_by o change_made) ≡ false → is_full (reply_by o no_change) ≡ false →
      nat_lt (length s.made) max_changes ≡ true
      → is_full (reply_by o (alter decls c s).0) ≡ false
  room_told o c s f g e = rw e (by (would_change decls c s.db))
    where
      by : (b : Bool)
          → (let x : Effect × Lists =
          cond b (
            change_made,
            record
                { db = db_after_change decls (record { place = mine; change = length s.made }) c s.db; made = s.made ++ change_of decls c s.db ∷ [] },
          ) (
            no_change,
            s,
          )
          in is_full (reply_by o x.0) ≡ false)
      by true = f
      by false = g

module _ (decls : List Decl) (looks : ℕ → Tree → Bool) where
  -- stores that are alike
  pub record AreAlike (s u : Store) : Type 0 where
    pub cursors : s.cursors ≡ u.cursors
    pub changes : length s.lists.made ≡ length u.lists.made
    pub lists : SameSeen decls looks s.lists.db u.lists.db

  -- what is asked for is looked at
  pub record IsAskedFor (whole : Log) (e : Operation × Reply) : Type 0 where
    pub read : (d : ℕ) (p t : Tree) → pattern_on d e.0 ≡ Some p → meets decls d p t ≡ true → looks d t ≡ true
    pub changed : (x : ℕ × Tree) → concerned_by decls whole e ≡ Some x → IsRelation decls x.0 → looks x.0 x.1 ≡ true

  -- the members of cursors are looked at
  abbrev MemberSeen : Cursor → Type 0
  MemberSeen k = Each (λ i. is_seen decls looks k.list i ≡ true) k.members

  pub record IsAmong (before : Log) (s u : Store) : Type 0 where
    pub kept : ListsKept decls IsAny s.lists
    pub others_kept : ListsKept decls IsAny u.lists
    pub keeps : StoreKeeps decls s
    pub others_keep : StoreKeeps decls u
    pub traced : IsTraced before s
    pub members : Each MemberSeen s.cursors
    pub alike : AreAlike s u

  abbrev RepliesAlike : Reply × Store → Reply × Store → Type 0
  RepliesAlike x y = (x.0 ≡ y.0) × AreAlike x.1 y.1

  change_alike : (c : Alter ItemName) (o : Operation) (before : Log) (s u : Store) → IsAmong before s u →
      (nat_lt (length s.lists.made) max_changes ≡ true → IsAsked decls looks c s.lists.db × IsAsked decls looks c u.lists.db)
      → RepliesAlike (reply_to_change decls (Some c) o s) (reply_to_change decls (Some c) o u)
  change_alike c o before s u w asked =
      let x = alter_alike decls looks c s.lists u.lists w.kept.lists w.others_kept.lists asked w.alike.changes w.alike.lists in
      (ap (reply_by o) x.0, record { cursors = w.alike.cursors; changes = x.1; lists = x.2 })

  -- a tuple that is put or taken out
  tuple_asked : (whole : Log) (o : Operation) (t : Tree) (r : Reply) → IsTupleThere decls t → IsAskedFor whole (o, r) →
      (is_full r ≡ false → concerned_by decls whole (o, r) ≡ Some (list_for decls t, t)) → is_full r ≡ false
      → looks (list_for decls t) t ≡ true
  tuple_asked whole o t r a w f e = w.changed (list_for decls t, t) (f e) (there_is_relation decls t a)

  concerns_tuple : (whole : Log) (t : Tree) (r : Reply) → is_full r ≡ false → concerned_by decls whole (insert t, r) ≡ Some (list_for decls t, t)
  concerns_tuple whole t r e = rw e refl

  concerns_taken : (whole : Log) (t : Tree) (r : Reply) → is_full r ≡ false → concerned_by decls whole (delete t, r) ≡ Some (list_for decls t, t)
  concerns_taken whole t r e = rw e refl

  insert_alike : (before whole : Log) (t : Tree) (s u : Store) → is_valid_after decls before (insert t) ≡ true → IsAmong before s u →
      IsAskedFor whole (insert t, (reply decls (insert t) s).0)
      → RepliesAlike (reply decls (insert t) s) (reply decls (insert t) u)
  insert_alike before whole t s u v w a =
      let there = tuple_there decls before t v in
      change_alike (puts t) (insert t) before s u w
      (λ e.
      let l =
      tuple_asked whole (insert t) t (reply decls (insert t) s).0 there a (concerns_tuple whole t (reply decls (insert t) s).0)
      (room_told decls (insert t) (puts t) s.lists refl refl e) in
      ((there, l), (there, l)))

  delete_alike : (before whole : Log) (t : Tree) (s u : Store) → is_valid_after decls before (delete t) ≡ true → IsAmong before s u →
      IsAskedFor whole (delete t, (reply decls (delete t) s).0)
      → RepliesAlike (reply decls (delete t) s) (reply decls (delete t) u)
  delete_alike before whole t s u v w a =
      let there = tuple_there decls before t v in
      change_alike (takes t) (delete t) before s u w
      (λ e.
      let l =
      tuple_asked whole (delete t) t (reply decls (delete t) s).0 there a (concerns_taken whole t (reply decls (delete t) s).0)
      (room_told decls (delete t) (takes t) s.lists refl refl e) in
      (l, l))

  drop_named : (before : Log) (s : Store) (c i : ℕ) (x : IsDropped decls before s c i) →
      alter_of s.cursors (delete_at c i) ≡ Some (drops (record { list = x.cursor.list; id = x.clause.id }))
  drop_named before s c i x =
      let drop_from : ℕ → Item → Alter ItemName = λ n j. drops (record { list = n; id = j.id }) in
      let named : alter_of s.cursors (delete_at c i) ≡ Some (drop_from (list_under s.cursors c) x.clause) =
      ap (option_map (drop_from (list_under s.cursors c))) x.named in
      named ∙ ap (λ n. Some (drop_from n x.clause)) x.under

  drop_alike : (before : Log) (c i : ℕ) (s u : Store) → is_valid_after decls before (delete_at c i) ≡ true → IsAmong before s u →
      RepliesAlike (reply decls (delete_at c i) s) (reply decls (delete_at c i) u)
  drop_alike before c i s u v w =
      let o = delete_at c i in
      let x = dropped decls before s c i v w.traced in
      let y = same_dropped decls before s u c i w.alike.cursors x in
      let d = x.cursor.list in
      let seen : looks d x.clause.term ≡ true =
      each_at (λ i. is_seen decls looks d i ≡ true) x.cursor.members i x.clause x.among (each_at MemberSeen s.cursors c x.cursor x.there w.members) in
      let drop : Alter ItemName = drops (record { list = d; id = x.clause.id }) in
      let asked : (z : Store) → Each (λ (j : Item). is_same_id j.id x.clause.id ≡ true → j.term ≡ x.clause.term) (items z.lists.db d) →
      IsAsked decls looks drop z.lists.db =
      λ z one.
      each_by (λ (j : Item). is_same_id j.id x.clause.id ≡ true → j.term ≡ x.clause.term)
      (λ (j : Item). is_same_id j.id x.clause.id ≡ true → looks d j.term ≡ true) (items z.lists.db d) (λ j h e. ap (looks d) (h e) ∙ seen) one in
      let here = change_alike drop o before s u w
      (λ e. (asked s (one_clause decls before s c i x w.keeps), asked u (one_clause decls before u c i y w.others_keep))) in
      let e : alter_of s.cursors o ≡ Some drop = drop_named before s c i x in
      let f : alter_of u.cursors o ≡ Some drop = drop_named before u c i y in
      subst (λ z. RepliesAlike (reply_to_change decls z o s) (reply_to_change decls (alter_of u.cursors o) o u)) (sym e)
      (subst (λ z. RepliesAlike (reply_to_change decls (Some drop) o s) (reply_to_change decls z o u)) (sym f) here)

  one_pattern : (d : ℕ) (p : Tree) → pattern_on d (opens d p) ≡ Some p
  one_pattern d p = rw (eq-eqb d d refl) refl

  same_cursor : (d : ℕ) (p : Tree) (db eb : Db) → SameSeen decls looks db eb → ((t : Tree) → meets decls d p t ≡ true → looks d t ≡ true) →
      cursor_over decls d p db ≡ cursor_over decls d p eb
  same_cursor d p db eb same f =
      let n : (i : Item) → unifies decls d p i ≡ true → is_seen decls looks d i ≡ true = λ i. f i.term in
      ap (λ z. record { list = d; members = z })
      (sym (filter_within (is_seen decls looks d) (unifies decls d p) (items db d) n)
      ∙ (ap (filter (unifies decls d p)) (same d) ∙ filter_within (is_seen decls looks d) (unifies decls d p) (items eb d) n))

  reply_alike : (o : Operation) (before whole : Log) (s u : Store) → is_valid_after decls before o ≡ true → IsAmong before s u →
      IsAskedFor whole (o, (reply decls o s).0)
      → RepliesAlike (reply decls o s) (reply decls o u)
  reply_alike (opens d p) before whole s u v w a =
      let k = same_cursor d p s.lists.db u.lists.db w.alike.lists (λ t. a.read d p t (one_pattern d p)) in (
        ap (λ z. cursor (length z)) w.alike.cursors,
        record {
          cursors = ap (λ z. z ++ cursor_over decls d p s.lists.db ∷ []) w.alike.cursors ∙ ap (λ z. u.cursors ++ z ∷ []) k;
          changes = w.alike.changes;
          lists = w.alike.lists;
        },
      )
  reply_alike (next c i) before whole s u v w a = (ap (λ z. item_reply (member z c i)) w.alike.cursors, w.alike)
  reply_alike (insert t) before whole s u v w a = insert_alike before whole t s u v w a
  reply_alike (delete t) before whole s u v w a = delete_alike before whole t s u v w a
  reply_alike (assertz t) before whole s u v w a = change_alike (puts_last t) (assertz t) before s u w (λ e. (tt, tt))
  reply_alike (asserta t) before whole s u v w a = change_alike (puts_first t) (asserta t) before s u w (λ e. (tt, tt))
  reply_alike (delete_at c i) before whole s u v w a = drop_alike before c i s u v w

  still_members : (o : Option (Alter ItemName)) (p : Operation) (s : Store) → Each MemberSeen s.cursors →
      Each MemberSeen (reply_to_change decls o p s).1.cursors
  still_members None p s m = m
  still_members (Some c) p s m = m

  reply_members : (o : Operation) (whole : Log) (s : Store) (r : Reply) → IsAskedFor whole (o, r) → Each MemberSeen s.cursors →
      Each MemberSeen (reply decls o s).1.cursors
  reply_members (opens d p) whole s r a m =
      each_and_one MemberSeen s.cursors (cursor_over decls d p s.lists.db) m
      (each_by (λ i. unifies decls d p i ≡ true) (λ i. is_seen decls looks d i ≡ true) (filter (unifies decls d p) (items s.lists.db d))
      (λ i. a.read d p i.term (one_pattern d p)) (each_passes (unifies decls d p) (items s.lists.db d)))
  reply_members (next c i) whole s r a m = m
  reply_members (insert t) whole s r a m = m
  reply_members (delete t) whole s r a m = m
  reply_members (assertz t) whole s r a m = m
  reply_members (asserta t) whole s r a m = m
  reply_members (delete_at c i) whole s r a m = still_members (alter_of s.cursors (delete_at c i)) (delete_at c i) s m

  both_replies : (r p : Reply) (rs ps : List Reply) → r ≡ p → rs ≡ ps → r ∷ rs ≡ p ∷ ps
  both_replies r p rs ps e f = cc

  -- what is noted depends on the cursors and on the number of changes alone
  same_noted : (x : Noted) (e : Operation × Reply) (s u : Store) → AreAlike s u →
      noted_by decls x (progress_of s) e ≡ noted_by decls x (progress_of u) e
  same_noted x e s u w =
      ap (λ n. cond (is_change e.1) (option_and_then (flag_of decls x n) (alter_of s.cursors e.0)) None) w.changes
      ∙ ap (λ cs. cond (is_change e.1) (option_and_then (flag_of decls x (length u.lists.made)) (alter_of cs e.0)) None) w.cursors

  goes_on : (e : Operation × Reply) (s : Store) → (reply decls e.0 s).0 ≡ e.1 → progress_by decls mine e (progress_of s) ≡ progress_of (reply decls e.0 s).1
  goes_on e s z = ap (λ y. progress_by decls mine (e.0, y) (progress_of s)) (sym z) ∙ progress_step decls e.0 s

  abbrev SameNotes : Log → Store → Store → Type 0
  SameNotes l s u = (x : Noted) (n : ℕ) → notes_from decls x n (progress_of s) l ≡ notes_from decls x n (progress_of u) l

  first_notes : (e : Operation × Reply) (rest : Log) (s u : Store) → AreAlike s u → (reply decls e.0 s).0 ≡ e.1 → (reply decls e.0 u).0 ≡ e.1 →
      SameNotes rest (reply decls e.0 s).1 (reply decls e.0 u).1
      → SameNotes (e ∷ rest) s u
  first_notes e rest s u w z y later x n =
      ap (λ o. cons_option (option_map (λ flag. (n, flag)) o) (notes_from decls x (1 + n) (progress_by decls mine e (progress_of s)) rest))
      (same_noted x e s u w)
      ∙ ap (cons_option (option_map (λ flag. (n, flag)) (noted_by decls x (progress_of u) e)))
      (ap (λ p. notes_from decls x (1 + n) p rest) (goes_on e s z)
      ∙ (later x (1 + n) ∙ ap (λ p. notes_from decls x (1 + n) p rest) (sym (goes_on e u y))))

  -- the same replies, the same cursors, and the same notes
  pub alike_from : (rest before whole : Log) (s u : Store) → before ++ rest ≡ whole → ReplaysFrom decls s rest → is_log_from decls before rest ≡ true →
      IsAmong before s u → Each (IsAskedFor whole) rest
      → ReplaysFrom decls u rest × ((after_from decls rest s).cursors ≡ (after_from decls rest u).cursors) × SameNotes rest s u
  alike_from [] before whole s u q r h w a = (refl, w.alike.cursors, λ x n. refl)
  alike_from (e ∷ rest) before whole s u q r h w a =
      let o = e.0 in
      let z : (reply decls o s).0 ≡ e.1 = ap first_reply r in
      let p = and_parts (is_valid_after decls before o && is_reply_after decls before o e.1) (is_log_from decls (before ++ e ∷ []) rest) h in
      let v = (and_parts (is_valid_after decls before o) (is_reply_after decls before o e.1) p.0).0 in
      let asked : IsAskedFor whole (o, (reply decls o s).0) = subst (λ y. IsAskedFor whole (o, y)) (sym z) a.0 in
      let now = reply_alike o before whole s u v w asked in
      let next : IsAmong (before ++ e ∷ []) (reply decls o s).1 (reply decls o u).1 = record {
        kept = reply_kept decls IsAny o before s v w.kept;
        others_kept = reply_kept decls IsAny o before u v w.others_kept;
        keeps = reply_keeps decls o before s v w.keeps;
        others_keep = reply_keeps decls o before u v w.others_keep;
        traced = subst (λ z. IsTraced (before ++ (o, z) ∷ []) (reply decls o s).1) z (reply_traced decls o before s w.traced);
        members = reply_members o whole s e.1 a.0 w.members;
        alike = now.1;
      } in
      let later =
      alike_from rest (before ++ e ∷ []) whole (reply decls o s).1 (reply decls o u).1 (append_assoc before (e ∷ []) rest ∙ q) (ap (drop 1) r) p.1 next a.1 in
      let y : (reply decls o u).0 ≡ e.1 = sym now.0 ∙ z in (
        both_replies (reply decls o u).0 e.1 (replies decls (map (λ x. x.0) rest) (reply decls o u).1) (map (λ x. x.1) rest) y later.0,
        later.1,
        first_notes e rest s u w.alike z y later.2,
      )
