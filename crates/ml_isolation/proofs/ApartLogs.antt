-- A log's replies stay over the lists that a log apart from it has changed.
use Rattle.std.specs.Prelude.{◌≡◌, ℕ, ◌==◌, Bool, true, false, ◌&&◌, ◌||◌, List, [], ◌∷◌, map, slice_get, Option, Some, None, Contains}
use Rattle.std.specs.List.{filter, filter_map, list_any, cons_option}
use Rattle.std.proofs.Common.{refl, sym, ap, ◌∙◌, subst}
use Rattle.std.proofs.lemmas.Bool.{and_parts, and_from, eqb-true, eq-eqb}
use Rattle.ml_term.specs.Tree.{Tree}
use Rattle.ml_term.specs.declared.declaration.Decl.{Decl}
use Rattle.ml_search.specs.Program.{holds_of, is_relation}
use Rattle.ml_search.specs.Db.{at, Item, Db, is_same, items, is_db, is_committed}
use Rattle.ml_search.specs.History.{item_at, commit_at}
use Rattle.ml_search.specs.Operations.{Log, is_log}
use Rattle.ml_search.specs.Replay.{first_store, db_after_log, Replays}
use Rattle.ml_search.proofs.LogProgress.{changed_by_replay}
use Rattle.ml_asking.proofs.SearchesAgree.{after}
use Rattle.ml_isolation.specs.Places.{AreBelow}
use Rattle.ml_isolation.specs.Notes.{Noted, notes_of}
use Rattle.ml_isolation.specs.Logs.{pattern_on, patterns_on, meets, IsRelation, concerned_by, written, IsApartFrom}
use Rattle.ml_isolation.proofs.Members.{contains_first, contains_later}
use Rattle.ml_isolation.proofs.Ordered.{Each, each_by, each_of}
use Rattle.ml_isolation.proofs.TermOrders.{same_term}
use Rattle.ml_isolation.proofs.SameTerms.{same_terms}
use Rattle.ml_isolation.proofs.ChangedLists.{log_keeps}
use Rattle.ml_isolation.proofs.CommittedPlaces.{IsOlder, db_committed, db_placed, db_stays, below_within, below_placed, committed_within}
use Rattle.ml_isolation.proofs.CommittedLogs.{items_at, filtered_at, commit_is_change}
use Rattle.ml_isolation.proofs.TracedLogs.{first_traced}
use Rattle.ml_isolation.proofs.KeptIds.{first_keeps}
use Rattle.ml_isolation.proofs.UntouchedLists.{is_seen, SameSeen, Comes, log_unseen}
use Rattle.ml_isolation.proofs.AlikeStores.{IsAskedFor, alike_from}

-- tests of some element
none_any : {A : Type 0} (f : A → Bool) (xs : List A) → ((x : A) → Contains xs x → f x ≡ false) → list_any f xs ≡ false
none_any f [] n = refl
none_any f (x ∷ xs) n =
    let e = n x (contains_first x xs) in rw e (none_any f xs (λ y c. n y (contains_later x y xs c)))

or_true : (b c : Bool) → c ≡ true → (b || c) ≡ true
or_true true c e = refl
or_true false c e = e

any_there : {A : Type 0} (f : A → Bool) (xs : List A) → list_any f xs ≡ true → (x : A) × (Contains xs x × (f x ≡ true))
any_there f [] h = absurd (cc h)
any_there {A} f (x ∷ xs) h = by (f x) refl (any_there f xs) h
  where
    by : (b : Bool) → f x ≡ b → (list_any f xs ≡ true → (y : A) × (Contains xs y × (f y ≡ true))) → (b || list_any f xs) ≡ true →
        (y : A) × (Contains (x ∷ xs) y × (f y ≡ true))
    by true e rest h = (x, (contains_first x xs, e))
    by false e rest h = let r = rest h in (r.0, (contains_later x r.0 xs r.1.0, r.1.1))

-- what comes of elements is among all that comes of them, and passes a test of some
some_comes : {A B : Type 0} (h : A → Option B) (f : B → Bool) (xs : List A) → Each (Comes h (λ y. f y ≡ true → list_any f (filter_map h xs) ≡ true)) xs
some_comes h f [] = tt
some_comes {A} {B} h f (x ∷ xs) = by (h x) refl (some_comes h f xs)
  where
    by : (o : Option B) → h x ≡ o → Each (Comes h (λ y. f y ≡ true → list_any f (filter_map h xs) ≡ true)) xs →
        Each (Comes h (λ y. f y ≡ true → list_any f (cons_option o (filter_map h xs)) ≡ true)) (x ∷ xs)
    by None e rest = (λ y q. absurd (cc (e, q)), rest)
    by (Some z) e rest = (
      λ y q g. let r : z ≡ y = cc (e, q) in ap (λ b. b || list_any f (filter_map h xs)) (ap f r ∙ g),
      each_by (Comes h (λ y. f y ≡ true → list_any f (filter_map h xs) ≡ true)) (Comes h (λ y. f y ≡ true → list_any f (z ∷ filter_map h xs) ≡ true)) xs
          (λ x c y q g. or_true (f z) (list_any f (filter_map h xs)) (c y q g)) rest,
    )

module _ (decls : List Decl) (own : Log) where
  -- whether one of one's own patterns meets a term
  abbrev is_read : ℕ → Tree → Bool
  is_read d t = list_any (λ p. meets decls d p t) (patterns_on own d)

  -- whether one wrote a tuple oneself
  abbrev is_own : ℕ → Tree → ℕ × Tree → Bool
  is_own d t x = (x.0 == d) && is_same x.1 t

  abbrev is_written : ℕ → Tree → Bool
  is_written d t = holds_of is_relation (slice_get decls d) && list_any (is_own d t) (written decls own)

  -- what one's own log looks at
  abbrev looks : ℕ → Tree → Bool
  looks d t = is_read d t || is_written d t

  false_parts : (b c : Bool) → b ≡ false → c ≡ false → (b || c) ≡ false
  false_parts b c e f = rw (e, f) refl

  not_true : (b : Bool) → (b ≡ true → ⊥) → b ≡ false
  not_true true n = absurd (n refl)
  not_true false n = refl

  -- nothing that a log apart from it wrote is looked at
  apart_unseen : (other : Log) → IsApartFrom decls own other → (d : ℕ) (t : Tree) → Contains (written decls other) (d, t) → looks d t ≡ false
  apart_unseen other a d t c =
      false_parts (is_read d t) (is_written d t) (none_any (λ p. meets decls d p t) (patterns_on own d) (λ p. a.unread d p t c))
      (not_true (is_written d t)
      (λ h.
      let p = and_parts (holds_of is_relation (slice_get decls d)) (list_any (is_own d t) (written decls own)) h in
      let x = any_there (is_own d t) (written decls own) p.1 in
      let q = and_parts (x.0.0 == d) (is_same x.0.1 t) x.1.1 in
      let n : x.0.0 ≡ d = eqb-true x.0.0 d q.0 in
      let u : x.0.1 ≡ t = same_terms x.0.1 t q.1 in
      let e : x.0 ≡ (d, t) = ap (λ n. (n, x.0.1)) n ∙ ap (λ u. (d, u)) u in
      a.unwritten d t p.0 c (subst (Contains (written decls own)) e x.1.0)))

  or_left : (b c : Bool) → b ≡ true → (b || c) ≡ true
  or_left b c e = rw e refl

  -- all that one asked for is looked at
  each_read : (d : ℕ) → Each (Comes (λ e. pattern_on d e.0) (λ p. (t : Tree) → meets decls d p t ≡ true → is_read d t ≡ true)) own
  each_read d = reads_each own (λ t. some_comes (λ e. pattern_on d e.0) (λ p. meets decls d p t) own)
    where
      reads_each : (l : Log) → ((t : Tree) → Each (Comes (λ e. pattern_on d e.0) (λ p. meets decls d p t ≡ true → is_read d t ≡ true)) l) →
          Each (Comes (λ e. pattern_on d e.0) (λ p. (t : Tree) → meets decls d p t ≡ true → is_read d t ≡ true)) l
      reads_each [] f = tt
      reads_each (e ∷ l) f = (λ p q t. (f t).0 p q, reads_each l (λ t. (f t).1))

  own_itself : (x : ℕ × Tree) → is_own x.0 x.1 x ≡ true
  own_itself x = and_from (x.0 == x.0) (is_same x.1 x.1) (eq-eqb x.0 x.0 refl) (same_term x.1)

  written_looked : (x : ℕ × Tree) → IsRelation decls x.0 → list_any (is_own x.0 x.1) (written decls own) ≡ true → looks x.0 x.1 ≡ true
  written_looked x r h = or_true (is_read x.0 x.1) (is_written x.0 x.1) (and_from (holds_of is_relation (slice_get decls x.0)) _ r h)

  all_asked : (l : Log) → ((d : ℕ) → Each (Comes (λ e. pattern_on d e.0) (λ p. (t : Tree) → meets decls d p t ≡ true → is_read d t ≡ true)) l) →
      ((d : ℕ) (t : Tree) → Each (Comes (concerned_by decls own) (λ x. is_own d t x ≡ true → list_any (is_own d t) (written decls own) ≡ true)) l)
      → Each (IsAskedFor decls looks own) l
  all_asked [] f g = tt
  all_asked (e ∷ l) f g = (
    record {
      read = λ d p t q m. or_left (is_read d t) (is_written d t) ((f d).0 p q t m);
      changed = λ x q r. written_looked x r ((g x.0 x.1).0 x q (own_itself x));
    },
    all_asked l (λ d. (f d).1) (λ d t. (g d t).1),
  )

  own_asked : Each (IsAskedFor decls looks own) own
  own_asked = all_asked own each_read (λ d t. some_comes (concerned_by decls own) (is_own d t) own)

-- lists that are committed are the same to whoever looks at terms
committed_seen : (decls : List Decl) (looks : ℕ → Tree → Bool) (k : ℕ) (db eb : Db) → is_committed db ≡ true → SameSeen decls looks eb db →
    SameSeen decls looks db (commit_at k eb)
committed_seen decls looks k db eb p same d =
    let f = is_seen decls looks d in
    let at_terms : (xs : List Item) → filter f (map (item_at k) xs) ≡ map (item_at k) (filter f xs) =
    λ xs. filtered_at k f f xs (each_of (λ i. f (item_at k i) ≡ f i) xs (λ i. refl)) in
    ap (λ z. filter f (items z d)) (sym (db_stays k db p))
    ∙ (ap (filter f) (items_at k db d)
    ∙ (at_terms (items db d)
    ∙ (ap (map (item_at k)) (sym (same d)) ∙ (sym (at_terms (items eb d)) ∙ ap (filter f) (sym (items_at k eb d))))))

module _ (decls : List Decl) where
  -- other lists give the same replies, with the same cursors and notes
  abbrev pub AreKept : Db → Db → Log → Type 0
  AreKept db eb own =
      Replays decls eb own × ((after decls db own).cursors ≡ (after decls eb own).cursors)
      × ((x : Noted) → notes_of decls db x own ≡ notes_of decls eb x own)

  pub apart_stays : (db : Db) (own other : Log) (k : ℕ) → is_db decls db ≡ true → AreBelow k db → is_log decls own ≡ true → is_log decls other ≡ true →
      Replays decls db own → Replays decls db other → IsApartFrom decls own other
      → (let eb = db_after_log decls db other (at k) in AreKept db eb own)
  apart_stays db own other k h b v w r q a =
      let p : is_committed db ≡ true = below_placed k db b in
      let left = (after decls db other).lists.db in
      let same : SameSeen decls (looks decls own) left db = log_unseen decls (looks decls own) db other h p w q (apart_unseen decls own other a) in
      let m = log_keeps decls (IsOlder k) db other (record { lists = h; within = below_within k db b }) w q in
      let change : commit_at k left ≡ db_after_log decls db other (at k) =
      ap (commit_at k) (sym (changed_by_replay decls db other q)) ∙ commit_is_change decls k db other b in
      let eb = commit_at k left in
      let d : is_db decls eb ≡ true =
      subst (λ z. is_db decls z ≡ true) (ap (commit_at k) (changed_by_replay decls db other q)) (db_committed decls k m.0 _ m.1.within m.1.lists) in
      let e : is_committed eb ≡ true = db_placed k left in
      let s = first_store decls db in
      let u = first_store decls eb in
      let both =
      alike_from decls (looks decls own) own [] own s u refl r v
      (record {
        kept = record { lists = h; within = committed_within db p };
        others_kept = record { lists = d; within = committed_within eb e };
        keeps = first_keeps decls db h p;
        others_keep = first_keeps decls eb d e;
        traced = first_traced decls db;
        members = tt;
        alike = record { cursors = refl; changes = refl; lists = committed_seen decls (looks decls own) k db left p same };
      }) (own_asked decls own) in
      subst (λ z. AreKept db z own) change (both.0, both.1, λ x. both.2 x 0)
