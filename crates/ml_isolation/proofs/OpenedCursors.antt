-- A cursor is over the list as it was at its opening, as long as a log goes on.
use Rattle.std.specs.Prelude.{◌≡◌, ℕ, zero, suc, ◌<◌, List, [], ◌∷◌, ◌++◌, length, take, drop, slice_get, Some, option_and_then}
use Rattle.std.proofs.Common.{refl, sym, ap, ◌∙◌, subst, arith}
use Rattle.std.proofs.lemmas.List.{take-append-drop}
use Rattle.ml_term.specs.Tree.{Tree}
use Rattle.ml_term.specs.declared.declaration.Decl.{Decl}
use Rattle.ml_search.specs.Db.{mine, Db}
use Rattle.ml_search.specs.Operations.{Operation, opens, next, insert, delete, assertz, asserta, delete_at, Reply, cursor, Log}
use Rattle.ml_search.specs.Replay.{Cursor, Store, item_reply, cursor_over, alter_of, reply, first_store, db_after_log, Replays}
use Rattle.ml_search.proofs.LogBeginnings.{beginning}
use Rattle.ml_search.proofs.LogProgress.{changed_by_replay}
use Rattle.ml_asking.proofs.SearchesAgree.{after_from, after, ReplaysFrom, first_reply}
use Rattle.ml_isolation.proofs.TracedLogs.{same_cursors}
use Rattle.ml_isolation.proofs.Members.{front_there}

last_there : {A : Type 0} (xs : List A) (y : A) → slice_get (xs ++ y ∷ []) (length xs) ≡ Some y
last_there [] y = refl
last_there (x ∷ xs) y = last_there xs y

module _ (decls : List Decl) where
  -- a cursor stays
  cursor_stays : (o : Operation) (s : Store) (c : ℕ) (k : Cursor) → slice_get s.cursors c ≡ Some k → slice_get (reply decls o s).1.cursors c ≡ Some k
  cursor_stays (opens d p) s c k e = front_there s.cursors (cursor_over decls d p s.lists.db ∷ []) c k e
  cursor_stays (next n i) s c k e = e
  cursor_stays (insert t) s c k e = e
  cursor_stays (delete t) s c k e = e
  cursor_stays (assertz t) s c k e = e
  cursor_stays (asserta t) s c k e = e
  cursor_stays (delete_at n i) s c k e =
      subst (λ z. slice_get z c ≡ Some k) (sym (same_cursors decls (alter_of s.cursors (delete_at n i)) (delete_at n i) s)) e

  cursors_stay : (l : Log) (s : Store) (c : ℕ) (k : Cursor) → slice_get s.cursors c ≡ Some k → slice_get (after_from decls l s).cursors c ≡ Some k
  cursors_stay [] s c k e = e
  cursors_stay (e ∷ l) s c k h = cursors_stay l (reply decls e.0 s).1 c k (cursor_stays e.0 s c k h)

  opened_now : (d : ℕ) (p : Tree) (c : ℕ) (o : Operation) (r : Reply) (l : Log) (s : Store) → o ≡ opens d p → r ≡ cursor c →
      (reply decls o s).0 ≡ r
      → slice_get (after_from decls l (reply decls o s).1).cursors c ≡ Some (cursor_over decls d p s.lists.db)
  opened_now d p c o r l s e g q =
      let f : opens d p ≡ o = sym e in
      let n : length s.cursors ≡ c = cc (g, subst (λ z. (reply decls z s).0 ≡ r) (sym f) q) in
      subst (λ z. slice_get (after_from decls l (reply decls z s).1).cursors c ≡ Some (cursor_over decls d p s.lists.db)) f
      (cursors_stay l (reply decls (opens d p) s).1 c (cursor_over decls d p s.lists.db)
      (subst (λ z. slice_get (s.cursors ++ cursor_over decls d p s.lists.db ∷ []) z ≡ Some (cursor_over decls d p s.lists.db)) n
      (last_there s.cursors (cursor_over decls d p s.lists.db))))

  opened_from : (l : Log) (n m c d : ℕ) (p : Tree) (s : Store) → ReplaysFrom decls s l → slice_get l n ≡ Some (opens d p, cursor c) → n < m →
      slice_get (after_from decls (take m l) s).cursors c ≡ Some (cursor_over decls d p (after_from decls (take n l) s).lists.db)
  opened_from [] n m c d p s r e b = absurd (cc e)
  opened_from (x ∷ l) n zero c d p s r e b = absurd (omega (arith, b))
  opened_from (x ∷ l) zero (suc m) c d p s r e b =
      let q = ◌≡◌ {A = Operation × Reply} x (opens d p, cursor c) in
      let h : q = cc e in opened_now d p c x.0 x.1 (take m l) s (ap (λ z. z.0) h) (ap (λ z. z.1) h) (ap first_reply r)
  opened_from (x ∷ l) (suc n) (suc m) c d p s r e b = opened_from l n m c d p (reply decls x.0 s).1 (ap (drop 1) r) e (omega (arith, b))

  -- the reply at a place of a log
  reply_at : (l : Log) (n : ℕ) (e : Operation × Reply) (s : Store) → ReplaysFrom decls s l → slice_get l n ≡ Some e →
      (reply decls e.0 (after_from decls (take n l) s)).0 ≡ e.1
  reply_at [] n e s r q = absurd (cc q)
  reply_at (x ∷ l) zero e s r q = let h : x ≡ e = cc q in subst (λ (z : Operation × Reply). (reply decls z.0 s).0 ≡ z.1) h (ap first_reply r)
  reply_at (x ∷ l) (suc n) e s r q = reply_at l n e (reply decls x.0 s).1 (ap (drop 1) r) q

  begins : (db : Db) (l : Log) (n : ℕ) → Replays decls db l → Replays decls db (take n l)
  begins db l n r = beginning decls db (take n l) (drop n l) (subst (Replays decls db) (sym (take-append-drop n l)) r)

  pub cursor_is_opened : (db : Db) (l : Log) (n m c d : ℕ) (p : Tree) → Replays decls db l → slice_get l n ≡ Some (opens d p, cursor c) → n < m →
      slice_get (after decls db (take m l)).cursors c ≡ Some (cursor_over decls d p (db_after_log decls db (take n l) mine))
  cursor_is_opened db l n m c d p r e b =
      opened_from l n m c d p (first_store decls db) r e b
      ∙ ap (λ z. Some (cursor_over decls d p z)) (sym (changed_by_replay decls db (take n l) (begins db l n r)))

  pub cursor_gives : (db : Db) (l : Log) (n m c i d : ℕ) (p : Tree) (r : Reply) → Replays decls db l → slice_get l n ≡ Some (opens d p, cursor c) →
      slice_get l m ≡ Some (next c i, r) → n < m
      → r ≡ item_reply (slice_get (cursor_over decls d p (db_after_log decls db (take n l) mine)).members i)
  cursor_gives db l n m c i d p r h e f b =
      sym (reply_at l m (next c i, r) (first_store decls db) h f)
      ∙ ap (λ z. item_reply (option_and_then (λ k. slice_get k.members i) z)) (cursor_is_opened db l n m c d p h e b)
