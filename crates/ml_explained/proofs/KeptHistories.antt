-- What keeps a history explained.
use Rattle.std.specs.Prelude.{◌≡◌, ◌⊎◌, ℕ, ◌+◌, Bool, true, false, List, [], ◌∷◌, ◌++◌, length, Contains, cond}
use Rattle.std.proofs.Common.{inl, inr, refl, sym, ap, ◌∙◌, subst, arith}
use Rattle.ml_term.specs.declared.declaration.Decl.{Decl}
use Rattle.ml_search.specs.Db.{at, Db, is_db}
use Rattle.ml_search.specs.Operations.{Operation, Reply, Log, is_valid_after, is_reply_after, is_log}
use Rattle.ml_search.specs.Replay.{first_store, reply, db_after_log, Replays}
use Rattle.ml_asking.proofs.LogsGrow.{log_grows}
use Rattle.ml_asking.proofs.SearchesAgree.{after, first_reply, replays_more}
use Rattle.ml_isolation.specs.Logs.{IsApartFrom}
use Rattle.ml_isolation.specs.Places.{AreBelow}
use Rattle.ml_isolation.proofs.Members.{contains_more}
use Rattle.ml_isolation.proofs.GrownLogs.{kind_after}
use Rattle.ml_isolation.proofs.ApartLogs.{AreKept, apart_stays}
use Rattle.ml_explained.specs.Explained.{Ended, commits, found_no_memory, lists_after_one, lists_after, IsExplained}
use Rattle.ml_explained.proofs.Entered.{pairs_more}
use Rattle.ml_explained.proofs.ExplainedLists.{explained_kept, explained_committed, after_next, replayed_more}

module _ (decls : List Decl) (start : Db) where
  -- nothing was entered yet
  pub new_explained : (live : List (ℕ × Log)) → is_db decls start ≡ true → AreBelow 1 start → ((k : ℕ) (l : Log) → Contains live (k, l) → l ≡ []) →
      IsExplained decls start [] live
  new_explained live h b f = record {
    begins = h;
    loaded = b;
    entries = tt;
    present = λ k l c. subst (Replays decls start) (sym (f k l c)) refl;
    lawful = λ l w. elim w [
      | inl x ↦ absurd (omega (arith, x.1.0.1))
      | inr x ↦ subst (λ z. is_log decls z ≡ true) (sym (f x.0 l x.1)) refl
    ];
    once = λ i j d h l. absurd (omega (arith, l));
  }

module _ (decls : List Decl) (start : Db) (ended : List Ended) (live more : List (ℕ × Log)) (x : IsExplained decls start ended live) where
  abbrev now : Db
  now = lists_after decls 1 start ended

  -- logs of live sessions that were explained, or are now
  live_more : ((k : ℕ) (l : Log) → Contains more (k, l) → Replays decls now l) → ((k : ℕ) (l : Log) → Contains more (k, l) → is_log decls l ≡ true) →
      IsExplained decls start ended more
  live_more r v = record {
    begins = x.begins;
    loaded = x.loaded;
    entries = x.entries;
    present = r;
    lawful = λ l w. elim w [ inl e ↦ x.lawful l (inl e) | inr k ↦ v k.0 l k.1 ];
    once = x.once;
  }

  live_lawful : (k : ℕ) (l : Log) → Contains live (k, l) → is_log decls l ≡ true
  live_lawful k l c = x.lawful l (inr (k, c))

  pub begun_explained : ((k : ℕ) (l : Log) → Contains more (k, l) → Contains live (k, l) ⊎ (l ≡ [])) → IsExplained decls start ended more
  begun_explained f =
      live_more (λ k l c. elim (f k l c) [ inl h ↦ x.present k l h | inr e ↦ subst (Replays decls now) (sym e) refl ])
      (λ k l c. elim (f k l c) [ inl h ↦ live_lawful k l h | inr e ↦ subst (λ z. is_log decls z ≡ true) (sym e) refl ])

  pub stepped_explained : (k : ℕ) (l : Log) (o : Operation) (r : Reply) → Contains live (k, l) → is_valid_after decls l o ≡ true →
      Replays decls now (l ++ (o, r) ∷ [])
      → ((j : ℕ) (m : Log) → Contains more (j, m) → Contains live (j, m) ⊎ (m ≡ l ++ (o, r) ∷ [])) → IsExplained decls start ended more
  stepped_explained k l o r c v q f =
      let w = live_lawful k l c in
      let same : (reply decls o (after decls now l)).0 ≡ r = ap first_reply (replays_more decls l ((o, r) ∷ []) (first_store decls now) q) in
      let kind : is_reply_after decls l o r ≡ true =
      subst (λ z. is_reply_after decls l o z ≡ true) same
      (kind_after decls now l o (explained_kept decls start ended live x).lists (explained_committed decls start ended live x) w) in
      let grown : is_log decls (l ++ (o, r) ∷ []) ≡ true = log_grows decls l o r w v kind in
      live_more (λ j m h. elim (f j m h) [ inl i ↦ x.present j m i | inr e ↦ subst (Replays decls now) (sym e) q ])
      (λ j m h. elim (f j m h) [ inl i ↦ live_lawful j m i | inr e ↦ subst (λ z. is_log decls z ≡ true) (sym e) grown ])

  -- one more entry, after which each live session's log is still replayed
  entered : (e : Ended) → is_log decls e.log ≡ true → (found_no_memory e.ending ≡ false → Contains live (e.number, e.log)) →
      ((a : Ended) → Contains ended a → a.number ≡ e.number → ⊥)
      → ((k : ℕ) (l : Log) → Contains more (k, l) → Contains live (k, l))
      → ((k : ℕ) (l : Log) → Contains more (k, l) → Replays decls (lists_after decls 1 start (ended ++ e ∷ [])) l)
      → IsExplained decls start (ended ++ e ∷ []) more
  entered e v c fresh from r = record {
    begins = x.begins;
    loaded = x.loaded;
    entries = replayed_more decls ended e 1 start x.entries (λ m. x.present e.number e.log (c m));
    present = r;
    lawful = λ l w. elim w [
      | inl a ↦ elim (contains_more ended e a.0 a.1.0) [
        | inl h ↦ x.lawful l (inl (a.0, (h, a.1.1)))
        | inr q ↦ subst (λ z. is_log decls z ≡ true) (ap (λ (z : Ended). z.log) q ∙ a.1.1) v
      ]
      | inr k ↦ live_lawful k.0 l (from k.0 l k.1)
    ];
    once = pairs_more (λ (a b : Ended). a.number ≡ b.number → ⊥) ended e x.once fresh;
  }

  one_stays : (k : ℕ) (e : Ended) (b : Bool) → commits e.ending ≡ b → lists_after_one decls k now e ≡ cond b (db_after_log decls now e.log (at k)) now
  one_stays k e b h = ap (λ b. cond b (db_after_log decls now e.log (at k)) now) h

  pub uncommitted_explained : (e : Ended) → commits e.ending ≡ false → is_log decls e.log ≡ true →
      (found_no_memory e.ending ≡ false → Contains live (e.number, e.log))
      → ((a : Ended) → Contains ended a → a.number ≡ e.number → ⊥) → ((k : ℕ) (l : Log) → Contains more (k, l) → Contains live (k, l))
      → IsExplained decls start (ended ++ e ∷ []) more
  uncommitted_explained e h v c fresh from =
      let same : lists_after decls 1 start (ended ++ e ∷ []) ≡ now = after_next decls start ended e ∙ one_stays (1 + length ended) e false h in
      entered e v c fresh from (λ k l i. subst (λ z. Replays decls z l) (sym same) (x.present k l (from k l i)))

  after_commit : (e : Ended) → commits e.ending ≡ true →
      lists_after decls 1 start (ended ++ e ∷ []) ≡ db_after_log decls now e.log (at (1 + length ended))
  after_commit e h = after_next decls start ended e ∙ one_stays (1 + length ended) e true h

  -- a live session's log is replayed by the lists after a commit, with the same cursors and notes
  pub seen_the_same : (e : Ended) → commits e.ending ≡ true → Contains live (e.number, e.log) → (k : ℕ) (l : Log) → Contains live (k, l) →
      IsApartFrom decls l e.log
      → AreKept decls now (lists_after decls 1 start (ended ++ e ∷ [])) l
  seen_the_same e h c k l i a =
      let w = explained_kept decls start ended live x in
      subst (λ z. AreKept decls now z l) (sym (after_commit e h))
      (apart_stays decls now l e.log (1 + length ended) w.lists w.below (live_lawful k l i) (live_lawful e.number e.log c) (x.present k l i)
      (x.present e.number e.log c) a)

  pub committed_explained : (e : Ended) → commits e.ending ≡ true → Contains live (e.number, e.log) →
      ((a : Ended) → Contains ended a → a.number ≡ e.number → ⊥)
      → ((k : ℕ) (l : Log) → Contains more (k, l) → Contains live (k, l))
      → ((k : ℕ) (l : Log) → Contains more (k, l) → IsApartFrom decls l e.log) → IsExplained decls start (ended ++ e ∷ []) more
  committed_explained e h c fresh from apart =
      entered e (live_lawful e.number e.log c) (λ m. c) fresh from (λ k l i. (seen_the_same e h c k l (from k l i) (apart k l i)).0)
