-- The lists after the entries of an explained history, and after one more.
use Rattle.std.specs.Prelude.{◌≡◌, ℕ, suc, ◌+◌, Bool, true, false, List, [], ◌∷◌, ◌++◌, length, cond}
use Rattle.std.proofs.Common.{inl, refl, ap, ◌∙◌, subst, arith}
use Rattle.ml_term.specs.declared.declaration.Decl.{Decl}
use Rattle.ml_search.specs.declared.ending.EntryEnding.{EntryEnding}
use Rattle.ml_search.specs.declared.ending.EntryEnding.TheVariants.{Committed, Aborted, Refused, Failed, OutOfMemory}
use Rattle.ml_search.specs.Db.{at, Db, is_db, is_committed}
use Rattle.ml_search.specs.Operations.{Log, is_log}
use Rattle.ml_search.specs.Replay.{db_after_log, Replays}
use Rattle.ml_isolation.specs.Places.{AreBelow}
use Rattle.ml_isolation.proofs.Members.{each_from}
use Rattle.ml_isolation.proofs.Ordered.{Each}
use Rattle.ml_isolation.proofs.ChangedLists.{log_keeps}
use Rattle.ml_isolation.proofs.CommittedPlaces.{IsOlder, db_committed, db_below, db_later, below_within, below_placed}
use Rattle.ml_isolation.proofs.CommittedLogs.{commit_is_change}
use Rattle.ml_explained.specs.Explained.{Ended, commits, found_no_memory, lists_after_one, lists_after, AreReplayed, IsExplained}

pub commits_with_memory : (x : EntryEnding) → commits x ≡ true → found_no_memory x ≡ false
commits_with_memory Committed h = refl
commits_with_memory Aborted h = refl
commits_with_memory Refused h = refl
commits_with_memory (Failed j) h = refl
commits_with_memory OutOfMemory h = absurd (cc h)

module _ (decls : List Decl) where
  -- lists, with no item that has this place or a later one
  pub record AreLists (k : ℕ) (db : Db) : Type 0 where
    pub lists : is_db decls db ≡ true
    pub below : AreBelow k db

  pub one_kept : (k : ℕ) (db : Db) (e : Ended) → AreLists k db → is_log decls e.log ≡ true → (found_no_memory e.ending ≡ false → Replays decls db e.log) →
      AreLists (1 + k) (lists_after_one decls k db e)
  one_kept k db e w v r = by (commits e.ending) refl
    where
      number : suc k ≡ 1 + k
      number = omega arith

      by : (b : Bool) → commits e.ending ≡ b → AreLists (1 + k) (cond b (db_after_log decls db e.log (at k)) db)
      by true h =
          let m =
          log_keeps decls (IsOlder k) db e.log (record { lists = w.lists; within = below_within k db w.below }) v (r (commits_with_memory e.ending h)) in
          let c = commit_is_change decls k db e.log w.below in
          subst (λ n. AreLists n (db_after_log decls db e.log (at k))) number
          (subst (AreLists (suc k)) c
          (record { lists = db_committed decls k m.0 _ m.1.within m.1.lists; below = db_below k m.0 _ m.1.within }))
      by false h = subst (λ n. AreLists n db) number (record { lists = w.lists; below = db_later k db w.below })

  pub all_kept : (es : List Ended) (k : ℕ) (db : Db) → AreLists k db → AreReplayed decls k db es → Each (λ (e : Ended). is_log decls e.log ≡ true) es →
      AreLists (k + length es) (lists_after decls k db es)
  all_kept [] k db w r v = let n : k ≡ k + 0 = omega arith in subst (λ n. AreLists n db) n w
  all_kept (e ∷ es) k db w r v =
      let n : (1 + k) + length es ≡ k + suc (length es) = omega arith in
      subst (λ n. AreLists n (lists_after decls (1 + k) (lists_after_one decls k db e) es)) n
      (all_kept es (1 + k) (lists_after_one decls k db e) (one_kept k db e w v.0 r.0) r.1 v.1)

  pub explained_kept : (start : Db) (ended : List Ended) (live : List (ℕ × Log)) → IsExplained decls start ended live →
      AreLists (1 + length ended) (lists_after decls 1 start ended)
  explained_kept start ended live x =
      all_kept ended 1 start (record { lists = x.begins; below = x.loaded }) x.entries
      (each_from (λ (e : Ended). is_log decls e.log ≡ true) ended (λ e c. x.lawful e.log (inl (e, (c, refl)))))

  pub explained_committed : (start : Db) (ended : List Ended) (live : List (ℕ × Log)) → IsExplained decls start ended live →
      is_committed (lists_after decls 1 start ended) ≡ true
  explained_committed start ended live x =
      below_placed (1 + length ended) (lists_after decls 1 start ended) (explained_kept start ended live x).below

  -- one more entry
  after_more : (es : List Ended) (e : Ended) (k : ℕ) (db : Db) →
      lists_after decls k db (es ++ e ∷ []) ≡ lists_after_one decls (k + length es) (lists_after decls k db es) e
  after_more [] e k db = let n : k ≡ k + 0 = omega arith in ap (λ n. lists_after_one decls n db e) n
  after_more (x ∷ es) e k db =
      let n : (1 + k) + length es ≡ k + suc (length es) = omega arith in
      after_more es e (1 + k) (lists_after_one decls k db x)
      ∙ ap (λ n. lists_after_one decls n (lists_after decls (1 + k) (lists_after_one decls k db x) es) e) n

  pub after_next : (start : Db) (ended : List Ended) (e : Ended) →
      lists_after decls 1 start (ended ++ e ∷ []) ≡ lists_after_one decls (1 + length ended) (lists_after decls 1 start ended) e
  after_next start ended e = after_more ended e 1 start

  pub replayed_more : (es : List Ended) (e : Ended) (k : ℕ) (db : Db) → AreReplayed decls k db es →
      (found_no_memory e.ending ≡ false → Replays decls (lists_after decls k db es) e.log)
      → AreReplayed decls k db (es ++ e ∷ [])
  replayed_more [] e k db r f = (f, tt)
  replayed_more (x ∷ es) e k db r f = (r.0, replayed_more es e (1 + k) (lists_after_one decls k db x) r.1 f)
