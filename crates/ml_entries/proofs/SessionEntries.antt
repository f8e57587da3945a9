-- What the code has of a session is its entry, and the lists between two sessions stay lists.
use Rattle.std.proofs.Common.{◌≡◌, ℕ, suc, true, false, List, ◌++◌, Some, refl, sym, ap, ◌∙◌, subst}
use Rattle.std.specs.List.{flat_map}
use Rattle.ml_desk.specs.Sealing.{IsSealed, IsSessionOf}
use Rattle.ml_isolation.specs.Places.{AreBelow}
use Rattle.ml_search.specs.Db.{Db, is_committed, is_db, mine}
use Rattle.ml_search.specs.History.{commit_at, session_result}
use Rattle.ml_search.specs.Operations.{Log, is_log}
use Rattle.ml_search.specs.Printed.{block, ending_text, session_line}
use Rattle.ml_search.specs.Program.{Program, Script}
use Rattle.ml_search.specs.Replay.{db_after_log, Replays}
use Rattle.ml_search.specs.Session.{Session, session}
use Rattle.ml_search.specs.declared.ending.Ending.{Ending}
use Rattle.ml_search.specs.declared.ending.Ending.TheVariants.{Committed, Aborted, Refused, Failed}
use Rattle.ml_term.specs.declared.declaration.Decl.{Decl}
use Rattle.ml_entries.specs.Entries.{AreLists, IsSessionEntry}
use Rattle.ml_entries.proofs.Sessions.{session_leaves}

-- what a session means over given lists
pub session_meant : (program : Program) (script : Script) (log : Log) (lines : List (List ℕ)) (ending : Ending) (db : Db) →
    IsSealed program script log lines ending → is_db program.decls db ≡ true → is_committed db ≡ true → Replays program.decls db log →
    IsSessionOf program.decls db log lines ending (session program script db)
unfolding IsSealed
session_meant program script log lines ending db meant h k r = meant db h k r

-- the laws of lists that an entry needs
pub record HasLaws (decls : List Decl) : Type 0 where
  pub committed : (db : Db) (l : Log) (k : ℕ) → is_db decls db ≡ true → is_committed db ≡ true → AreBelow k db → is_log decls l ≡ true → Replays decls db l
      → is_db decls (commit_at k (db_after_log decls db l mine)) ≡ true
  pub all_committed : (k : ℕ) (db : Db) → is_committed (commit_at k db) ≡ true
  pub below : (db : Db) (l : Log) (k : ℕ) → is_db decls db ≡ true → is_committed db ≡ true → AreBelow k db → is_log decls l ≡ true → Replays decls db l
      → AreBelow (suc k) (commit_at k (db_after_log decls db l mine))
  pub uncommitted : (k : ℕ) (db : Db) → is_committed db ≡ true → commit_at k db ≡ db
  pub grows : (k : ℕ) (db : Db) → AreBelow k db → AreBelow (suc k) db

-- lists that nothing changed are lists for the next entry
pub lists_grow : (decls : List Decl) → HasLaws decls → (k : ℕ) (db : Db) → AreLists decls k db → AreLists decls (suc k) db
lists_grow decls laws k db are = record { lists = are.lists; committed = are.committed; below = laws.grows k db are.below }

-- and so are those that are committed
pub lists_committed : (decls : List Decl) → HasLaws decls → (k : ℕ) (db after : Db) (log : Log) → AreLists decls k db → is_log decls log ≡ true →
    Replays decls db log → after ≡ commit_at k (db_after_log decls db log mine) → AreLists decls (suc k) after
lists_committed decls laws k db after log are h r is =
    subst (AreLists decls (suc k)) (sym is) (record {
      lists = laws.committed db log k are.lists are.committed are.below h r;
      committed = laws.all_committed k (db_after_log decls db log mine);
      below = laws.below db log k are.lists are.committed are.below h r;
    })

-- the lists after a session, however it ended
pub lists_after : (decls : List Decl) → HasLaws decls → (k : ℕ) (db after : Db) (log : Log) (ending : Ending) → AreLists decls k db → is_log decls log ≡ true →
    Replays decls db log → (ending ≡ Committed → after ≡ commit_at k (db_after_log decls db log mine)) → ((ending ≡ Committed → ⊥) → after ≡ db) →
    AreLists decls (suc k) after
lists_after decls laws k db after log Committed are h r c o = lists_committed decls laws k db after log are h r (c refl)
lists_after decls laws k db after log Aborted are h r c o = subst (AreLists decls (suc k)) (sym (o (λ e. cc))) (lists_grow decls laws k db are)
lists_after decls laws k db after log Refused are h r c o = subst (AreLists decls (suc k)) (sym (o (λ e. cc))) (lists_grow decls laws k db are)
lists_after decls laws k db after log (Failed j) are h r c o = subst (AreLists decls (suc k)) (sym (o (λ e. cc))) (lists_grow decls laws k db are)

-- they are those that the definition's session leaves
module _ (program : Program) (laws : HasLaws program.decls) (script : Script) (k : ℕ) (db after : Db) (log : Log) (lines : List (List ℕ))
    (are : AreLists program.decls k db) where
  left_as_before : (ending : Ending) → IsSessionOf program.decls db log lines ending (session program script db) → (ending ≡ Committed → ⊥) → after ≡ db →
      after ≡ commit_at k (session program script db).db
  left_as_before ending is other e =
      e ∙ sym (laws.uncommitted k db are.committed) ∙ ap (commit_at k) (sym (session_leaves program script db (λ f. other (sym is.ending_is ∙ f))))

  left : (ending : Ending) → IsSessionOf program.decls db log lines ending (session program script db)
      → (ending ≡ Committed → after ≡ commit_at k (db_after_log program.decls db log mine)) → ((ending ≡ Committed → ⊥) → after ≡ db)
      → after ≡ commit_at k (session program script db).db
  left Committed is c o = c refl ∙ ap (commit_at k) (sym (is.lists_are refl))
  left Aborted is c o = left_as_before Aborted is (λ e. cc) (o (λ e. cc))
  left Refused is c o = left_as_before Refused is (λ e. cc) (o (λ e. cc))
  left (Failed j) is c o = left_as_before (Failed j) is (λ e. cc) (o (λ e. cc))

  -- the block and the lists are those of the session's entry
  pub session_entry : (ending : Ending) (bytes : List ℕ) → IsSessionOf program.decls db log lines ending (session program script db)
      → bytes ≡ session_line k (ending_text ending) ++ flat_map (λ l. l) lines
      → (ending ≡ Committed → after ≡ commit_at k (db_after_log program.decls db log mine)) → ((ending ≡ Committed → ⊥) → after ≡ db)
      → IsSessionEntry program db script k bytes after
  session_entry ending bytes is b c o = record {
    block_is =
        b ∙ ap (λ e. session_line k (ending_text e) ++ flat_map (λ l. l) lines) (sym is.ending_is)
        ∙ ap (λ ls. session_line k (ending_text (session program script db).ending) ++ flat_map (λ l. l) ls) (sym is.lines_are);
    lists_are = left ending is c o;
  }

-- what a log leaves, where it is said of equal declarations, lists and log
pub moved : (k : ℕ) (ds decls : List Decl) (from db : Db) (l log : Log) → ds ≡ decls → from ≡ db → l ≡ log →
    commit_at k (db_after_log ds from l mine) ≡ commit_at k (db_after_log decls db log mine)
moved k ds decls from db l log e f g =
    ap (λ ds. commit_at k (db_after_log ds from l mine)) e ∙ ap (λ (db : Db). commit_at k (db_after_log decls db l mine)) f
    ∙ ap (λ (log : Log). commit_at k (db_after_log decls db log mine)) g

-- the entry of a session that was run
abbrev Makes : Program → Script → ℕ → Db → Db → Log → List ℕ → Ending → List Decl → Type 0
Makes program script k db after log bytes ending decls =
    HasLaws decls → AreLists decls k db → Replays decls db log
    → (ending ≡ Committed → after ≡ commit_at k (db_after_log decls db log mine)) → ((ending ≡ Committed → ⊥) → after ≡ db)
    → IsSessionEntry program db script k bytes after

pub entry_made : (program : Program) (script : Script) (k : ℕ) (db after : Db) (log : Log) (lines : List (List ℕ)) (bytes : List ℕ) (ending : Ending)
    (decls : List Decl) → decls ≡ program.decls → IsSealed program script log lines ending
    → bytes ≡ session_line k (ending_text ending) ++ flat_map (λ l. l) lines → Makes program script k db after log bytes ending decls
entry_made program script k db after log lines bytes ending decls e meant b =
    subst (Makes program script k db after log bytes ending) (sym e) (λ laws are r c o.
    session_entry program laws script k db after log lines are ending bytes
    (session_meant program script log lines ending db meant are.lists are.committed r) b c o)
