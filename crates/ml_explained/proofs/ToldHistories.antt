-- An explained history is the definition's, with its print and its order.
use Rattle.std.specs.Prelude.{◌≡◌, ℕ, ◌+◌, Bool, true, false, List, [], ◌∷◌, ◌++◌, map, Option, Some, None, is_none, Contains, cond}
use Rattle.std.specs.Option.{option_map}
use Rattle.std.specs.List.{flat_map}
use Rattle.std.proofs.Common.{inl, inr, refl, sym, ap, ◌∙◌, subst}
use Rattle.ml_term.specs.declared.declaration.Decl.{Decl}
use Rattle.ml_search.specs.declared.ending.Ending.{Ending}
use Rattle.ml_search.specs.declared.ending.Ending.TheVariants as E
use Rattle.ml_search.specs.declared.ending.EntryEnding.{EntryEnding}
use Rattle.ml_search.specs.declared.ending.EntryEnding.TheVariants.{Committed, Aborted, Refused, Failed, OutOfMemory}
use Rattle.ml_search.specs.Program.{Program, Script}
use Rattle.ml_search.specs.Db.{at, mine, Db, is_db, is_committed}
use Rattle.ml_search.specs.Operations.{Log, is_log}
use Rattle.ml_search.specs.LogChanges.{log_changes}
use Rattle.ml_search.specs.Replay.{db_after_log, Replays}
use Rattle.ml_search.specs.Session.{Session, session}
use Rattle.ml_search.specs.History.{Entry, script_of, commit_at, db_after, session_result, history_from, history}
use Rattle.ml_search.specs.Endings.{entry_ending}
use Rattle.ml_search.specs.LawWords.{order_entry}
use Rattle.ml_search.specs.Printed.{block, print_of, entry_text, session_line}
use Rattle.ml_asking.proofs.SearchesAgree.{append_none}
use Rattle.ml_isolation.proofs.Members.{each_from}
use Rattle.ml_isolation.proofs.Ordered.{Each}
use Rattle.ml_isolation.proofs.CommittedPlaces.{below_placed, db_stays}
use Rattle.ml_isolation.proofs.CommittedLogs.{commit_is_change}
use Rattle.ml_desk.specs.Sealing.{IsSessionOf, IsSealed}
use Rattle.ml_explained.specs.Explained.{Ended, commits, found_no_memory, lists_after_one, lists_after, AreReplayed, IsExplained}
use Rattle.ml_explained.specs.Told.{session_ending, order_of_entry, block_of, print_of_entries, session_told, entries_told, IsEntryOf}
use Rattle.ml_explained.proofs.ExplainedLists.{AreLists, one_kept}
use Rattle.ml_explained.proofs.UncommittedSessions.{Leaves, session_leaves}

-- what an entry's ending says
none_ended : (x : EntryEnding) → session_ending x ≡ None → x ≡ OutOfMemory
none_ended Committed e = absurd (cc e)
none_ended Aborted e = absurd (cc e)
none_ended Refused e = absurd (cc e)
none_ended (Failed j) e = absurd (cc e)
none_ended OutOfMemory e = refl

some_has_memory : (x : EntryEnding) (y : Ending) → session_ending x ≡ Some y → found_no_memory x ≡ false
some_has_memory Committed y e = refl
some_has_memory Aborted y e = refl
some_has_memory Refused y e = refl
some_has_memory (Failed j) y e = refl
some_has_memory OutOfMemory y e = absurd (cc e)

ending_back : (x : EntryEnding) (y : Ending) → session_ending x ≡ Some y → entry_ending y ≡ x
ending_back Committed y e = let q : E.Committed ≡ y = cc e in subst (λ z. entry_ending z ≡ Committed) q refl
ending_back Aborted y e = let q : E.Aborted ≡ y = cc e in subst (λ z. entry_ending z ≡ Aborted) q refl
ending_back Refused y e = let q : E.Refused ≡ y = cc e in subst (λ z. entry_ending z ≡ Refused) q refl
ending_back (Failed j) y e = let q : E.Failed j ≡ y = cc e in subst (λ z. entry_ending z ≡ Failed j) q refl
ending_back OutOfMemory y e = absurd (cc e)

committed_ending : (y : Ending) → commits (entry_ending y) ≡ true → y ≡ E.Committed
committed_ending E.Committed h = refl
committed_ending E.Aborted h = absurd (cc h)
committed_ending E.Refused h = absurd (cc h)
committed_ending (E.Failed j) h = absurd (cc h)

same_session : (s t : Session) → s.lines ≡ t.lines → s.ending ≡ t.ending → s.db ≡ t.db → s.changes ≡ t.changes → s ≡ t
same_session s t e f g h =
    ap (λ z. record { lines = z; ending = s.ending; db = s.db; changes = s.changes }) e
    ∙ (ap (λ z. record { lines = t.lines; ending = z; db = s.db; changes = s.changes }) f
    ∙ (ap (λ z. record { lines = t.lines; ending = t.ending; db = z; changes = s.changes }) g
    ∙ ap (λ z. record { lines = t.lines; ending = t.ending; db = t.db; changes = z }) h))

module _ (program : Program) (scripts : List Script) where
  abbrev decls : List Decl
  decls = program.decls

  -- what the session of an entry gives
  told_by : (db : Db) (e : Ended) (y : Ending) (s : Session) (b : Bool) → commits e.ending ≡ b → session_ending e.ending ≡ Some y →
      IsSessionOf decls db e.log e.lines y s
      → Leaves db s
      → s
      ≡ record { lines = e.lines; ending = y; db = cond b (db_after_log decls db e.log mine) db; changes = cond b (log_changes e.log) [] }
  told_by db e y s true h q w l =
      let c : y ≡ E.Committed = committed_ending y (ap commits (ending_back e.ending y q) ∙ h) in
      same_session s _ w.lines_are w.ending_is (w.lists_are c) (w.changes_are c)
  told_by db e y s false h q w (inr l) = same_session s _ w.lines_are w.ending_is l.0 l.1
  told_by db e y s false h q w (inl l) =
      let c : commits e.ending ≡ true = ap commits (sym (ending_back e.ending y q) ∙ ap entry_ending (sym w.ending_is ∙ l)) in
      let both : true ≡ false = sym c ∙ h in absurd (cc both)

  session_is_told : (db : Db) (e : Ended) (y : Ending) (script : Script) → is_db decls db ≡ true → is_committed db ≡ true → Replays decls db e.log →
      session_ending e.ending ≡ Some y → IsSealed program script e.log e.lines y → session program script db ≡ session_told decls db e y
  unfolding IsSealed
  session_is_told db e y script h p r q w =
      told_by db e y (session program script db) (commits e.ending) refl q (w db h p r) (session_leaves program script db)

  no_session : (o : Option Script) (db : Db) → session_result program o true db ≡ None
  no_session None db = refl
  no_session (Some script) db = refl

  one_told : (k : ℕ) (db : Db) (e : Ended) → AreLists decls k db → (found_no_memory e.ending ≡ false → Replays decls db e.log) →
      IsEntryOf program scripts e → (o : Option Ending) → session_ending e.ending ≡ o
      → session_result program (script_of scripts e.number) (found_no_memory e.ending) db ≡ option_map (session_told decls db e) o
  one_told k db e w r x None q =
      let m : found_no_memory e.ending ≡ true = ap found_no_memory (none_ended e.ending q) in
      ap (λ b. session_result program (script_of scripts e.number) b db) m ∙ no_session (script_of scripts e.number) db
  one_told k db e w r x (Some y) q =
      let m : found_no_memory e.ending ≡ false = some_has_memory e.ending y q in
      let s = x.means y q in
      ap (λ b. session_result program (script_of scripts e.number) b db) m
      ∙ (ap (λ z. session_result program z false db) s.1.0
      ∙ ap Some (session_is_told db e y s.0 w.lists (below_placed k db w.below) (r m) q s.1.1))

  db_told : (k : ℕ) (db : Db) (e : Ended) → AreLists decls k db → (b : Bool) → commits e.ending ≡ b →
      commit_at k (cond b (db_after_log decls db e.log mine) db) ≡ cond b (db_after_log decls db e.log (at k)) db
  db_told k db e w true h = commit_is_change decls k db e.log w.below
  db_told k db e w false h = db_stays k db (below_placed k db w.below)

  after_told : (k : ℕ) (db : Db) (e : Ended) → AreLists decls k db → (o : Option Ending) → session_ending e.ending ≡ o →
      db_after (option_map (session_told decls db e) o) k db ≡ lists_after_one decls k db e
  after_told k db e w None q =
      let h : commits e.ending ≡ false = ap commits (none_ended e.ending q) in
      sym (ap (λ b. cond b (db_after_log decls db e.log (at k)) db) h)
  after_told k db e w (Some y) q = db_told k db e w (commits e.ending) refl

  abbrev Told : ℕ → Db → List Ended → Type 0
  Told k db es = history_from program k db scripts (map order_of_entry es) ≡ (entries_told decls k db es, lists_after decls k db es)

  entry_first : (k : ℕ) (db : Db) (e : Ended) (es : List Ended) (s : Option Session) → s ≡ option_map (session_told decls db e) (session_ending e.ending) →
      db_after s k db ≡ lists_after_one decls k db e → Told (1 + k) (lists_after_one decls k db e) es
      → (let rest : List Entry × Db = history_from program (1 + k) (db_after s k db) scripts (map order_of_entry es) in
      ◌≡◌ {A = List Entry × Db} (record { number = e.number; ran = s } ∷ rest.0, rest.1)
      (entries_told decls k db (e ∷ es), lists_after decls k db (e ∷ es)))
  entry_first k db e es s f g h =
      let q = ap (λ z. history_from program (1 + k) z scripts (map order_of_entry es)) g ∙ h in
      let first : Session → Entry = λ s. record { number = e.number; ran = Some s } in
      ap (λ (z : List Entry × Db). (record { number = e.number; ran = s } ∷ z.0, z.1)) q
      ∙ ap (λ z. (
        record { number = e.number; ran = z } ∷ entries_told decls (1 + k) (lists_after_one decls k db e) es,
        lists_after decls (1 + k) (lists_after_one decls k db e) es,
      )) f

  told_from : (es : List Ended) (k : ℕ) (db : Db) → AreLists decls k db → AreReplayed decls k db es → Each (λ (e : Ended). is_log decls e.log ≡ true) es →
      Each (IsEntryOf program scripts) es
      → Told k db es
  told_from [] k db w r v x = refl
  told_from (e ∷ es) k db w r v x =
      let s = session_result program (script_of scripts e.number) (found_no_memory e.ending) db in
      let f = one_told k db e w r.0 x.0 (session_ending e.ending) refl in
      let g : db_after s k db ≡ lists_after_one decls k db e =
      ap (λ z. db_after z k db) f ∙ after_told k db e w (session_ending e.ending) refl in
      entry_first k db e es s f g (told_from es (1 + k) (lists_after_one decls k db e) (one_kept decls k db e w v.0 r.0) r.1 v.1 x.1)

  -- the print and the order of the entries
  block_told : (db : Db) (e : Ended) → IsEntryOf program scripts e → (o : Option Ending) → session_ending e.ending ≡ o →
      block (record { number = e.number; ran = option_map (session_told decls db e) o }) ≡ block_of e
  block_told db e x None q =
      let c : e.ending ≡ OutOfMemory = none_ended e.ending q in
      append_none (session_line e.number (entry_text OutOfMemory))
      ∙ (ap (λ z. session_line e.number (entry_text z) ++ []) (sym c)
      ∙ ap (λ z. session_line e.number (entry_text e.ending) ++ flat_map (λ l. l) z) (sym (x.silent (ap found_no_memory c))))
  block_told db e x (Some y) q =
      ap (λ z. session_line e.number (entry_text z) ++ flat_map (λ l. l) e.lines) (ending_back e.ending y q)

  blocks_told : (es : List Ended) (k : ℕ) (db : Db) → Each (IsEntryOf program scripts) es → print_of (entries_told decls k db es) ≡ print_of_entries es
  blocks_told [] k db x = refl
  blocks_told (e ∷ es) k db x =
      ap (λ z. z ++ print_of (entries_told decls (1 + k) (lists_after_one decls k db e) es)) (block_told db e x.0 (session_ending e.ending) refl)
      ∙ ap (λ z. block_of e ++ z) (blocks_told es (1 + k) (lists_after_one decls k db e) x.1)

  none_told : (db : Db) (e : Ended) (o : Option Ending) → session_ending e.ending ≡ o →
      is_none (option_map (session_told decls db e) o) ≡ found_no_memory e.ending
  none_told db e None q = sym (ap found_no_memory (none_ended e.ending q))
  none_told db e (Some y) q = sym (some_has_memory e.ending y q)

  order_told : (es : List Ended) (k : ℕ) (db : Db) → map order_entry (entries_told decls k db es) ≡ map order_of_entry es
  order_told [] k db = refl
  order_told (e ∷ es) k db =
      ap (λ b. (e.number, b) ∷ map order_entry (entries_told decls (1 + k) (lists_after_one decls k db e) es))
      (none_told db e (session_ending e.ending) refl)
      ∙ ap (λ z. order_of_entry e ∷ z) (order_told es (1 + k) (lists_after_one decls k db e))

  module _ (start : Db) (ended : List Ended) (live : List (ℕ × Log)) (x : IsExplained program.decls start ended live)
      (means : (e : Ended) → Contains ended e → IsEntryOf program scripts e) where
    pub history_is_told :
        history program start scripts (map order_of_entry ended)
        ≡ (entries_told program.decls 1 start ended, lists_after program.decls 1 start ended)
    history_is_told =
        told_from ended 1 start (record { lists = x.begins; below = x.loaded }) x.entries
        (each_from (λ (e : Ended). is_log decls e.log ≡ true) ended (λ e c. x.lawful e.log (inl (e, (c, refl)))))
        (each_from (IsEntryOf program scripts) ended means)

    pub print_is_told : print_of_entries ended ≡ print_of (history program start scripts (map order_of_entry ended)).0
    print_is_told =
        sym (blocks_told ended 1 start (each_from (IsEntryOf program scripts) ended means))
        ∙ ap (λ (z : List Entry × Db). print_of z.0) (sym history_is_told)

    pub order_is_told : map order_entry (history program start scripts (map order_of_entry ended)).0 ≡ map order_of_entry ended
    order_is_told = ap (λ (z : List Entry × Db). map order_entry z.0) history_is_told ∙ order_told ended 1 start
