-- The end of a session, and where it begins.
use Rattle.std.proofs.Common.{◌≡◌, ℕ, true, List, [], ◌∷◌, ◌++◌, Option, Some, None, refl, sym, ap, ◌∙◌, subst, append_assoc, append-nil}
use Rattle.ml_term.specs.Tree.{Tree}
use Rattle.ml_term.specs.Seen.{seen}
use Rattle.ml_term.specs.declared.term.Term.{Term}
use Rattle.ml_search.specs.Changes.{Lists}
use Rattle.ml_search.specs.Db.{Db, is_committed, is_db}
use Rattle.ml_search.specs.Operations.{Log}
use Rattle.ml_search.specs.Program.{Program, Goal, Last, commit, abort, unless, Script}
use Rattle.ml_search.specs.Replay.{Replays}
use Rattle.ml_search.specs.Search.{Outcome}
use Rattle.ml_search.specs.Session.{committed_session, end_unless, error_line, error_of_end, goal_line, goal_search}
use Rattle.ml_search.specs.Session.{Session, session, session_end, uncommitted_session, with_lines}
use Rattle.ml_search.specs.declared.ending.Ending.{Ending}
use Rattle.ml_search.specs.declared.ending.Ending.TheVariants.{Committed, Aborted, Refused, Failed}
use Rattle.ml_asking.specs.Leads.{lists_by_log}
use Rattle.ml_desk.specs.Sealing.{IsSealed, IsSessionOf}
use Rattle.ml_term.specs.declared.declaration.Decl.{Decl}
use Rattle.ml_writer.specs.Output.{Output, with_line, no_output}
use Rattle.ml_solve.specs.Asked.{HasAnswer, HasNone, IsFound}
use Rattle.ml_solve.specs.declared.found.Found.TheVariants.{Yes, No, Raised}
use Rattle.ml_session.specs.Standing.{Point, point, StandsBefore, IsOver}
use Rattle.ml_session.proofs.LogsBegin.{AllReplay}

-- an uncommitted session behind some lines
uncommitted : (decls : List Decl) (db : Db) (log : Log) (old new ls : List (List ℕ)) (ending : Ending) (s : Session) → ¬ (ending ≡ Committed)
    → s ≡ with_lines old (uncommitted_session ls ending db) → new ≡ old ++ ls → IsSessionOf decls db log new ending s
uncommitted decls db log old new ls ending s not is lines = record {
  lines_are = ap (λ (x : Session). x.lines) is ∙ sym lines;
  ending_is = ap (λ (x : Session). x.ending) is;
  lists_are = λ e. absurd (not e);
  changes_are = λ e. absurd (not e);
}

-- a committed session behind some lines
committed : (decls : List Decl) (db : Db) (log : Log) (old new : List (List ℕ)) (lists : Lists) (s : Session)
    → s ≡ with_lines old (committed_session lists) → lists ≡ lists_by_log decls db log → new ≡ old → IsSessionOf decls db log new Committed s
committed decls db log old new lists s is left lines = record {
  lines_are = ap (λ (x : Session). x.lines) is ∙ append-nil old ∙ sym lines;
  ending_is = ap (λ (x : Session). x.ending) is;
  lists_are = λ e. ap (λ (x : Session). x.db) is ∙ ap (λ (x : Lists). x.db) left;
  changes_are = λ e. ap (λ (x : Session). x.changes) is ∙ ap (λ (x : Lists). x.made) left;
}

-- what a session's end comes to by what the search of its goal finds and raises
abbrev ends_by : List (List Tree) → Option Tree → Lists → ℕ → Db → Session
ends_by (ts ∷ found) raised lists j before = uncommitted_session [] Refused before
ends_by [] (Some t) lists j before = uncommitted_session (goal_line j ∷ error_line t ∷ []) (Failed j) before
ends_by [] None lists j before = committed_session lists

ends_are : (o : Outcome) (found : List (List Tree)) (j : ℕ) (before : Db) → o.found ≡ found
    → end_unless o j before ≡ ends_by found (error_of_end o.end) o.lists j before
ends_are o [] j before e = by (error_of_end o.end) refl
  where
    by : (raised : Option Tree) → error_of_end o.end ≡ raised → end_unless o j before ≡ ends_by [] (error_of_end o.end) o.lists j before
    by None h = rw (e, h) refl
    by (Some t) h = rw (e, h) refl
ends_are o (ts ∷ found) j before e = rw e refl

module _ (program : Program) (script : Script) (j : ℕ) (p q : Point) where
  pub ends_committed : q.log ≡ p.log → q.lines ≡ p.lines → script.last ≡ commit
      → StandsBefore program script [] j p → IsOver program script Committed q
  unfolding StandsBefore IsSealed
  ends_committed log lines last stands db a b r =
      let r' = subst (λ (l : Log). Replays program.decls db l) log r in
      committed program.decls db q.log p.lines.lines q.lines.lines (lists_by_log program.decls db p.log) (session program script db)
      (stands db a b r'
      ∙ ap (λ (l : Last). with_lines p.lines.lines (session_end program l j db (lists_by_log program.decls db p.log) p.left)) last)
      (ap (lists_by_log program.decls db) (sym log)) (ap (λ (o : Output). o.lines) lines)

  pub ends_aborted : q.log ≡ p.log → q.lines ≡ p.lines → script.last ≡ abort
      → StandsBefore program script [] j p → IsOver program script Aborted q
  unfolding StandsBefore IsSealed
  ends_aborted log lines last stands db a b r =
      let r' = subst (λ (l : Log). Replays program.decls db l) log r in
      uncommitted program.decls db q.log p.lines.lines q.lines.lines [] Aborted (session program script db) (λ e. cc e)
      (stands db a b r'
      ∙ ap (λ (l : Last). with_lines p.lines.lines (session_end program l j db (lists_by_log program.decls db p.log) p.left)) last)
      (ap (λ (o : Output). o.lines) lines ∙ sym (append-nil p.lines.lines))

  module _ (g : Goal) (replay : AllReplay program.decls q.log p.log) (last : script.last ≡ unless g) where
    -- the session by its last goal's search
    session_is : (db : Db) (found : List (List Tree)) (raised : Option Tree) → is_db program.decls db ≡ true → is_committed db ≡ true →
        Replays program.decls db q.log
        → (goal_search program g (lists_by_log program.decls db p.log) p.left).found ≡ found
        → error_of_end (goal_search program g (lists_by_log program.decls db p.log) p.left).end ≡ raised
        → StandsBefore program script [] j p
        → session program script db
        ≡ with_lines p.lines.lines
        (ends_by found raised (goal_search program g (lists_by_log program.decls db p.log) p.left).lists j db)
    unfolding StandsBefore
    session_is db found raised a b r f e stands =
        let o : Outcome = goal_search program g (lists_by_log program.decls db p.log) p.left in
        stands db a b (replay db r)
        ∙ ap (λ (l : Last). with_lines p.lines.lines (session_end program l j db (lists_by_log program.decls db p.log) p.left)) last
        ∙ ap (with_lines p.lines.lines) (ends_are o found j db f)
        ∙ ap (λ (x : Option Tree). with_lines p.lines.lines (ends_by found x o.lists j db)) e

    pub ends_refused : IsFound program g p.log q.log p.left q.left Yes → q.lines ≡ p.lines
        → StandsBefore program script [] j p → IsOver program script Refused q
    unfolding IsSealed
    ends_refused found lines stands db a b r =
        let has : HasAnswer (goal_search program g (lists_by_log program.decls db p.log) p.left) = found db a b r in
        uncommitted program.decls db q.log p.lines.lines q.lines.lines [] Refused (session program script db) (λ e. cc e)
        (session_is db (has.first ∷ has.others) (error_of_end (goal_search program g
        (lists_by_log program.decls db p.log) p.left).end) a b r has.found_are refl stands)
        (ap (λ (o : Output). o.lines) lines ∙ sym (append-nil p.lines.lines))

    pub ends_unrefused : IsFound program g p.log q.log p.left q.left No → q.lines ≡ p.lines
        → StandsBefore program script [] j p → IsOver program script Committed q
    unfolding IsSealed
    ends_unrefused found lines stands db a b r =
        let o : Outcome = goal_search program g (lists_by_log program.decls db p.log) p.left in
        let none : HasNone o None q.left (lists_by_log program.decls db q.log) = found db a b r in
        committed program.decls db q.log p.lines.lines q.lines.lines o.lists (session program script db)
        (session_is db [] None a b r none.found_none none.raised_is stands) none.lists_are (ap (λ (o : Output). o.lines) lines)

    pub ends_failed : (t : Term) → IsFound program g p.log q.log p.left q.left (Raised t)
        → p.lines.unfinished ≡ [] → q.lines ≡ with_line (error_line (seen t)) (with_line (goal_line j) p.lines)
        → StandsBefore program script [] j p → IsOver program script (Failed j) q
    unfolding IsSealed
    ends_failed t found finished lines stands db a b r =
        let o : Outcome = goal_search program g (lists_by_log program.decls db p.log) p.left in
        let none : HasNone o (Some (seen t)) q.left (lists_by_log program.decls db q.log) = found db a b r in
        uncommitted program.decls db q.log p.lines.lines q.lines.lines (goal_line j ∷ error_line (seen t) ∷ []) (Failed j) (session program script db)
        (λ e. cc e)
        (session_is db [] (Some (seen t)) a b r none.found_none none.raised_is stands)
        (ap (λ (o : Output). o.lines) lines
        ∙ ap (λ (u : List ℕ). (p.lines.lines ++ (u ++ goal_line j) ∷ []) ++ error_line (seen t) ∷ []) finished
        ∙ append_assoc p.lines.lines (goal_line j ∷ []) (error_line (seen t) ∷ []))

-- a session begins with no lines, over lists of which nothing was asked
pub begins : (program : Program) (script : Script) → StandsBefore program script script.goals 1 (point [] no_output script.budget)
unfolding StandsBefore
begins program script db a b r = refl
