-- What the machine leaves is the search over all lists that give the log's replies.
use Rattle.std.proofs.Common.{◌≡◌, ℕ, true, List, ◌++◌, Option, Some, None, refl, sym, ap, ◌∙◌, subst}
use Rattle.std.specs.Option.{option_or}
use Rattle.ml_term.specs.Tree.{Tree, width}
use Rattle.ml_term.specs.Seen.{seen}
use Rattle.ml_search.specs.Changes.{Lists}
use Rattle.ml_search.specs.Db.{Db, is_committed, is_db}
use Rattle.ml_search.specs.Operations.{is_log, Log}
use Rattle.ml_search.specs.Program.{Program, Goal}
use Rattle.ml_search.specs.Replay.{Replays}
use Rattle.ml_search.specs.Search.{Outcome}
use Rattle.ml_search.specs.Session.{AnswerLines, answer_lines, error_of_end, error_of_goal, goal_search}
use Rattle.ml_search.proofs.LinesInTurn.{no_answer_more}
use Rattle.ml_asking.specs.Asking.{AskingSearch, Conclusion}
use Rattle.ml_asking.specs.Leads.{Begins, lists_by_log, outcome}
use Rattle.ml_asking.proofs.ChangesByLog.{answers_told, law_told}
use Rattle.ml_writer.specs.Output.{Output}
use Rattle.ml_solve.specs.Answered.{EndsAs, IsAnswered, IsWritten, with_answer_lines}
use Rattle.ml_solve.specs.Asked.{HasNone, IsFound}
use Rattle.ml_solve.specs.declared.goal_end.GoalEnd.{GoalEnd}
use Rattle.ml_solve.specs.declared.goal_end.GoalEnd.TheVariants.{Finished, Raised}
use Rattle.ml_solve.specs.declared.found.Found.{Found}
use Rattle.ml_solve.specs.inside.Led.{shown_terms, AreWritten, EndsWritten, StopsAtLimit, LeavesAnswers, found_all, raised_at_end, raised_at_limit}
use Rattle.ml_solve.specs.inside.Led.{EndsEmpty, LeavesFirst, found_one, found_nothing, raised_before}

module _ (program : Program) (g : Goal) (left : ℕ) (l k : Log) (logged : is_log program.decls k ≡ true) where
  -- the search over some lists
  abbrev searched : Db → Outcome
  searched db = goal_search program g (lists_by_log program.decls db l) left

  module _ (old new : Output) (rest : ℕ) where
    -- a search that came to this conclusion
    written_by : (o : Conclusion) (end : GoalEnd) (after : Lists) (s : Outcome) → s ≡ outcome o after → AreWritten g o.found old new
        → EndsAs (error_of_goal (answer_lines g o.found old.answer_bytes) (outcome o after)) (outcome o after) rest after end
        → IsWritten g s (answer_lines g s.found old.answer_bytes) rest after old new end
    written_by o end after s is written ends =
        subst (λ (x : Outcome). IsWritten g x (answer_lines g x.found old.answer_bytes) rest after old new end) (sym is)
        (record { lines_are = written; ends = ends })

    raised_by : (o : Conclusion) (raised : Option Tree) (after : Lists) → EndsWritten program g left l k old new o → error_of_end o.end ≡ raised
        → error_of_goal (answer_lines g o.found old.answer_bytes) (outcome o after) ≡ raised
    raised_by o raised after e is = ap (λ (f : Option Tree). option_or f (error_of_end o.end)) e.none_passed ∙ is

    stopped : (m : AskingSearch) (t : Tree) (s : Outcome) (after : Lists) → StopsAtLimit program g left l k old new t m → Begins m.found s.found
        → (new ≡ with_answer_lines (answer_lines g s.found old.answer_bytes).lines old) × (error_of_goal (answer_lines g s.found old.answer_bytes) s ≡ Some t)
    stopped m t s after h more =
        let same : answer_lines g s.found old.answer_bytes ≡ answer_lines g m.found old.answer_bytes =
        ap (λ (f : List (List Tree)). answer_lines g f old.answer_bytes) more.1 ∙ no_answer_more g m.found more.0 old.answer_bytes t h.passed in (
          h.written ∙ ap (λ (w : AnswerLines). with_answer_lines w.lines old) (sym same),
          ap (λ (w : AnswerLines). option_or w.fault (error_of_end s.end)) same ∙ ap (λ (f : Option Tree). option_or f (error_of_end s.end)) h.passed,
        )

    pub answered : (end : GoalEnd) → LeavesAnswers program g left l k old new rest end → IsAnswered program g l k left rest old new end
    answered (Finished n) (found_all {o} e raised count left_is) db a b r =
        written_by o (Finished n) (lists_by_log program.decls db k) (searched db)
        (law_told program g.term (shown_terms g) (width g.term) left l k o e.led db a b logged r) e.written
        (record { nothing_raised = raised_by o None (lists_by_log program.decls db k) e raised; count_is = count; left_is = left_is; lists_are = refl })
    answered (Raised t) (raised_at_end {o} e raised) db a b r =
        written_by o (Raised t) (lists_by_log program.decls db k) (searched db)
        (law_told program g.term (shown_terms g) (width g.term) left l k o e.led db a b logged r) e.written
        (raised_by o (Some (seen t)) (lists_by_log program.decls db k) e raised)
    answered (Raised t) (raised_at_limit {m} h) db a b r =
        let both = stopped m (seen t) (searched db) (lists_by_log program.decls db k) h
        (answers_told program g.term (shown_terms g) (width g.term) left l k m h.alone h.led db a b logged r) in
        record { lines_are = both.0; ends = both.1 }

  module _ (rest : ℕ) where
    ended : (o : Conclusion) (raised : Option Tree) → EndsEmpty program g left l k rest raised o → (db : Db) → is_db program.decls db ≡ true
        → is_committed db ≡ true → Replays program.decls db k → HasNone (searched db) raised rest (lists_by_log program.decls db k)
    ended o raised e db a b r =
        subst (λ (x : Outcome). HasNone x raised rest (lists_by_log program.decls db k))
        (sym (law_told program g.term (shown_terms g) (width g.term) left l k o e.led db a b logged r))
        (record { found_none = e.found_none; raised_is = e.raised_is; left_is = e.left_is; lists_are = refl })

    pub asked : (f : Found) → LeavesFirst program g left l k rest f → IsFound program g l k left rest f
    asked f (found_one {m} h) db a b r =
        let more = answers_told program g.term (shown_terms g) (width g.term) left l k m h.alone h.led db a b logged r in
        record { first = h.first; others = more.0; found_are = more.1 ∙ ap (λ (x : List (List Tree)). x ++ more.0) h.found_is }
    asked f (found_nothing {o} e) db a b r = ended o None e db a b r
    asked f (raised_before {o} {t} e) db a b r = ended o (Some (seen t)) e db a b r
