-- One goal of a session.
use Rattle.std.proofs.Common.{◌≡◌, ℕ, ◌+◌, List, [], ◌∷◌, ◌++◌, length, Option, Some, None, sym, ap, ◌∙◌, append_assoc}
use Rattle.ml_term.specs.Tree.{Tree}
use Rattle.ml_term.specs.Seen.{seen}
use Rattle.ml_term.specs.declared.term.Term.{Term}
use Rattle.ml_search.specs.Changes.{Lists}
use Rattle.ml_search.specs.Db.{Db}
use Rattle.ml_search.specs.Program.{Program, Goal, Script}
use Rattle.ml_search.specs.Search.{Outcome}
use Rattle.ml_search.specs.Session.{AnswerLines, answer_lines, count_line, error_line, error_of_goal, goal_line, goal_search}
use Rattle.ml_search.specs.Session.{Session, session, session_from, uncommitted_session, with_lines}
use Rattle.ml_search.specs.declared.ending.Ending.TheVariants.{Failed}
use Rattle.ml_asking.specs.Leads.{lists_by_log}
use Rattle.ml_desk.specs.Sealing.{IsSealed}
use Rattle.ml_writer.specs.Output.{Output, with_line}
use Rattle.ml_solve.specs.Answered.{IsAnswered, IsFinished, IsWritten, with_answer_lines}
use Rattle.ml_solve.specs.declared.goal_end.GoalEnd.TheVariants.{Finished, Raised}
use Rattle.ml_session.specs.Standing.{Point, StandsBefore, IsOver}
use Rattle.ml_session.proofs.LinesAdded.{bytes_counted, goal_lines}
use Rattle.ml_session.proofs.LogsBegin.{AllReplay}

-- lines before lines
pub joined : (a b : List (List ℕ)) (s : Session) → with_lines a (with_lines b s) ≡ with_lines (a ++ b) s
joined a b s = ap (λ (ls : List (List ℕ)). record s { lines = ls }) (sym (append_assoc a b s.lines))

module _ (program : Program) (script : Script) where
  -- the session from a goal on, by what the goal raises
  abbrev behind_goal : List Goal → ℕ → Db → Outcome → AnswerLines → Option Tree → Session
  behind_goal others j db o w raised =
      with_lines (goal_line j ∷ w.lines)
      (elim raised [
        | Some t ↦ uncommitted_session (error_line t ∷ []) (Failed j) db
        | None ↦ with_lines (count_line (length o.found) ∷ []) (session_from program others script.last (1 + j) db o.lists o.left w.bytes)
      ])

  -- where a goal raised nothing, the session goes on behind it
  goes_on : (others : List Goal) (j : ℕ) (db : Db) (o : Outcome) (w : AnswerLines) (raised : Option Tree) (after : Lists) (rest n : ℕ) (old new : Output)
      → IsFinished raised o rest after n
      → new.lines ≡ (old.lines ++ (goal_line j ∷ w.lines)) ++ count_line n ∷ []
      → new.answer_bytes ≡ w.bytes
      → with_lines old.lines (behind_goal others j db o w raised)
      ≡ with_lines new.lines (session_from program others script.last (1 + j) db after rest new.answer_bytes)
  goes_on others j db o w raised after rest n old new f lines bytes =
      let s : Session = session_from program others script.last (1 + j) db o.lists o.left w.bytes in
      ap (λ r. with_lines old.lines (behind_goal others j db o w r)) f.nothing_raised
      ∙ joined old.lines (goal_line j ∷ w.lines) (with_lines (count_line (length o.found) ∷ []) s)
      ∙ joined (old.lines ++ (goal_line j ∷ w.lines)) (count_line (length o.found) ∷ []) s
      ∙ ap (λ m. with_lines ((old.lines ++ (goal_line j ∷ w.lines)) ++ count_line m ∷ []) s) (sym f.count_is)
      ∙ ap (λ ls. with_lines ls s) (sym lines)
      ∙ ap (λ ls. with_lines new.lines (session_from program others script.last (1 + j) db ls o.left w.bytes)) f.lists_are
      ∙ ap (λ m. with_lines new.lines (session_from program others script.last (1 + j) db after m w.bytes)) (sym f.left_is)
      ∙ ap (λ m. with_lines new.lines (session_from program others script.last (1 + j) db after rest m)) (sym bytes)

  -- where it raised a term, the session is over
  fails : (others : List Goal) (j : ℕ) (db : Db) (o : Outcome) (w : AnswerLines) (raised : Option Tree) (t : Tree) (old new : Output)
      → raised ≡ Some t
      → new.lines ≡ (old.lines ++ (goal_line j ∷ w.lines)) ++ error_line t ∷ []
      → with_lines old.lines (behind_goal others j db o w raised) ≡ uncommitted_session new.lines (Failed j) db
  fails others j db o w raised t old new is lines =
      ap (λ r. with_lines old.lines (behind_goal others j db o w r)) is
      ∙ joined old.lines (goal_line j ∷ w.lines) (uncommitted_session (error_line t ∷ []) (Failed j) db)
      ∙ ap (λ ls. uncommitted_session ls (Failed j) db) (sym lines)

  module _ (g : Goal) (others : List Goal) (j : ℕ) (p q : Point) (written : Output)
      (finished : p.lines.unfinished ≡ []) (replay : AllReplay program.decls q.log p.log) where
    -- a goal that raised nothing
    pub goal_passed : (n : ℕ) → IsAnswered program g p.log q.log p.left q.left (with_line (goal_line j) p.lines) written (Finished n)
        → q.lines ≡ with_line (count_line n) written
        → StandsBefore program script (g ∷ others) j p → StandsBefore program script others (1 + j) q
    unfolding StandsBefore
    goal_passed n answered counted stands db a b r =
        let o : Outcome = goal_search program g (lists_by_log program.decls db p.log) p.left in
        let w : AnswerLines = answer_lines g o.found p.lines.answer_bytes in
        let by : IsWritten g o w q.left (lists_by_log program.decls db q.log) (with_line (goal_line j) p.lines) written (Finished n) = answered db a b r in
        let all : q.lines ≡ with_line (count_line n) (with_answer_lines w.lines (with_line (goal_line j) p.lines)) =
        counted ∙ ap (with_line (count_line n)) by.lines_are in
        stands db a b (replay db r)
        ∙ goes_on others j db o w (error_of_goal w o) (lists_by_log program.decls db q.log) q.left n p.lines q.lines by.ends
        (ap (λ (x : Output). x.lines) all ∙ goal_lines w.lines p.lines (goal_line j) (count_line n) finished)
        (ap (λ (x : Output). x.answer_bytes) all ∙ bytes_counted g o.found (with_line (goal_line j) p.lines))

    -- a goal that raised a term
    pub goal_failed : (t : Term) → IsAnswered program g p.log q.log p.left q.left (with_line (goal_line j) p.lines) written (Raised t)
        → q.lines ≡ with_line (error_line (seen t)) written
        → StandsBefore program script (g ∷ others) j p → IsOver program script (Failed j) q
    unfolding StandsBefore IsSealed
    goal_failed t answered told stands db a b r =
        let o : Outcome = goal_search program g (lists_by_log program.decls db p.log) p.left in
        let w : AnswerLines = answer_lines g o.found p.lines.answer_bytes in
        let by : IsWritten g o w q.left (lists_by_log program.decls db q.log) (with_line (goal_line j) p.lines) written (Raised t) = answered db a b r in
        let all : q.lines ≡ with_line (error_line (seen t)) (with_answer_lines w.lines (with_line (goal_line j) p.lines)) =
        told ∙ ap (with_line (error_line (seen t))) by.lines_are in
        let is : session program script db ≡ uncommitted_session q.lines.lines (Failed j) db =
        stands db a b (replay db r)
        ∙ fails others j db o w (error_of_goal w o) (seen t) p.lines q.lines by.ends
        (ap (λ (x : Output). x.lines) all ∙ goal_lines w.lines p.lines (goal_line j) (error_line (seen t)) finished) in
        record {
          lines_are = ap (λ (s : Session). s.lines) is;
          ending_is = ap (λ (s : Session). s.ending) is;
          lists_are = λ e. absurd (cc e);
          changes_are = λ e. absurd (cc e);
        }
