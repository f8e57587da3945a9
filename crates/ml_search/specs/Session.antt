-- A session: the goals of a script one after another, with one budget, over the lists as they stood
-- before it. The code may hold a session's changes and take them back; here a session that doesn't
-- commit gives the lists that it began with.
use Rattle.std.specs.Prelude.{ℕ, ◌+◌, nat_lt, Bool, true, ◌==◌, not, List, [], ◌∷◌, ◌++◌, map}
use Rattle.std.specs.Prelude.{length, Option, Some, None, codes, if◌then◌else◌}
use Rattle.std.specs.List.{filter, list_any}
use Rattle.std.specs.Option.{option_or}
use Rattle.ml_term.specs.Tree.{Tree, variable, variables, width}
use Rattle.ml_term.specs.Decimal.{decimal_text}
use Rattle.ml_term.specs.Text.{text_of}
use Rattle.ml_search.specs.declared.ending.Ending.{Ending}
use Rattle.ml_search.specs.declared.ending.Ending.TheVariants.{Committed, Aborted, Refused, Failed}
use Rattle.ml_search.specs.Limits.{max_answer_bytes}
use Rattle.ml_search.specs.Program.{Program, Goal, Last, commit, abort, unless, Script}
use Rattle.ml_search.specs.Errors.{resource_error, is_too_large, formal_term}
use Rattle.ml_search.specs.Db.{Db}
use Rattle.ml_search.specs.Changes.{Change, Lists}
use Rattle.ml_search.specs.Actions.{End, end_of_answers, ball, out_of_inferences}
use Rattle.ml_search.specs.Search.{Outcome, search_of}

-- the byte that ends a line
abbrev pub line_feed : ℕ
line_feed = 10

-- the byte with which a name begins whose variable isn't shown
abbrev pub underscore : ℕ
underscore = 95

-- a line with its line feed
abbrev pub line : List ℕ → List ℕ
line text = text ++ line_feed ∷ []

-- a variable of a goal is shown unless its name begins with `_`
abbrev pub is_shown : List ℕ × ℕ → Bool
is_shown e = is_shown_name e.0
  where
    is_shown_name : List ℕ → Bool
    is_shown_name [] = true
    is_shown_name (b ∷ bs) = not (b == underscore)

-- the shown variables of a goal, by first place
abbrev pub shown_names : Goal → List (List ℕ × ℕ)
shown_names g = filter is_shown g.names

-- the search of a goal for the terms of its shown variables
abbrev pub goal_search : Program → Goal → Lists → ℕ → Outcome
goal_search program g lists left =
    search_of program g.term (map (λ e. variable e.1) (shown_names g)) (width g.term) lists left

-- `NAME = TERM` for each shown variable, with `, ` between; `met` are the variables that the line
-- met before
abbrev pub bindings_text : List (List ℕ × ℕ) → List Tree → List ℕ → List ℕ
bindings_text (e ∷ []) (t ∷ ts) met = e.0 ++ codes " = " ++ text_of t met
bindings_text (e ∷ es) (t ∷ ts) met =
    e.0 ++ codes " = " ++ text_of t met ++ codes ", " ++ bindings_text es ts (met ++ variables t)
bindings_text es ts met = codes "true"

-- an answer's line: two spaces, and its terms, or `true` where no variable is shown
abbrev pub answer_line : Goal → List Tree → List ℕ
answer_line g ts = line (codes "  " ++ bindings_text (shown_names g) ts [])

-- answer lines, with the number of answer bytes so far, and the term that was raised instead of the
-- next line, if any
pub record AnswerLines : Type 0 where
  pub lines : List (List ℕ)
  pub bytes : ℕ
  pub fault : Option Tree

-- one more line before others
abbrev pub with_line : List ℕ → AnswerLines → AnswerLines
with_line l w = record { lines = l ∷ w.lines; bytes = w.bytes; fault = w.fault }

-- The lines of answers. One with a term that is too large, or whose line would pass the limit, ends
-- its goal there.
abbrev pub answer_lines : Goal → List (List Tree) → ℕ → AnswerLines
answer_lines g [] bytes = record { lines = []; bytes = bytes; fault = None }
answer_lines g (ts ∷ found) bytes =
    if list_any is_too_large ts
    then record { lines = []; bytes = bytes; fault = Some (resource_error (codes "term")) }
    else if nat_lt max_answer_bytes (bytes + length (answer_line g ts))
    then record { lines = []; bytes = bytes; fault = Some (resource_error (codes "output")) }
    else with_line (answer_line g ts) (answer_lines g found (bytes + length (answer_line g ts)))

-- the term that the end of a search raises
abbrev pub error_of_end : End → Option Tree
error_of_end end_of_answers = None
error_of_end (ball t) = Some (formal_term t)
error_of_end out_of_inferences = Some (resource_error (codes "inferences"))

-- what a goal raises: at an answer, or else at the end of its search
abbrev pub error_of_goal : AnswerLines → Outcome → Option Tree
error_of_goal w o = option_or w.fault (error_of_end o.end)

-- `goal J`
abbrev pub goal_line : ℕ → List ℕ
goal_line j = line (codes "goal " ++ decimal_text j)

-- `  N answers`
abbrev pub count_line : ℕ → List ℕ
count_line n = line (codes "  " ++ decimal_text n ++ codes " answers")

-- `  error TERM`
abbrev pub error_line : Tree → List ℕ
error_line t = line (codes "  error " ++ text_of t [])

-- the lines, the ending, the lists after it, and the changes that it made
pub record Session : Type 0 where
  pub lines : List (List ℕ)
  pub ending : Ending
  pub db : Db
  pub changes : List Change

-- a session with lines before its own
abbrev pub with_lines : List (List ℕ) → Session → Session
with_lines ls s = record s { lines = ls ++ s.lines }

-- a session that leaves the lists as they were
abbrev pub uncommitted_session : List (List ℕ) → Ending → Db → Session
uncommitted_session ls ending db = record { lines = ls; ending = ending; db = db; changes = [] }

-- a session that leaves the lists as its goals made them
abbrev pub committed_session : Lists → Session
committed_session lists =
    record { lines = []; ending = Committed; db = lists.db; changes = lists.made }

-- the end of a session that is refused if one more goal has an answer; j is the number behind the
-- last goal's
abbrev pub end_unless : Outcome → ℕ → Db → Session
end_unless o j before = by o.found (error_of_end o.end)
  where
    by : List (List Tree) → Option Tree → Session
    by (ts ∷ found) raised = uncommitted_session [] Refused before
    by [] (Some t) = uncommitted_session (goal_line j ∷ error_line t ∷ []) (Failed j) before
    by [] None = committed_session o.lists

module _ (program : Program) where
  -- the end of a session whose goals raised nothing; j is the number behind the last goal's
  abbrev pub session_end : Last → ℕ → Db → Lists → ℕ → Session
  session_end commit j before lists left = committed_session lists
  session_end abort j before lists left = uncommitted_session [] Aborted before
  session_end (unless g) j before lists left =
      end_unless (goal_search program g lists left) j before

  -- The goals from number j on, and then the end: `before` are the lists before the session, and so
  -- many answer bytes stand before. The first raised term ends the session.
  abbrev pub session_from : List Goal → Last → ℕ → Db → Lists → ℕ → ℕ → Session
  session_from [] last j before lists left bytes = session_end last j before lists left
  session_from (g ∷ gs) last j before lists left bytes =
      let o : Outcome = goal_search program g lists left in
      let w : AnswerLines = answer_lines g o.found bytes in
      with_lines (goal_line j ∷ w.lines)
      (elim (error_of_goal w o) [
        | Some t ↦ uncommitted_session (error_line t ∷ []) (Failed j) before
        | None ↦ with_lines (count_line (length o.found) ∷ [])
            (session_from gs last (1 + j) before o.lists o.left w.bytes)
      ])

  -- the session of a script over some lists
  abbrev pub session : Script → Db → Session
  session script db =
      session_from script.goals script.last 1 db (record { db = db; made = [] }) script.budget 0
