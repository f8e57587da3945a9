-- What comes of the search of a goal for all its answers. The code searches over a desk, and writes
-- an answer as soon as it is found; here all answers of a search over plain lists stand beside what
-- was written.
use Rattle.std.specs.Prelude.{◌≡◌, ℕ, true, List, [], ◌∷◌, length, Option, Some, None}
use Rattle.ml_term.specs.Tree.{Tree}
use Rattle.ml_term.specs.Seen.{seen}
use Rattle.ml_search.specs.Changes.{Lists}
use Rattle.ml_search.specs.Db.{Db, is_committed, is_db}
use Rattle.ml_search.specs.Operations.{Log}
use Rattle.ml_search.specs.Program.{Program, Goal}
use Rattle.ml_search.specs.Replay.{Replays}
use Rattle.ml_search.specs.Search.{Outcome}
use Rattle.ml_search.specs.Session.{AnswerLines, answer_lines, error_of_goal, goal_search}
use Rattle.ml_asking.specs.Leads.{lists_by_log}
use Rattle.ml_writer.specs.Output.{Output, with_counted, with_line}
use Rattle.ml_solve.specs.declared.goal_end.GoalEnd.{GoalEnd}
use Rattle.ml_solve.specs.declared.goal_end.GoalEnd.TheVariants.{Finished, Raised}

-- the lines of answers behind others, one after another, with their bytes counted
abbrev pub with_answer_lines : List (List ℕ) → Output → Output
with_answer_lines [] o = o
with_answer_lines (l ∷ ls) o = with_answer_lines ls (with_counted l (with_line l o))

-- Nothing was raised. So many answers were found, so many inferences are left, and the search
-- leaves these lists with these changes.
pub record IsFinished (raised : Option Tree) (o : Outcome) (rest : ℕ) (after : Lists) (n : ℕ) :
    Type 0 where
  pub nothing_raised : raised ≡ None
  pub count_is : n ≡ length o.found
  pub left_is : rest ≡ o.left
  pub lists_are : o.lists ≡ after

-- A search ended like this, where it raised a term or none: the term is the one that was raised.
abbrev pub EndsAs : Option Tree → Outcome → ℕ → Lists → GoalEnd → Type 0
EndsAs raised o rest after (Finished n) = IsFinished raised o rest after n
EndsAs raised o rest after (Raised t) = raised ≡ Some (seen t)

-- Of the search of a goal the lines of its answers were written behind others, up to the first one
-- that passes a limit, and it ended like this.
pub record IsWritten (g : Goal) (o : Outcome) (w : AnswerLines) (rest : ℕ) (after : Lists)
    (old new : Output) (end : GoalEnd) : Type 0 where
  pub lines_are : new ≡ with_answer_lines w.lines old
  pub ends : EndsAs (error_of_goal w o) o rest after end

-- Whatever lists without uncommitted items give the replies of the log `k`: the search of a goal
-- over them, as the log `l` changed them, with its changes and so many inferences left, was written
-- so, and what it leaves is what the log `k` tells of.
abbrev pub IsAnswered : Program → Goal → Log → Log → ℕ → ℕ → Output → Output → GoalEnd → Type 0
IsAnswered program g l k left rest old new end =
    (db : Db) → is_db program.decls db ≡ true → is_committed db ≡ true →
    Replays program.decls db k →
    (let o : Outcome = goal_search program g (lists_by_log program.decls db l) left in
    IsWritten g o (answer_lines g o.found old.answer_bytes) rest (lists_by_log program.decls db k)
    old new end)
