-- Where a session stands between two goals. The code has run some goals and holds their log and
-- lines; here the whole session over lists that give the log's replies stands beside what the goals
-- that are left come to.
use Rattle.std.specs.Prelude.{◌≡◌, ℕ, ◌+◌, true, List, [], ◌∷◌, length, Option, Some, None}
use Rattle.ml_search.specs.Db.{Db, is_committed, is_db}
use Rattle.ml_search.specs.Operations.{Log}
use Rattle.ml_search.specs.Program.{Program, Goal, Last, Script}
use Rattle.ml_search.specs.Replay.{Replays}
use Rattle.ml_search.specs.Session.{session, session_from, with_lines}
use Rattle.ml_search.specs.declared.ending.Ending.{Ending}
use Rattle.ml_search.specs.declared.ending.Ending.TheVariants.{Failed}
use Rattle.ml_asking.specs.Leads.{lists_by_log}
use Rattle.ml_desk.specs.Sealing.{IsSealed}
use Rattle.ml_writer.specs.Output.{Output}
use Rattle.ml_session.specs.declared.goal.Course.{Course}
use Rattle.ml_session.specs.declared.goal.Course.TheVariants.{GoesOn, Fails}

-- where a session is: its log, its lines, and how many inferences are left
pub record Point : Type 0 where
  pub log : Log
  pub lines : Output
  pub left : ℕ

-- Whatever lists without uncommitted items give the log's replies: the script's session over them
-- has these lines, and then does what the goals that are left, from number j on, and the script's
-- end do over the lists as the log changed them.
unfoldable pub StandsBefore : Program → Script → List Goal → ℕ → Point → Type 0
StandsBefore program script goals j p =
    (db : Db) → is_db program.decls db ≡ true → is_committed db ≡ true →
    Replays program.decls db p.log →
    session program script db
    ≡ with_lines p.lines.lines
    (session_from program goals script.last j db (lists_by_log program.decls db p.log) p.left
    p.lines.answer_bytes)

-- the session is over, and ended like this
abbrev pub IsOver : Program → Script → Ending → Point → Type 0
IsOver program script ending p = IsSealed program script p.log p.lines.lines ending

-- behind goal j: the session stands before the others, or it failed there
abbrev pub StandsBehind : Program → Script → List Goal → ℕ → Course → Point → Type 0
StandsBehind program script others j GoesOn p = StandsBefore program script others (1 + j) p
StandsBehind program script others j Fails p = IsOver program script (Failed j) p

-- One goal led from one point to another: where any script's session stood before it and others, it
-- stands behind it.
abbrev pub PassesGoal : Program → Goal → ℕ → Point → Point → Course → Type 0
PassesGoal program g j p q course =
    (script : Script) (others : List Goal) → StandsBefore program script (g ∷ others) j p
    → StandsBehind program script others j course q

-- behind all goals, which are n: the session stands before its end, or it failed at one of them
abbrev pub StandsAtEnd : Program → Script → ℕ → Option ℕ → Point → Type 0
StandsAtEnd program script n None p = StandsBefore program script [] (1 + n) p
StandsAtEnd program script n (Some j) p = IsOver program script (Failed j) p

-- Goals led from one point to another, or to the one of them that failed.
abbrev pub PassesGoals : Program → List Goal → Point → Point → Option ℕ → Type 0
PassesGoals program goals p q failed =
    (script : Script) → StandsBefore program script goals 1 p
    → StandsAtEnd program script (length goals) failed q

-- The end of a script, where j is the number behind the last goal's, led from one point to another:
-- any session of a script with this end is over, and ended like this.
abbrev pub PassesEnd : Program → Last → ℕ → Point → Point → Ending → Type 0
PassesEnd program last j p q ending =
    (script : Script) → script.last ≡ last → StandsBefore program script [] j p
    → IsOver program script ending q

-- the point where a session is
abbrev pub point : Log → Output → ℕ → Point
point log lines left = record { log = log; lines = lines; left = left }
