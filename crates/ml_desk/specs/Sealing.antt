-- What a session that is over means. The code ran it over a desk, whatever that was; here it is
-- searched anew over all plain lists that give the replies of its log.
use Rattle.std.specs.Prelude.{◌≡◌, true, List, [], ℕ}
use Rattle.ml_search.specs.Changes.{Change}
use Rattle.ml_search.specs.Db.{mine, Db, is_committed, is_db}
use Rattle.ml_search.specs.Operations.{Log}
use Rattle.ml_search.specs.Program.{Program, Script}
use Rattle.ml_search.specs.ProgramSeen.{program_seen, script_seen}
use Rattle.ml_search.specs.Replay.{db_after_log, Replays}
use Rattle.ml_search.specs.Seen.{log_seen}
use Rattle.ml_search.specs.Session.{Session, session}
use Rattle.ml_search.specs.LogChanges.{log_changes}
use Rattle.ml_search.specs.declared.ending.Ending.{Ending}
use Rattle.ml_search.specs.declared.ending.Ending.TheVariants.{Committed}
use Rattle.ml_search.specs.declared.operation.Op.{Op}
use Rattle.ml_search.specs.declared.operation.Reply.{Reply}
use Rattle.ml_search.specs.declared.program.Program as P
use Rattle.ml_search.specs.declared.script.Script as S
use Rattle.ml_term.specs.declared.declaration.Decl.{Decl}
use Rattle.ml_writer.specs.Output.{Output}

-- A session over some lists has these lines and this ending. Where it commits, it leaves the lists
-- as the log changes them, and its changes are those that the log tells of.
pub record IsSessionOf (decls : List Decl) (db : Db) (log : Log) (lines : List (List ℕ))
    (ending : Ending) (s : Session) : Type 0 where
  pub lines_are : s.lines ≡ lines
  pub ending_is : s.ending ≡ ending
  pub lists_are : ending ≡ Committed → s.db ≡ db_after_log decls db log mine
  pub changes_are : ending ≡ Committed → s.changes ≡ log_changes log

-- Whatever lists without uncommitted items give a log's replies: a script's session over them has
-- these lines and this ending, and does what the log says.
unfoldable pub IsSealed : Program → Script → Log → List (List ℕ) → Ending → Type 0
IsSealed program script log lines ending =
    (db : Db) → is_db program.decls db ≡ true → is_committed db ≡ true →
    Replays program.decls db log
    → IsSessionOf program.decls db log lines ending (session program script db)

-- what the type of a session that is over keeps: that, and that no line of it is unfinished
pub record IsSessionSealed (program : P.Program) (script : S.Script) (log : List (Op × Reply))
    (lines : Output) (ending : Ending) : Type 0 where
  pub finished : lines.unfinished ≡ []
  pub meant : IsSealed (program_seen program) (script_seen script) (log_seen log) lines.lines ending
