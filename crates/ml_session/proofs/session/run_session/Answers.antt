use Rattle.std.proofs.Common.{◌+◌, length, refl}
use Rattle.ml_program.specs.LoadedProgram.{program_of}
use Rattle.ml_search.specs.Seen.{log_seen}
use Rattle.ml_session.specs.Standing.{point}
use Rattle.ml_session.proofs.SessionsRun.{failed_there, ended_there}
use Rattle.ml_session.proofs.session.run_session.Goals.{in-Some, in-None+in_ok-ending-in-None}
use Rattle.ml_session.proofs.session.run_session.Goals as goal

pub returns-clause-meant : goal.returns-clause-meant
returns-clause-meant g c =
    let D = g.D.Desk in
    let program = program_of c.args.program.now in
    let script = c.args.script.now in
    let q = point (log_seen (D.log c.run_goals.new.desk)) c.run_goals.new.lines c.run_goals.new.budget.left in
    let goals = c.as_slice-goals.result.now in
    elim c.match-failed.branch [
      | in-Some w ↦
          rw (w.desk-is, w.lines-is, w.ending-is)
          (failed_there program script (D.log c.args.desk.now) c.new-lines.result goals c.requires.empty c.new-lines.ensures c.as_slice-goals.ensures q
          c.in_ok-failed.failed c.in_ok-failed.ensures.passes w.in-Some.j w.in-Some.is)
      | in-None+in_ok-ending-in-None w ↦
          rw (w.desk-is, w.lines-is, w.ending-is)
          (ended_there program script (D.log c.args.desk.now) c.new-lines.result goals c.requires.empty c.new-lines.ensures c.as_slice-goals.ensures q
          c.in_ok-failed.failed c.in_ok-failed.ensures.passes
          (point (log_seen (D.log w.end_session.new.desk)) w.end_session.new.lines w.end_session.new.budget.left) w.in_ok-ending-in-None.ending
          (length goals + 1)
          w.in-None.is refl w.in_ok-ending-in-None.ensures.passes)
    ]
