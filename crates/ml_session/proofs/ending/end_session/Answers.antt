use Rattle.std.proofs.Common.{refl, ap, ◌∙◌}
use Rattle.ml_program.specs.LoadedProgram.{program_of}
use Rattle.ml_search.specs.GoalSeen.{last_seen}
use Rattle.ml_search.specs.Seen.{log_seen}
use Rattle.ml_session.specs.Standing.{point}
use Rattle.ml_session.proofs.EndsPassed.{ends_aborted, ends_committed}
use Rattle.ml_session.proofs.ending.end_session.Goals as goal

pub returns-in-Commit-clause-passes : goal.returns-in-Commit-clause-passes
returns-in-Commit-clause-passes g c =
    let D = g.D.Desk in
    let p = point (log_seen (D.log c.args.desk.now)) c.args.lines.now c.args.budget.now.left in
    λ script last stands. ends_committed (program_of c.args.program.now) script c.args.j p p refl refl (last ∙ ap last_seen c.in-Commit.is) stands

pub returns-in-Abort-clause-passes : goal.returns-in-Abort-clause-passes
returns-in-Abort-clause-passes g c =
    let D = g.D.Desk in
    let p = point (log_seen (D.log c.args.desk.now)) c.args.lines.now c.args.budget.now.left in
    λ script last stands. ends_aborted (program_of c.args.program.now) script c.args.j p p refl refl (last ∙ ap last_seen c.in-Abort.is) stands
