use Rattle.std.proofs.Common.{refl, ap, ◌∙◌, subst}
use Rattle.ml_term.specs.Seen.{seen}
use Rattle.ml_program.specs.LoadedProgram.{program_of}
use Rattle.ml_search.specs.GoalSeen.{goal_seen}
use Rattle.ml_search.specs.Seen.{log_seen}
use Rattle.ml_search.specs.Session.{error_line}
use Rattle.ml_writer.specs.Output.{with_line}
use Rattle.ml_solve.specs.Asked.{IsFound}
use Rattle.ml_solve.specs.declared.found.Found.{Found}
use Rattle.ml_session.specs.Standing.{point}
use Rattle.ml_session.proofs.EndsPassed.{ends_refused, ends_unrefused, ends_failed}
use Rattle.ml_session.proofs.LogsBegin.{all_replay}
use Rattle.ml_session.proofs.ending.end_unless.Goals as goal

pub returns-in-Yes-clause-passes : goal.returns-in-Yes-clause-passes
returns-in-Yes-clause-passes g c =
    let D = g.D.Desk in
    let program = program_of c.args.program.now in
    let wanted = goal_seen c.args.goal.now in
    let p = point (log_seen (D.log c.args.desk.now)) c.args.lines.now c.args.budget.now.left in
    let q = point (log_seen (D.log c.has_answer.new.desk)) c.args.lines.now c.has_answer.new.budget.left in
    let found = subst (λ (f : Found). IsFound program wanted p.log q.log p.left q.left f) c.in-Yes.is c.in_ok-has_answer.ensures.answers in
    let replay = all_replay program.decls (D.log c.args.desk.now) (D.log c.has_answer.new.desk)
    (c.in_ok-has_answer.ensures.begins c.in_ok-has_answer.ensures.died) in
    λ script last stands. ends_refused program script c.args.j p q wanted replay last found refl stands

pub returns-in-No-clause-passes : goal.returns-in-No-clause-passes
returns-in-No-clause-passes g c =
    let D = g.D.Desk in
    let program = program_of c.args.program.now in
    let wanted = goal_seen c.args.goal.now in
    let p = point (log_seen (D.log c.args.desk.now)) c.args.lines.now c.args.budget.now.left in
    let q = point (log_seen (D.log c.has_answer.new.desk)) c.args.lines.now c.has_answer.new.budget.left in
    let found = subst (λ (f : Found). IsFound program wanted p.log q.log p.left q.left f) c.in-No.is c.in_ok-has_answer.ensures.answers in
    let replay = all_replay program.decls (D.log c.args.desk.now) (D.log c.has_answer.new.desk)
    (c.in_ok-has_answer.ensures.begins c.in_ok-has_answer.ensures.died) in
    λ script last stands. ends_unrefused program script c.args.j p q wanted replay last found refl stands

pub returns-in_ok-error-in-Raised-clause-passes : goal.returns-in_ok-error-in-Raised-clause-passes
returns-in_ok-error-in-Raised-clause-passes g c =
    let D = g.D.Desk in
    let program = program_of c.args.program.now in
    let wanted = goal_seen c.args.goal.now in
    let p = point (log_seen (D.log c.args.desk.now)) c.args.lines.now c.args.budget.now.left in
    let q = point (log_seen (D.log c.has_answer.new.desk)) c.error.new.self c.has_answer.new.budget.left in
    let found = subst (λ (f : Found). IsFound program wanted p.log q.log p.left q.left f) c.in-Raised.is c.in_ok-has_answer.ensures.answers in
    let replay = all_replay program.decls (D.log c.args.desk.now) (D.log c.has_answer.new.desk)
    (c.in_ok-has_answer.ensures.begins c.in_ok-has_answer.ensures.died) in
    λ script last stands. ends_failed program script c.args.j p q wanted replay last c.in-Raised.t found c.requires.finished
    (c.in_ok-error-in-Raised.ensures.written ∙ ap (with_line (error_line (seen c.in-Raised.t))) c.in_ok-goal-in-Raised.ensures.written)
    stands
