use Rattle.std.proofs.Common.{subst}
use Rattle.ml_program.specs.LoadedProgram.{program_of}
use Rattle.ml_search.specs.GoalSeen.{goal_seen}
use Rattle.ml_search.specs.Seen.{log_seen}
use Rattle.ml_search.specs.Session.{goal_line}
use Rattle.ml_writer.specs.Output.{Output, with_line}
use Rattle.ml_solve.specs.Answered.{IsAnswered}
use Rattle.ml_solve.specs.declared.goal_end.GoalEnd.{GoalEnd}
use Rattle.ml_solve.specs.declared.goal_end.GoalEnd.TheVariants.{Finished, Raised}
use Rattle.ml_session.specs.Standing.{point}
use Rattle.ml_session.proofs.GoalsPassed.{goal_passed, goal_failed}
use Rattle.ml_session.proofs.LogsBegin.{all_replay}
use Rattle.ml_session.proofs.goal.run_goal.Goals as goal

pub returns-in_ok-count-in-Finished-clause-passes : goal.returns-in_ok-count-in-Finished-clause-passes
returns-in_ok-count-in-Finished-clause-passes g c =
    let D = g.D.Desk in
    let program = program_of c.args.program.now in
    let wanted = goal_seen c.args.goal.now in
    let p = point (log_seen (D.log c.args.desk.now)) c.args.lines.now c.args.budget.now.left in
    let q = point (log_seen (D.log c.solve.new.desk)) c.count.new.self c.solve.new.budget.left in
    let begun : IsAnswered program wanted p.log q.log p.left q.left c.goal.new.self c.solve.new.out (Finished c.in-Finished.n) =
    subst (λ (e : GoalEnd). IsAnswered program wanted p.log q.log p.left q.left c.goal.new.self c.solve.new.out e) c.in-Finished.is c.in_ok-n.ensures.answers in
    let answered : IsAnswered program wanted p.log q.log p.left q.left (with_line (goal_line c.args.j) c.args.lines.now) c.solve.new.out
    (Finished c.in-Finished.n) =
    subst (λ (o : Output). IsAnswered program wanted p.log q.log p.left q.left o c.solve.new.out
    (Finished c.in-Finished.n)) c.in_ok-goal.ensures.written begun in
    let replay = all_replay program.decls (D.log c.args.desk.now) (D.log c.solve.new.desk) (c.in_ok-n.ensures.begins c.in_ok-n.ensures.died) in
    λ script others. goal_passed program script wanted others c.args.j p q c.solve.new.out c.requires.finished replay c.in-Finished.n answered
    c.in_ok-count-in-Finished.ensures.written

pub returns-in_ok-error-in-Raised-clause-passes : goal.returns-in_ok-error-in-Raised-clause-passes
returns-in_ok-error-in-Raised-clause-passes g c =
    let D = g.D.Desk in
    let program = program_of c.args.program.now in
    let wanted = goal_seen c.args.goal.now in
    let p = point (log_seen (D.log c.args.desk.now)) c.args.lines.now c.args.budget.now.left in
    let q = point (log_seen (D.log c.solve.new.desk)) c.error.new.self c.solve.new.budget.left in
    let begun : IsAnswered program wanted p.log q.log p.left q.left c.goal.new.self c.solve.new.out (Raised c.in-Raised.t) =
    subst (λ (e : GoalEnd). IsAnswered program wanted p.log q.log p.left q.left c.goal.new.self c.solve.new.out e) c.in-Raised.is c.in_ok-n.ensures.answers in
    let answered : IsAnswered program wanted p.log q.log p.left q.left (with_line (goal_line c.args.j) c.args.lines.now) c.solve.new.out
    (Raised c.in-Raised.t) =
    subst (λ (o : Output). IsAnswered program wanted p.log q.log p.left q.left o c.solve.new.out (Raised c.in-Raised.t)) c.in_ok-goal.ensures.written begun in
    let replay = all_replay program.decls (D.log c.args.desk.now) (D.log c.solve.new.desk) (c.in_ok-n.ensures.begins c.in_ok-n.ensures.died) in
    λ script others. goal_failed program script wanted others c.args.j p q c.solve.new.out c.requires.finished replay c.in-Raised.t answered
    c.in_ok-error-in-Raised.ensures.written
