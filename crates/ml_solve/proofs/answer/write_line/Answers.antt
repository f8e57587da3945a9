use Rattle.std.proofs.Common.{ap, refl, Err, None, Some}
use Rattle.ml_search.specs.GoalSeen.{goal_seen}
use Rattle.ml_solve.proofs.LinesOfAnswers.{line_refused, line_written}
use Rattle.ml_solve.proofs.answer.write_line.Goals as goal

pub returns-in-Ok : goal.returns-in-Ok
returns-in-Ok c ts terms small =
    line_written (goal_seen c.args.goal.now) c.args.bindings.now ts c.requires terms c.args.out.now c.answer.new.self small c.in-Ok.ensures.written
    c.in-Ok.ensures.fits None refl

pub returns-in_ok-raised-in-Err-Full : goal.returns-in_ok-raised-in-Err-Full
returns-in_ok-raised-in-Err-Full c ts terms small =
    line_refused (goal_seen c.args.goal.now) c.args.bindings.now ts c.requires terms c.args.out.now c.answer.new.self small c.in-Err-Full.ensures.refused
    (c.in-Err-Full.ensures.full (ap Err c.in-Err-Full.field-0-is)) (Some c.in_ok-raised-in-Err-Full.raised) c.in_ok-raised-in-Err-Full.raised refl
    c.in_ok-raised-in-Err-Full.ensures.same
