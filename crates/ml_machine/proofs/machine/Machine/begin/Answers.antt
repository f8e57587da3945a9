use Rattle.std.proofs.Common.{refl}
use Rattle.ml_search.specs.GoalSeen.{goal_seen}
use Rattle.ml_machine.proofs.GoalClauses.{named_variables}
use Rattle.ml_machine.proofs.GoalsBegun.{goal_begins}
use Rattle.ml_machine.proofs.machine.Machine.begin.Goals as goal

pub returns : goal.returns
returns c ps =
    goal_begins _ (goal_seen c.args.goal.now) c.in_ok-at.at c.args.left c.enter_goal.new.memory refl c.in_ok-at.ensures
    (named_variables (goal_seen c.args.goal.now) c.args.goal.now.well_formed) c.in_ok-terms.ensures c.new.ensures.items c.new-2.ensures.items refl ps
