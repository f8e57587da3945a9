use Rattle.std.proofs.Common.{refl, ap, ◌∙◌}
use Rattle.ml_search.specs.GoalSeen.{goal_seen}
use Rattle.ml_stack.specs.Memories.{Contents}
use Rattle.ml_machine.proofs.GoalsEntered.{goal_entered}
use Rattle.ml_machine.proofs.begin.enter_goal.Goals as goal

pub returns : goal.returns
returns c =
    let empty = c.memory.view_is ∙ c.requires in
    goal_entered (goal_seen c.args.goal.now) _ _ _ _ _ _ c.in-Some.place c.in_ok-code.ensures _ c.as_slice.ensures _ _ _ _ _
    (ap (λ (M : Contents). M.heap) empty) (ap (λ (M : Contents). M.slots) empty) refl
    (ap (λ (M : Contents). M.codes) empty) c.in_ok-push.ensures.items c.in-Some.is c.in_ok-entered.ensures.entered
