use Rattle.std.proofs.Common.{◌≡◌, take}
use Rattle.ml_search.proofs.goals.Goals.copy_of.Given as goal

-- the copy so far
abbrev pub invariant-loop-goal : goal.invariant-loop-goal
invariant-loop-goal l = l.items.items ≡ take l.goal-index l.goal-items
