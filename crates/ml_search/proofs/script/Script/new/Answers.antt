use Rattle.std.proofs.Common.{◌≤◌, length, arith}
use Rattle.std.proofs.lemmas.List.{length-map}
use Rattle.std.proofs.lemmas.Bool.{and_from, le-leb}
use Rattle.ml_search.specs.GoalSeen.{goals_seen, goal_seen}
use Rattle.ml_search.specs.Limits.{max_goals, max_inferences}
use Rattle.ml_search.proofs.WellFormedParts.{goals_are_goals, last_is_last}
use Rattle.ml_search.proofs.script.Script.new.Goals as goal

pub invariant_of-result : goal.invariant_of-result
invariant_of-result c =
    let few : length (goals_seen c.args.goals) ≤ max_goals = omega (arith, length-map c.args.goals goal_seen, c.requires.goals) in
    record {
      well_formed =
          and_from _ _ (and_from _ _ (and_from _ _ (and_from _ _
          (le-leb 1 c.args.budget c.requires.some)
          (le-leb c.args.budget max_inferences c.requires.few))
          (goals_are_goals c.args.goals))
          (le-leb (length (goals_seen c.args.goals)) max_goals few))
          (last_is_last c.args.last);
    }
