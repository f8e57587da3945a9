use Rattle.std.proofs.Common.{◌≡◌, ◌+◌, [], drop, None}
use mathlib.Core.List.{IsPrefix}
use Rattle.ml_program.specs.LoadedProgram.{program_of}
use Rattle.ml_search.specs.GoalSeen.{goals_seen}
use Rattle.ml_search.specs.Program.{Script}
use Rattle.ml_search.specs.Seen.{log_seen}
use Rattle.ml_session.specs.Standing.{point, StandsBefore}
use Rattle.ml_session.proofs.goals.run_goals.Given as goal

-- where a script's session stood before all goals, it stands before those that are left
abbrev pub invariant-loop-goal : goal.invariant-loop-goal
invariant-loop-goal g l =
    let D = g.D.Desk in
    record {
      alive : D.died l.desk ≡ None;
      finished : l.lines.unfinished ≡ [];
      counted : l.j ≡ l.goal-index;
      passed : (script : Script)
          → StandsBefore (program_of l.program) script (goals_seen l.goals) 1 (point (log_seen (D.log l.fn.desk)) l.fn.lines l.fn.budget.left)
          → StandsBefore (program_of l.program) script (goals_seen (drop l.goal-index l.goals)) (1 + l.j) (point (log_seen
          (D.log l.desk)) l.lines l.budget.left);
      begins : IsPrefix (D.log l.fn.desk) (D.log l.desk);
      decls : D.decls l.desk ≡ D.decls l.fn.desk;
      site : D.site l.desk ≡ D.site l.fn.desk;
      stays : D.stays l.fn.desk l.desk;
    }
