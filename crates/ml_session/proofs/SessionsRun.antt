-- A session from its beginning to its end.
use Rattle.std.proofs.Common.{◌≡◌, ℕ, ◌+◌, List, [], length, Option, Some, None, refl, sym, subst, arith}
use Rattle.std.proofs.lemmas.List.{length-map}
use Rattle.ml_search.specs.GoalSeen.{goal_seen, goals_seen}
use Rattle.ml_search.specs.Program.{Program}
use Rattle.ml_search.specs.ProgramSeen.{script_seen}
use Rattle.ml_search.specs.Seen.{log_seen}
use Rattle.ml_search.specs.declared.ending.Ending.{Ending}
use Rattle.ml_search.specs.declared.ending.Ending.TheVariants.{Failed}
use Rattle.ml_search.specs.declared.goal.Goal as G
use Rattle.ml_search.specs.declared.operation.Op.{Op}
use Rattle.ml_search.specs.declared.operation.Reply.{Reply}
use Rattle.ml_search.specs.declared.script.Script as S
use Rattle.ml_writer.specs.Output.{Output, no_output}
use Rattle.ml_session.specs.Standing.{Point, point, StandsBefore, StandsAtEnd, PassesGoals, PassesEnd, IsOver}
use Rattle.ml_session.proofs.EndsPassed.{begins}

module _ (program : Program) (s : S.Script) where
  -- a session stands before all goals of its script
  begins_so : (log : List (Op × Reply)) (lines : Output) (goals : List G.Goal) → log ≡ [] → lines ≡ no_output → goals ≡ s.goals
      → StandsBefore program (script_seen s) (goals_seen goals) 1 (point (log_seen log) lines s.budget)
  begins_so log lines goals e f h =
      subst (λ (gs : List G.Goal). StandsBefore program (script_seen s) (goals_seen gs) 1 (point (log_seen log) lines s.budget)) (sym h)
      (subst (λ (o : Output). StandsBefore program (script_seen s) (goals_seen s.goals) 1 (point (log_seen log) o s.budget)) (sym f)
      (subst (λ (l : List (Op × Reply)). StandsBefore program (script_seen s) (goals_seen s.goals) 1 (point (log_seen l) no_output s.budget)) (sym e)
      (begins program (script_seen s))))

  module _ (log : List (Op × Reply)) (lines : Output) (goals : List G.Goal) (empty : log ≡ []) (new : lines ≡ no_output) (same : goals ≡ s.goals)
      (q : Point) (failed : Option ℕ) (passed : PassesGoals program (goals_seen goals) (point (log_seen log) lines s.budget) q failed) where
    at_end : (x : Option ℕ) → failed ≡ x → StandsAtEnd program (script_seen s) (length (goals_seen goals)) x q
    at_end x is =
        subst (λ (y : Option ℕ). StandsAtEnd program (script_seen s) (length (goals_seen goals)) y q) is
        (passed (script_seen s) (begins_so log lines goals empty new same))

    -- a goal failed
    pub failed_there : (j : ℕ) → failed ≡ Some j → IsOver program (script_seen s) (Failed j) q
    failed_there j is = at_end (Some j) is

    -- all goals were passed, and then the end
    pub ended_there : (r : Point) (ending : Ending) (j : ℕ) → failed ≡ None → j ≡ length goals + 1 → PassesEnd program (script_seen s).last j q r ending
        → IsOver program (script_seen s) ending r
    ended_there r ending j is count ends =
        let behind : 1 + length (goals_seen goals) ≡ j = omega (arith, count, length-map goals goal_seen) in
        ends (script_seen s) refl (subst (λ (k : ℕ). StandsBefore program (script_seen s) [] k q) behind (at_end None is))
