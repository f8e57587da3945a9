-- Clauses, goals and ends of the code are well formed.
use Rattle.std.specs.Prelude.{◌≡◌, true, List, [], ◌∷◌}
use Rattle.std.specs.List.{list_all}
use Rattle.std.proofs.Common.{refl}
use Rattle.std.proofs.lemmas.Bool.{and_from}
use Rattle.ml_search.specs.declared.clause.Clause as C
use Rattle.ml_search.specs.declared.goal.Goal as G
use Rattle.ml_search.specs.declared.last.Last as L
use Rattle.ml_search.specs.declared.last.Last.TheVariants.{Commit, Abort, Unless}
use Rattle.ml_search.specs.ClauseSeen.{clauses_seen}
use Rattle.ml_search.specs.GoalSeen.{goals_seen, last_seen}
use Rattle.ml_search.specs.WellFormed.{is_clause, is_goal, is_last}

pub clauses_are_clauses : (cs : List C.Clause) → list_all is_clause (clauses_seen cs) ≡ true
clauses_are_clauses [] = refl
clauses_are_clauses (c ∷ cs) = and_from _ _ c.well_formed (clauses_are_clauses cs)

pub goals_are_goals : (gs : List G.Goal) → list_all is_goal (goals_seen gs) ≡ true
goals_are_goals [] = refl
goals_are_goals (g ∷ gs) = and_from _ _ g.well_formed (goals_are_goals gs)

pub last_is_last : (l : L.Last) → is_last (last_seen l) ≡ true
last_is_last Commit = refl
last_is_last Abort = refl
last_is_last (Unless g) = g.well_formed
