-- What goals and ends of scripts of the code are seen as: the same, with trees in place of terms.
use Rattle.std.specs.Prelude.{List, map}
use Rattle.ml_term.specs.Seen.{seen}
use Rattle.ml_search.specs.declared.goal.Goal as G
use Rattle.ml_search.specs.declared.last.Last as L
use Rattle.ml_search.specs.declared.last.Last.TheVariants.{Commit, Abort, Unless}
use Rattle.ml_search.specs.Program.{Goal, Last, commit, abort, unless}

-- the goal that it is
abbrev pub goal_seen : G.Goal → Goal
goal_seen g = record { term = seen g.term; names = g.names }

-- the goals that they are
abbrev pub goals_seen : List G.Goal → List Goal
goals_seen = map goal_seen

-- the end that it is
abbrev pub last_seen : L.Last → Last
last_seen Commit = commit
last_seen Abort = abort
last_seen (Unless g) = unless (goal_seen g)
