-- What a clause is in a script, and what stands of a script behind some of its clauses.
-- `Scripts.antt` says the same of whole scripts, without a step. No public clause cites this
-- module.
use Rattle.std.specs.Prelude.{pos, ℕ, Bool, true, false, ◌&&◌, nat_le, IsTrue, List, [], ◌∷◌, ◌++◌, Option, Some, None, Result, Ok, Err, codes}
use Rattle.std.specs.Str.{bytes_eq}
use Rattle.ml_term.specs.Tree.{Tree, integer, atom, compound, no_trees, tree}
use Rattle.ml_search.specs.Bodies.{is_callable}
use Rattle.ml_search.specs.Program.{Goal, Last, commit, abort, unless, Script}
use Rattle.ml_search.specs.WellFormed.{is_goal}
use Rattle.ml_search.specs.Limits.{max_inferences, default_inferences}
use Rattle.ml_reader.specs.Lexemes.{ReadClause}

-- What a clause is in a script, or that it is nothing there.
pub data Item : Type 0 where
  set_budget : ℕ → Item
  goal_item : Goal → Item
  end_item : Last → Item
  other_item : Item

-- an item, if a test holds
abbrev pub item_if : Bool → Item → Item
item_if true i = i
item_if false i = other_item

-- a goal
abbrev pub goal_of : Tree → List (List ℕ × ℕ) → Goal
goal_of t ns = record { term = t; names = ns }

-- the term and the names are a goal, if the term is callable
abbrev pub IsGoalIfCallable : Tree → List (List ℕ × ℕ) → Type 0
IsGoalIfCallable t ns = IsTrue (is_callable t) → IsTrue (is_goal (goal_of t ns))

-- the only one of some trees
abbrev pub only_tree : List Tree → Option Tree
only_tree (t ∷ []) = Some t
only_tree ts = None

-- `:- budget(T)`
abbrev pub budget_of : Tree → Item
budget_of (integer (pos n)) = item_if (nat_le 1 n && nat_le n max_inferences) (set_budget n)
budget_of t = other_item

-- `?- T`
abbrev pub query_of : Tree → List (List ℕ × ℕ) → Item
query_of t ns = item_if (is_callable t) (goal_item (goal_of t ns))

-- `:- commit_unless(T)`
abbrev pub condition_of : Tree → List (List ℕ × ℕ) → Item
condition_of t ns = item_if (is_callable t) (end_item (unless (goal_of t ns)))

-- `:- F(T)`
abbrev pub directive_by_name : Bool → Bool → Tree → List (List ℕ × ℕ) → Item
directive_by_name true b t ns = budget_of t
directive_by_name false true t ns = condition_of t ns
directive_by_name false false t ns = other_item

-- `:- T`
abbrev pub directive_item : Tree → List (List ℕ × ℕ) → Item
directive_item (atom f) ns = item_if (bytes_eq (codes "abort") f) (end_item abort)
directive_item (compound f (tree t no_trees)) ns =
    directive_by_name (bytes_eq (codes "budget") f) (bytes_eq (codes "commit_unless") f) t ns
directive_item t ns = other_item

-- a prefix operator and its operand: `?- T`, `:- T` or another one
abbrev pub item_by_name : Bool → Bool → Tree → List (List ℕ × ℕ) → Item
item_by_name true b t ns = query_of t ns
item_by_name false true t ns = directive_item t ns
item_by_name false false t ns = other_item

-- a clause of this term and these names
abbrev pub item_of : Tree → List (List ℕ × ℕ) → Item
item_of (compound f (tree t no_trees)) ns =
    item_by_name (bytes_eq (codes "?-") f) (bytes_eq (codes ":-") f) t ns
item_of t ns = other_item

-- a clause
abbrev pub item : ReadClause → Item
item w = item_of w.term w.names

-- what stands of a script: no clause, a budget and goals behind which more may come, or a whole
-- script
pub data Draft : Type 0 where
  no_clauses : Draft
  goals_so_far : ℕ → List Goal → Draft
  complete_script : Script → Draft

-- a budget, goals and an end
abbrev pub script : ℕ → List Goal → Last → Script
script n gs l = record { budget = n; goals = gs; last = l }

-- one item more behind a budget and goals
abbrev pub add_behind_goals : ℕ → List Goal → Item → Option Draft
add_behind_goals n gs (goal_item g) = Some (goals_so_far n (gs ++ g ∷ []))
add_behind_goals n gs (end_item l) = Some (complete_script (script n gs l))
add_behind_goals n gs (set_budget m) = None
add_behind_goals n gs other_item = None

-- the first item
abbrev pub add_first : Item → Option Draft
add_first (set_budget n) = Some (goals_so_far n [])
add_first i = add_behind_goals default_inferences [] i

-- one item more
abbrev pub add_item : Draft → Item → Option Draft
add_item no_clauses i = add_first i
add_item (goals_so_far n gs) i = add_behind_goals n gs i
add_item (complete_script s) i = None

-- the script of which this stands
abbrev pub script_from : Draft → Script
script_from no_clauses = script default_inferences [] commit
script_from (goals_so_far n gs) = script n gs commit
script_from (complete_script s) = s

-- the script, or the first clause that can't be added
abbrev pub run_clauses : Draft → List ReadClause → Result Script ReadClause
run_clauses d [] = Ok (script_from d)
run_clauses d (w ∷ ws) = elim (add_item d (item w)) [ Some d' ↦ run_clauses d' ws | None ↦ Err w ]
