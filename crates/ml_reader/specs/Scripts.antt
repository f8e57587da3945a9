-- Which clauses a script is, and the first of them that no script has there. Each rule says what
-- the clauses begin with. The code goes over them once, and keeps what stands of the script so far.
use Rattle.std.specs.Prelude.{pos, ◌≡◌, ℕ, ◌≤◌, IsTrue, List, [], ◌∷◌, ◌++◌, codes}
use Rattle.ml_term.specs.Tree.{Tree, integer, atom, compound_1}
use Rattle.ml_search.specs.Bodies.{is_callable}
use Rattle.ml_search.specs.Program.{Goal, Last, commit, abort, unless, Script}
use Rattle.ml_reader.specs.Lexemes.{ReadClause}
use Rattle.ml_search.specs.Limits.{max_inferences, default_inferences}

-- `:- T`
abbrev pub directive_term : Tree → Tree
directive_term t = compound_1 (codes ":-") t

-- `?- T`
abbrev pub query_term : Tree → Tree
query_term t = compound_1 (codes "?-") t

-- the clause is `:- budget(N).` with N from 1 to 200,000
pub record IsBudget (w : ReadClause) (n : ℕ) : Type 0 where
  pub term : w.term ≡ directive_term (compound_1 (codes "budget") (integer (pos n)))
  pub some : 1 ≤ n
  pub few : n ≤ max_inferences

-- the clause is `?- GOAL.` with a callable goal, whose variables have the clause's names
pub record IsQuery (w : ReadClause) (g : Goal) : Type 0 where
  pub term : w.term ≡ query_term g.term
  pub names : g.names ≡ w.names
  pub callable : IsTrue (is_callable g.term)

-- the clause is `:- abort.`
pub record IsAbort (w : ReadClause) : Type 0 where
  pub term : w.term ≡ directive_term (atom (codes "abort"))

-- the clause is `:- commit_unless(GOAL).` with a callable goal, whose variables have the clause's
-- names
pub record IsCondition (w : ReadClause) (g : Goal) : Type 0 where
  pub term : w.term ≡ directive_term (compound_1 (codes "commit_unless") g.term)
  pub names : g.names ≡ w.names
  pub callable : IsTrue (is_callable g.term)

-- how a script ends: with no clause it commits, and with one it aborts or commits unless a goal has
-- an answer
pub data IsEnd : List ReadClause → Last → Type 0 where
  no_end : IsEnd [] commit
  an_abort : {w : ReadClause} → IsAbort w → IsEnd (w ∷ []) abort
  a_condition : {w : ReadClause} {g : Goal} → IsCondition w g → IsEnd (w ∷ []) (unless g)

-- any number of goals, and such an end
pub data AreGoals : List ReadClause → List Goal → Last → Type 0 where
  no_goal : {cs : List ReadClause} {l : Last} → IsEnd cs l → AreGoals cs [] l
  a_goal : {w : ReadClause} {cs : List ReadClause} {g : Goal} {gs : List Goal} {l : Last}
      → IsQuery w g → AreGoals cs gs l → AreGoals (w ∷ cs) (g ∷ gs) l

-- the clauses are this script: at most one budget, and such goals and such an end. Where no budget
-- stands it is 20,000
pub data IsScriptOf : List ReadClause → Script → Type 0 where
  no_budget : {cs : List ReadClause} {gs : List Goal} {l : Last} → AreGoals cs gs l
      → IsScriptOf cs (record { budget = default_inferences; goals = gs; last = l })
  a_budget : {w : ReadClause} {n : ℕ} {cs : List ReadClause} {gs : List Goal} {l : Last}
      → IsBudget w n → AreGoals cs gs l
      → IsScriptOf (w ∷ cs) (record { budget = n; goals = gs; last = l })

-- some script begins with the clauses
abbrev pub BeginsScript : List ReadClause → Type 0
BeginsScript cs = (ds : List ReadClause) × (s : Script) × IsScriptOf (cs ++ ds) s

-- the first of the clauses with which no script goes on
pub record IsFirstWrong (cs : List ReadClause) (w : ReadClause) : Type 0 where
  pub before : List ReadClause
  pub behind : List ReadClause
  pub parts : cs ≡ before ++ (w ∷ behind)
  pub begins : BeginsScript before
  pub stops : BeginsScript (before ++ (w ∷ [])) → ⊥
