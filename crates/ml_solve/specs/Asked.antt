-- What comes of the search of a goal for its first answer. The code stops there; here the search
-- over plain lists is whole.
use Rattle.std.specs.Prelude.{◌≡◌, ℕ, true, List, [], ◌∷◌, Option, Some, None}
use Rattle.ml_term.specs.Tree.{Tree}
use Rattle.ml_term.specs.Seen.{seen}
use Rattle.ml_search.specs.Changes.{Lists}
use Rattle.ml_search.specs.Db.{Db, is_committed, is_db}
use Rattle.ml_search.specs.Operations.{Log}
use Rattle.ml_search.specs.Program.{Program, Goal}
use Rattle.ml_search.specs.Replay.{Replays}
use Rattle.ml_search.specs.Search.{Outcome}
use Rattle.ml_search.specs.Session.{error_of_end, goal_search}
use Rattle.ml_asking.specs.Leads.{lists_by_log}
use Rattle.ml_solve.specs.declared.found.Found.{Found}
use Rattle.ml_solve.specs.declared.found.Found.TheVariants.{Yes, No, Raised}

-- a search has a first answer
pub record HasAnswer (o : Outcome) : Type 0 where
  pub first : List Tree
  pub others : List (List Tree)
  pub found_are : o.found ≡ first ∷ others

-- A search has no answer, and raised this term or none. So many inferences are left, and it leaves
-- these lists with these changes.
pub record HasNone (o : Outcome) (raised : Option Tree) (rest : ℕ) (after : Lists) : Type 0 where
  pub found_none : o.found ≡ []
  pub raised_is : error_of_end o.end ≡ raised
  pub left_is : rest ≡ o.left
  pub lists_are : o.lists ≡ after

-- whether a search has an answer
abbrev pub FindsAs : Outcome → ℕ → Lists → Found → Type 0
FindsAs o rest after Yes = HasAnswer o
FindsAs o rest after No = HasNone o None rest after
FindsAs o rest after (Raised t) = HasNone o (Some (seen t)) rest after

-- Whatever lists without uncommitted items give the replies of the log `k`: the search of a goal
-- over them, as the log `l` changed them, with its changes and so many inferences left, has an
-- answer or none, and where it has none, what it leaves is what the log `k` tells of.
abbrev pub IsFound : Program → Goal → Log → Log → ℕ → ℕ → Found → Type 0
IsFound program g l k left rest found =
    (db : Db) → is_db program.decls db ≡ true → is_committed db ≡ true →
    Replays program.decls db k →
    FindsAs (goal_search program g (lists_by_log program.decls db l) left) rest
    (lists_by_log program.decls db k) found
