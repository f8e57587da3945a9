-- What goals of the built-ins that change lists come to. The code gives a term, an operation or
-- cells; the search gives a procedure, whose terms are trees.
use Rattle.std.specs.Prelude.{◌≡◌, ◌<◌, ℕ, Bool, true, false, IsTrue}
use Rattle.ml_heap.specs.Changes.{Changes, cell_count, stands_for}
use Rattle.ml_search.specs.Actions.{Procedure, retract_clause, raise_error, insert_tuple}
use Rattle.ml_search.specs.Actions.{delete_tuple, assert_first, assert_last}
use Rattle.ml_search.specs.Errors.{kept_small}
use Rattle.ml_search.specs.declared.operation.Op.{Op}
use Rattle.ml_search.specs.declared.operation.Op.TheVariants.{Insert, Delete, Assertz, Asserta}
use Rattle.ml_term.specs.Seen.{seen}
use Rattle.ml_term.specs.Tree.{Tree}
use Rattle.ml_term.specs.Valid.{is_valid}
use Rattle.ml_term.specs.declared.term.Term.{Term}
use Rattle.ml_store_goals.specs.declared.goal.StoreGoal.{StoreGoal}
use Rattle.ml_store_goals.specs.declared.goal.StoreGoal.TheVariants.{Raise, Change, Retract}

-- a procedure raises a term, which is the given one once both are kept small, as what is raised is
pub record RaisesTerm (procedure : Procedure) (error : Term) : Type 0 where
  pub term : Tree
  pub is : procedure ≡ raise_error term
  pub same : kept_small term ≡ kept_small (seen error)
  pub valid : IsTrue (is_valid (seen error))

-- a procedure asks a change, and it fails where no list changes if one must change: only a tuple
-- that is taken out must have been there
abbrev pub AsksChange : Procedure → Op → Bool → Type 0
AsksChange procedure (Insert t) must =
    (procedure ≡ insert_tuple (seen t)) × (must ≡ false) × IsTrue (is_valid (seen t))
AsksChange procedure (Delete t) must =
    (procedure ≡ delete_tuple (seen t)) × (must ≡ true) × IsTrue (is_valid (seen t))
AsksChange procedure (Asserta t) must =
    (procedure ≡ assert_first (seen t)) × (must ≡ false) × IsTrue (is_valid (seen t))
AsksChange procedure (Assertz t) must =
    (procedure ≡ assert_last (seen t)) × (must ≡ false) × IsTrue (is_valid (seen t))
AsksChange procedure op must = ⊥

-- a procedure takes clauses out of a list, where the cells of a heap stand for the head and for the
-- body that is wanted
pub record TakesClauses (h : Changes) (procedure : Procedure) (list : ℕ) (pattern : Term)
    (head body : ℕ) : Type 0 where
  pub is : procedure ≡ retract_clause list (seen pattern) (stands_for h body)
  pub head_is : stands_for h head ≡ seen pattern
  pub head_inside : head < cell_count h
  pub body_inside : body < cell_count h
  pub valid : IsTrue (is_valid (seen pattern))

-- whether a procedure is what a goal comes to over a heap
abbrev pub IsStoreGoal : Changes → Procedure → StoreGoal → Type 0
IsStoreGoal h procedure (Raise error) = RaisesTerm procedure error
IsStoreGoal h procedure (Change op must) = AsksChange procedure op must
IsStoreGoal h procedure (Retract list pattern head body) =
    TakesClauses h procedure list pattern head body
