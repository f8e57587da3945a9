-- The first fault that the checks of a built-in find, as a term that is kept small.
use Rattle.std.specs.Prelude.{◌≡◌, ℕ, ◌+◌, ◌==◌, ◌&&◌, not, nat_lt, ◌∷◌, [], codes, IsTrue}
use Rattle.std.specs.Prelude.{Option, Some, None}
use Rattle.ml_term.specs.Tree.{Tree}
use Rattle.ml_term.specs.Limits.{max_arguments}
use Rattle.ml_term.specs.Seen.{seen}
use Rattle.ml_term.specs.Valid.{is_valid}
use Rattle.ml_term.specs.declared.term.Term.{Term}
use Rattle.ml_search.specs.Errors.{kept_small, first_fault, instantiation_error, type_error}
use Rattle.ml_search.specs.Errors.{arity_error}
use Rattle.ml_search.specs.TypeTests.{is_variable, is_compound, is_atom}

-- whether a term is the one that is raised for the first fault, or there is neither
abbrev pub IsFault : Option Tree → Option Term → Type 0
IsFault None None = Unit {0}
IsFault (Some t) (Some u) = (seen u ≡ kept_small t) × IsTrue (is_valid (seen u))
IsFault t u = ⊥

-- the checks of the first of n elements
abbrev pub head_fault : Tree → ℕ → Option Tree
head_fault h n =
    first_fault
    ((is_variable h, instantiation_error)
    ∷ ((n == 1) && is_compound h, type_error (codes "atomic") h)
    ∷ (nat_lt 1 n && not (is_atom h), type_error (codes "atom") h)
    ∷ (nat_lt (max_arguments + 1) n, arity_error)
    ∷ [])
