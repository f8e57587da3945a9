-- Whether a built-in did on the heap what the definitions say of the terms. The code has cells and
-- bindings; the definition has trees and a map.
use Rattle.std.specs.Prelude.{◌≡◌, ℕ, Option, Some, None, IsTrue}
use Rattle.ml_term.specs.Seen.{seen}
use Rattle.ml_term.specs.Valid.{is_valid}
use Rattle.ml_heap.specs.Changes.{Changes, variable_count}
use Rattle.ml_heap.specs.Carries.{Carries}
use Rattle.ml_search.specs.Builtins.{BuiltinResult, fails, binds, raises}
use Rattle.ml_builtin.specs.declared.outcome.Outcome.{Outcome}
use Rattle.ml_builtin.specs.declared.outcome.Outcome.TheVariants.{Failed, Succeeded, Raised}

-- Whether an outcome is a result of the definition: it fails where the definition does; it succeeds
-- where that binds, and the heap carries its trees by the map and has the next number of a
-- variable; or it raises the definition's term, and the heap is as it was.
abbrev pub Agrees : Changes → Changes → BuiltinResult → Outcome → Type 0
Agrees h h' fails Failed = Unit {0}
Agrees h h' (binds m next) Succeeded = Carries h h' m × (variable_count h' ≡ next)
Agrees h h' (raises t) (Raised u) = (h' ≡ h) × (seen u ≡ t) × IsTrue (is_valid (seen u))
Agrees h h' r o = ⊥

-- Whether an outcome is that of a built-in, if there is one, where the next variable has the number
-- that the heap counts.
abbrev pub DoesBuiltin : Changes → Changes → Option (ℕ → BuiltinResult) → Outcome → Type 0
DoesBuiltin h h' None o = ⊥
DoesBuiltin h h' (Some d) o = Agrees h h' (d (variable_count h)) o
