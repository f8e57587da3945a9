-- What an evaluation came to.
use Rattle.std.specs.Prelude.{◌≡◌, IsTrue}
use Rattle.ml_term.specs.Seen.{seen}
use Rattle.ml_term.specs.Valid.{is_in_range, is_valid}
use Rattle.ml_search.specs.Errors.{kept_small}
use Rattle.ml_search.specs.Evaluate.{Value, value, no_value}
use Rattle.ml_builtin.specs.declared.arithmetic.Evaluated.{Evaluated}
use Rattle.ml_builtin.specs.declared.arithmetic.Evaluated.TheVariants as evaluated

-- whether an evaluation came to a value, or to the term that is raised in its place
abbrev pub IsEvaluated : Value → Evaluated → Type 0
IsEvaluated (value x) (evaluated.Value y) = (x ≡ y) × IsTrue (is_in_range y)
IsEvaluated (no_value e) (evaluated.Raised t) = (seen t ≡ kept_small e)
    × IsTrue (is_valid (seen t))
IsEvaluated v e = ⊥
