use Rattle.std.proofs.Common.{refl, true, [], ◌∷◌, ◌++◌}
use Rattle.ml_split.specs.Rows.{small_numbers}
use Rattle.ml_split.proofs.rows.second_split.Goals as goal

pub returns-clause-prefix : goal.returns-clause-prefix
returns-clause-prefix c = record { bits = small_numbers 55 ++ true ∷ []; new_is = refl; goes = refl }

pub returns-clause-moved : goal.returns-clause-moved
returns-clause-moved c = refl
