use Rattle.std.proofs.Common.{refl}
use Rattle.ml_split.specs.Rows.{small_numbers}
use Rattle.ml_split.proofs.rows.split_of_clauses.Goals as goal

pub returns-clause-prefix : goal.returns-clause-prefix
returns-clause-prefix c = record { bits = small_numbers 57; new_is = refl; goes = refl }

pub returns-clause-moved : goal.returns-clause-moved
returns-clause-moved c = refl
