use Rattle.std.proofs.Common.{refl}
use Rattle.ml_term.proofs.worked_rows.keys_of_pairs.Goals as goal

pub returns-clause-before : goal.returns-clause-before
returns-clause-before c = refl

pub returns-clause-has_one : goal.returns-clause-has_one
returns-clause-has_one c = refl

pub returns-clause-has_zero : goal.returns-clause-has_zero
returns-clause-has_zero c = refl

pub returns-clause-by_both : goal.returns-clause-by_both
returns-clause-by_both c = refl

pub returns-clause-by_first : goal.returns-clause-by_first
returns-clause-by_first c = refl

pub returns-clause-by_second : goal.returns-clause-by_second
returns-clause-by_second c = refl
