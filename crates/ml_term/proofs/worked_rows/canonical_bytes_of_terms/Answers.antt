use Rattle.std.proofs.Common.{refl}
use Rattle.ml_term.proofs.worked_rows.canonical_bytes_of_terms.Goals as goal

pub returns-clause-compound : goal.returns-clause-compound
returns-clause-compound c = refl

pub returns-clause-minus_one : goal.returns-clause-minus_one
returns-clause-minus_one c = refl
