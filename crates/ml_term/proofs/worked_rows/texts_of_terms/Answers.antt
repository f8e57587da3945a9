use Rattle.std.proofs.Common.{refl}
use Rattle.ml_term.proofs.worked_rows.texts_of_terms.Goals as goal

pub returns-clause-list : goal.returns-clause-list
returns-clause-list c = refl

pub returns-clause-quoted : goal.returns-clause-quoted
returns-clause-quoted c = refl
