use Rattle.std.proofs.Common.{refl}
use Rattle.ml_term.proofs.worked_rows.codes_of_terms.Goals as goal

pub returns-clause-variable : goal.returns-clause-variable
returns-clause-variable c n = refl

pub returns-clause-zero : goal.returns-clause-zero
returns-clause-zero c = refl

pub returns-clause-one : goal.returns-clause-one
returns-clause-one c = refl

pub returns-clause-minus_one : goal.returns-clause-minus_one
returns-clause-minus_one c = refl

pub returns-clause-smallest : goal.returns-clause-smallest
returns-clause-smallest c = refl

pub returns-clause-a : goal.returns-clause-a
returns-clause-a c = refl

pub returns-clause-nil : goal.returns-clause-nil
returns-clause-nil c = refl

pub returns-clause-compound : goal.returns-clause-compound
returns-clause-compound c n = refl

pub returns-clause-departments : goal.returns-clause-departments
returns-clause-departments c = refl
