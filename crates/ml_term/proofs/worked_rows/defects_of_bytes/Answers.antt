use Rattle.std.proofs.Common.{refl}
use Rattle.ml_term.specs.FirstDefect.{node_at, defect_from, first_defect}
use Rattle.ml_term.proofs.worked_rows.defects_of_bytes.Goals as goal

pub returns-clause-sound : goal.returns-clause-sound
unfolding node_at defect_from first_defect
returns-clause-sound c = refl

pub returns-clause-cut : goal.returns-clause-cut
unfolding node_at defect_from first_defect
returns-clause-cut c = refl

pub returns-clause-tag : goal.returns-clause-tag
unfolding node_at defect_from first_defect
returns-clause-tag c = refl

pub returns-clause-skips : goal.returns-clause-skips
unfolding node_at defect_from first_defect
returns-clause-skips c = refl

pub returns-clause-large : goal.returns-clause-large
unfolding node_at defect_from first_defect
returns-clause-large c = refl

pub returns-clause-name : goal.returns-clause-name
unfolding node_at defect_from first_defect
returns-clause-name c = refl

pub returns-clause-arity : goal.returns-clause-arity
unfolding node_at defect_from first_defect
returns-clause-arity c = refl
