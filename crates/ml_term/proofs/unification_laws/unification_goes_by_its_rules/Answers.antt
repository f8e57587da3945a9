use Rattle.ml_term.proofs.UnificationRules.{solved_none_left, solved_step}
use Rattle.ml_term.proofs.UnificationEnds.{next_falls}
use Rattle.ml_term.proofs.EqualEquations.{same}
use Rattle.ml_term.proofs.unification_laws.unification_goes_by_its_rules.Goals as goal

pub returns-clause-nothing_left : goal.returns-clause-nothing_left
returns-clause-nothing_left c = solved_none_left

pub returns-clause-first_equation : goal.returns-clause-first_equation
returns-clause-first_equation c = solved_step

pub returns-clause-falls : goal.returns-clause-falls
returns-clause-falls c = next_falls

pub returns-clause-equal_sides : goal.returns-clause-equal_sides
returns-clause-equal_sides c = same
