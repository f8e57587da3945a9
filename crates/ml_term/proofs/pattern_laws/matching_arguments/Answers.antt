use Rattle.ml_term.proofs.EqualEquations.{same}
use Rattle.ml_term.proofs.GroundTerms.{arguments_solved, takes_ground, unequal_ground}
use Rattle.ml_term.proofs.pattern_laws.matching_arguments.Goals as goal

pub returns-clause-compounds : goal.returns-clause-compounds
returns-clause-compounds c = arguments_solved

pub returns-clause-takes : goal.returns-clause-takes
returns-clause-takes c = takes_ground

pub returns-clause-equal : goal.returns-clause-equal
returns-clause-equal c = same

pub returns-clause-unequal : goal.returns-clause-unequal
returns-clause-unequal c = unequal_ground
