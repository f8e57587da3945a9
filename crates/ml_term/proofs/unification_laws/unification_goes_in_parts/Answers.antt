use Rattle.ml_term.proofs.UnificationRules.{solved_from, mgu_in_parts, solved_in_parts}
use Rattle.ml_term.proofs.unification_laws.unification_goes_in_parts.Goals as goal

pub returns-clause-from : goal.returns-clause-from
returns-clause-from c = solved_from

pub returns-clause-parts : goal.returns-clause-parts
returns-clause-parts c = mgu_in_parts

pub returns-clause-parts_from : goal.returns-clause-parts_from
returns-clause-parts_from c = solved_in_parts
