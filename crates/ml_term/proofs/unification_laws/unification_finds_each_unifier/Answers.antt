use Rattle.ml_term.proofs.UnifierIsOne.{unified_exactly, terms_unified_exactly}
use Rattle.ml_term.proofs.unification_laws.unification_finds_each_unifier.Goals as goal

pub returns-clause-equations : goal.returns-clause-equations
returns-clause-equations c = unified_exactly

pub returns-clause-terms : goal.returns-clause-terms
returns-clause-terms c = terms_unified_exactly
