use Rattle.ml_term.proofs.RenamedTerms.{renamed_range, instance_of_unified, unified_of_instance}
use Rattle.ml_term.proofs.unification_laws.unification_with_a_renamed_term.Goals as goal

pub returns-clause-range : goal.returns-clause-range
returns-clause-range c = renamed_range

pub returns-clause-apart : goal.returns-clause-apart
returns-clause-apart c = λ next t u a. (instance_of_unified next t u, unified_of_instance next t u a)

pub returns-clause-anyhow : goal.returns-clause-anyhow
returns-clause-anyhow c = instance_of_unified
