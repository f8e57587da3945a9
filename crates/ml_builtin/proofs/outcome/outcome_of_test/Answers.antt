-- A test carries all trees as they are.
use Rattle.std.proofs.Common.{refl, sym, subst}
use Rattle.ml_heap.specs.Changes.{variable_count}
use Rattle.ml_heap.proofs.CarriedTrees.{carries_stay}
use Rattle.ml_search.specs.Builtins.{test_result}
use Rattle.ml_builtin.specs.declared.outcome.Outcome.TheVariants.{Succeeded}
use Rattle.ml_builtin.specs.Outcomes.{Agrees}
use Rattle.ml_builtin.proofs.outcome.outcome_of_test.Goals as goal

pub returns-then-holds : goal.returns-then-holds
returns-then-holds c h = subst (λ b. Agrees h h (test_result b (variable_count h)) Succeeded) (sym c.if-holds.true) (carries_stay h, refl)
