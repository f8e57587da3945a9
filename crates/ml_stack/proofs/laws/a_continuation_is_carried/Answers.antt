use Rattle.ml_stack.proofs.Carried.{continues_carried, runs_carried, tree_follows, trees_follow}
use Rattle.ml_stack.proofs.CarriedPlainly.{continues_plainly}
use Rattle.ml_stack.proofs.ChoicePoints.{stacked_grows}
use Rattle.ml_stack.proofs.laws.a_continuation_is_carried.Goals as goal

pub returns-clause-continues : goal.returns-clause-continues
returns-clause-continues c = λ ps M N u w n l gs g k. continues_carried M N u g ps k

pub returns-clause-runs : goal.returns-clause-runs
returns-clause-runs c = λ ps M N u w n a gs g k. runs_carried M N u g ps k

pub returns-clause-tree : goal.returns-clause-tree
returns-clause-tree c = λ M N u r t g i. tree_follows M N u g r t i

pub returns-clause-trees : goal.returns-clause-trees
returns-clause-trees c = λ M N u rs ts g i. trees_follow M N u g rs ts i

pub returns-clause-plainly : goal.returns-clause-plainly
returns-clause-plainly c = λ ps M N w n l gs g k. continues_plainly M N g ps k

pub returns-clause-stacked : goal.returns-clause-stacked
returns-clause-stacked c = λ ps M N u w g s. stacked_grows ps M N u w g s
