use Rattle.ml_term.proofs.UnifierIsOne.{is_most_general, none_left_in_terms}
use Rattle.ml_term.proofs.unification_laws.unification_replaces_variables.Goals as goal

pub returns-clause-once : goal.returns-clause-once
returns-clause-once c = λ es m e. (is_most_general es m e).once

pub returns-clause-gone : goal.returns-clause-gone
returns-clause-gone c = none_left_in_terms

pub returns-clause-of_them : goal.returns-clause-of_them
returns-clause-of_them c = λ es m n e. (is_most_general es m e).of_them n

pub returns-clause-no_others : goal.returns-clause-no_others
returns-clause-no_others c = λ es m n k e. (is_most_general es m e).kept n k

pub returns-clause-older : goal.returns-clause-older
returns-clause-older c = λ es m n k e. (is_most_general es m e).older n k
