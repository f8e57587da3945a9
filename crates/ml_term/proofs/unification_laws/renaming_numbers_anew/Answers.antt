use Rattle.ml_term.proofs.VariableNumbering.{renamed_counts, renamed_again, numbered_stays, renamed_width, renamed_nodes}
use Rattle.ml_term.proofs.unification_laws.renaming_numbers_anew.Goals as goal

pub returns-clause-counts : goal.returns-clause-counts
returns-clause-counts c = renamed_counts

pub returns-clause-again : goal.returns-clause-again
returns-clause-again c = renamed_again

pub returns-clause-stays : goal.returns-clause-stays
returns-clause-stays c = numbered_stays

pub returns-clause-width : goal.returns-clause-width
returns-clause-width c = renamed_width

pub returns-clause-nodes : goal.returns-clause-nodes
returns-clause-nodes c = renamed_nodes
