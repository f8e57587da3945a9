use Rattle.ml_asking.proofs.TurnRows.{truth_turns, failure_turns, both_turns, either_turns, choose_turns, only_if_turns, cutting_turns, cut_turns, caught_turns, same_turns, unlike_turns}
use Rattle.ml_asking.proofs.turns.turns_by_control.Goals as goal

pub returns-clause-true_goal : goal.returns-clause-true_goal
returns-clause-true_goal c = truth_turns

pub returns-clause-fail_goal : goal.returns-clause-fail_goal
returns-clause-fail_goal c = failure_turns

pub returns-clause-conjunction : goal.returns-clause-conjunction
returns-clause-conjunction c = both_turns

pub returns-clause-disjunction : goal.returns-clause-disjunction
returns-clause-disjunction c = either_turns

pub returns-clause-if_then_else : goal.returns-clause-if_then_else
returns-clause-if_then_else c = choose_turns

pub returns-clause-if_then : goal.returns-clause-if_then
returns-clause-if_then c = only_if_turns

pub returns-clause-cut : goal.returns-clause-cut
returns-clause-cut c = cutting_turns

pub returns-clause-cut_to : goal.returns-clause-cut_to
returns-clause-cut_to c = cut_turns

pub returns-clause-catch_mark : goal.returns-clause-catch_mark
returns-clause-catch_mark c = caught_turns

pub returns-clause-unify : goal.returns-clause-unify
returns-clause-unify c = same_turns

pub returns-clause-unlike : goal.returns-clause-unlike
returns-clause-unlike c = unlike_turns
