use Rattle.ml_asking.proofs.TurnRows.{answer_turns, findall_turns, findall_refused, finish_turns, gathered_alike, gathered_unlike, exhausts, caught_so, not_caught, out_of_findall, out_of_all}
use Rattle.ml_asking.proofs.turns.turns_by_ends.Goals as goal

pub returns-clause-answers : goal.returns-clause-answers
returns-clause-answers c = answer_turns

pub returns-clause-findall_begins : goal.returns-clause-findall_begins
returns-clause-findall_begins c = findall_turns

pub returns-clause-findall_refused : goal.returns-clause-findall_refused
returns-clause-findall_refused c = findall_refused

pub returns-clause-finishes : goal.returns-clause-finishes
returns-clause-finishes c = finish_turns

pub returns-clause-findall_ends : goal.returns-clause-findall_ends
returns-clause-findall_ends c = gathered_alike

pub returns-clause-findall_unlike : goal.returns-clause-findall_unlike
returns-clause-findall_unlike c = gathered_unlike

pub returns-clause-exhausts : goal.returns-clause-exhausts
returns-clause-exhausts c = exhausts

pub returns-clause-ball_caught : goal.returns-clause-ball_caught
returns-clause-ball_caught c = caught_so

pub returns-clause-ball_not_caught : goal.returns-clause-ball_not_caught
returns-clause-ball_not_caught c = not_caught

pub returns-clause-ball_out_of_findall : goal.returns-clause-ball_out_of_findall
returns-clause-ball_out_of_findall c = out_of_findall

pub returns-clause-ball_out : goal.returns-clause-ball_out
returns-clause-ball_out c = out_of_all
