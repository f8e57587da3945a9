use Rattle.ml_search.proofs.LinesInTurn.{in_turn, one_answer_more, no_answer_more}
use Rattle.ml_search.proofs.answer_laws.answers_are_written_in_turn.Goals as goal

pub returns-clause-further : goal.returns-clause-further
returns-clause-further c = in_turn

pub returns-clause-one_more : goal.returns-clause-one_more
returns-clause-one_more c = one_answer_more

pub returns-clause-stops : goal.returns-clause-stops
returns-clause-stops c = no_answer_more
