use Rattle.ml_round_trip.proofs.text_laws.a_term_is_read_from_its_text.Goals as goal
use Rattle.ml_round_trip.proofs.TextsReadBack.{cut_whole, read_again, read_within_limits, read_only_so, one_depth_of_text}

pub returns-clause-tokens : goal.returns-clause-tokens
returns-clause-tokens c = cut_whole

pub returns-clause-grammar : goal.returns-clause-grammar
returns-clause-grammar c = read_again

pub returns-clause-read : goal.returns-clause-read
returns-clause-read c = read_within_limits

pub returns-clause-only : goal.returns-clause-only
returns-clause-only c = λ t clauses valid small. read_only_so t valid small clauses

pub returns-clause-levels : goal.returns-clause-levels
returns-clause-levels c = λ t tokens clauses valid small. one_depth_of_text t valid small tokens clauses
