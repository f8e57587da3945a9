use Rattle.ml_term.proofs.GroundTerms.{takes_tuple, takes_twice, takes_no_two}
use Rattle.ml_term.proofs.pattern_laws.matching_a_tuple.Goals as goal

pub returns-clause-different : goal.returns-clause-different
returns-clause-different c = takes_tuple

pub returns-clause-twice : goal.returns-clause-twice
returns-clause-twice c = takes_twice

pub returns-clause-no_two : goal.returns-clause-no_two
returns-clause-no_two c = takes_no_two
