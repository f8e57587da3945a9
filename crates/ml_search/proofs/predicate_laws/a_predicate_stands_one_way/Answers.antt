use Rattle.ml_search.proofs.Standings.{plain_goal, store_goal, declared_goal, program_goal, nothing_goal, standing_is, unknown_stands}
use Rattle.ml_search.proofs.predicate_laws.a_predicate_stands_one_way.Goals as goal

pub returns-clause-plain : goal.returns-clause-plain
returns-clause-plain c = plain_goal

pub returns-clause-store : goal.returns-clause-store
returns-clause-store c = store_goal

pub returns-clause-declared : goal.returns-clause-declared
returns-clause-declared c = declared_goal

pub returns-clause-program : goal.returns-clause-program
returns-clause-program c = program_goal

pub returns-clause-nothing : goal.returns-clause-nothing
returns-clause-nothing c = nothing_goal

pub returns-clause-tables : goal.returns-clause-tables
returns-clause-tables c = standing_is

pub returns-clause-unknown : goal.returns-clause-unknown
returns-clause-unknown c = unknown_stands
