use Rattle.ml_asking.proofs.TurnRows.{goal_exhausted, goal_refused, call_turns, once_turns, unless_turns, catch_turns, throw_exhausted, throw_turns, throw_refused, predicate_exhausted, plain_fails, plain_binds, plain_raises, program_turns, unknown_turns, store_refused, no_clause, clash, clause_enters}
use Rattle.ml_asking.proofs.turns.turns_by_calls.Goals as goal

pub returns-clause-goal_exhausted : goal.returns-clause-goal_exhausted
returns-clause-goal_exhausted c = goal_exhausted

pub returns-clause-goal_refused : goal.returns-clause-goal_refused
returns-clause-goal_refused c = goal_refused

pub returns-clause-call : goal.returns-clause-call
returns-clause-call c = call_turns

pub returns-clause-once : goal.returns-clause-once
returns-clause-once c = once_turns

pub returns-clause-not_provable : goal.returns-clause-not_provable
returns-clause-not_provable c = unless_turns

pub returns-clause-catch : goal.returns-clause-catch
returns-clause-catch c = catch_turns

pub returns-clause-throw_exhausted : goal.returns-clause-throw_exhausted
returns-clause-throw_exhausted c = throw_exhausted

pub returns-clause-throw : goal.returns-clause-throw
returns-clause-throw c = throw_turns

pub returns-clause-throw_refused : goal.returns-clause-throw_refused
returns-clause-throw_refused c = throw_refused

pub returns-clause-predicate_exhausted : goal.returns-clause-predicate_exhausted
returns-clause-predicate_exhausted c = predicate_exhausted

pub returns-clause-plain_fails : goal.returns-clause-plain_fails
returns-clause-plain_fails c = plain_fails

pub returns-clause-plain_binds : goal.returns-clause-plain_binds
returns-clause-plain_binds c = plain_binds

pub returns-clause-plain_raises : goal.returns-clause-plain_raises
returns-clause-plain_raises c = plain_raises

pub returns-clause-program : goal.returns-clause-program
returns-clause-program c = program_turns

pub returns-clause-unknown : goal.returns-clause-unknown
returns-clause-unknown c = unknown_turns

pub returns-clause-store_refused : goal.returns-clause-store_refused
returns-clause-store_refused c = store_refused

pub returns-clause-no_clause : goal.returns-clause-no_clause
returns-clause-no_clause c = no_clause

pub returns-clause-clash : goal.returns-clause-clash
returns-clause-clash c = clash

pub returns-clause-clause : goal.returns-clause-clause
returns-clause-clause c = clause_enters
