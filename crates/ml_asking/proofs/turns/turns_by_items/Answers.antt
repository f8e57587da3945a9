use Rattle.ml_asking.proofs.TurnRows.{opens_turns, too_large_turns, retract_turns, fetch_turns, tuple_given, clause_given, retracted_given, unlike_given, spend_turns, spend_exhausted, insert_turns, delete_turns, assert_first_turns, assert_last_turns, take_turns, changed_so, unchanged_so, full_so}
use Rattle.ml_asking.proofs.turns.turns_by_items.Goals as goal

pub returns-clause-opens : goal.returns-clause-opens
returns-clause-opens c = opens_turns

pub returns-clause-too_large : goal.returns-clause-too_large
returns-clause-too_large c = too_large_turns

pub returns-clause-retracts : goal.returns-clause-retracts
returns-clause-retracts c = retract_turns

pub returns-clause-fetches : goal.returns-clause-fetches
returns-clause-fetches c = fetch_turns

pub returns-clause-tuple : goal.returns-clause-tuple
returns-clause-tuple c = tuple_given

pub returns-clause-stored_clause : goal.returns-clause-stored_clause
returns-clause-stored_clause c = clause_given

pub returns-clause-clause_to_retract : goal.returns-clause-clause_to_retract
returns-clause-clause_to_retract c = retracted_given

pub returns-clause-no_match : goal.returns-clause-no_match
returns-clause-no_match c = unlike_given

pub returns-clause-spends : goal.returns-clause-spends
returns-clause-spends c = spend_turns

pub returns-clause-spends_exhausted : goal.returns-clause-spends_exhausted
returns-clause-spends_exhausted c = spend_exhausted

pub returns-clause-inserts : goal.returns-clause-inserts
returns-clause-inserts c = insert_turns

pub returns-clause-deletes : goal.returns-clause-deletes
returns-clause-deletes c = delete_turns

pub returns-clause-asserts_first : goal.returns-clause-asserts_first
returns-clause-asserts_first c = assert_first_turns

pub returns-clause-asserts_last : goal.returns-clause-asserts_last
returns-clause-asserts_last c = assert_last_turns

pub returns-clause-takes_out : goal.returns-clause-takes_out
returns-clause-takes_out c = take_turns

pub returns-clause-change_made : goal.returns-clause-change_made
returns-clause-change_made c = changed_so

pub returns-clause-no_change : goal.returns-clause-no_change
returns-clause-no_change c = unchanged_so

pub returns-clause-change_limit : goal.returns-clause-change_limit
returns-clause-change_limit c = full_so
