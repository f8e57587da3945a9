use Rattle.ml_isolation.proofs.NotedFlags.{tuples_told, clauses_told, notes_grow, tuple_notes_same}
use Rattle.ml_isolation.proofs.KnownItems.{old_items, own_items}
use Rattle.ml_isolation.proofs.notes.notes_tell_the_lists.Goals as goal

pub returns-clause-tuples : goal.returns-clause-tuples
returns-clause-tuples c = tuples_told

pub returns-clause-clauses : goal.returns-clause-clauses
returns-clause-clauses c = clauses_told

pub returns-clause-grows : goal.returns-clause-grows
returns-clause-grows c = notes_grow

pub returns-clause-by_log : goal.returns-clause-by_log
returns-clause-by_log c = tuple_notes_same

pub returns-clause-old : goal.returns-clause-old
returns-clause-old c = old_items

pub returns-clause-own : goal.returns-clause-own
returns-clause-own c = own_items
