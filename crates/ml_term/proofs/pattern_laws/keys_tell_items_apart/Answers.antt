use Rattle.ml_term.proofs.KeysApart.{tuples_apart, clauses_apart, read_alike}
use Rattle.ml_term.proofs.pattern_laws.keys_tell_items_apart.Goals as goal

pub returns-clause-tuples : goal.returns-clause-tuples
returns-clause-tuples c = tuples_apart

pub returns-clause-clauses : goal.returns-clause-clauses
returns-clause-clauses c = clauses_apart

pub returns-clause-bytes : goal.returns-clause-bytes
returns-clause-bytes c = read_alike
