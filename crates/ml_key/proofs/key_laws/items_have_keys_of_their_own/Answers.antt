use Rattle.ml_key.proofs.BitBeginnings.{tuples_differ, clauses_differ}
use Rattle.ml_key.proofs.key_laws.items_have_keys_of_their_own.Goals as goal

pub returns-clause-tuples : goal.returns-clause-tuples
returns-clause-tuples c = tuples_differ c.args.kind

pub returns-clause-clauses : goal.returns-clause-clauses
returns-clause-clauses c = clauses_differ c.args.kind
