use Rattle.ml_term.specs.CanonicalBytes.{bytes_of}
use Rattle.ml_term.proofs.CanonicalOrder.{settled_bytes}
use Rattle.ml_term.proofs.KeysTellTuples.{bytes_tell, parted_settled}
use Rattle.ml_term.proofs.key_laws.canonical_bytes_tell_terms.Goals as goal

pub returns-clause-term : goal.returns-clause-term
returns-clause-term c t u xs ys p q e = bytes_tell t u p q (parted_settled (bytes_of t) (bytes_of u) xs ys (settled_bytes t u) e).0

pub returns-clause-rest : goal.returns-clause-rest
returns-clause-rest c t u xs ys e = (parted_settled (bytes_of t) (bytes_of u) xs ys (settled_bytes t u) e).1
