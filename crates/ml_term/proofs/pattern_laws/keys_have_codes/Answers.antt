use Rattle.ml_term.proofs.FittingKeys.{length_of_code, length_of_key_head, code_found}
use Rattle.ml_term.proofs.BitPlaces.{bit_of_key}
use Rattle.ml_term.proofs.pattern_laws.keys_have_codes.Goals as goal

pub returns-clause-length : goal.returns-clause-length
returns-clause-length c = length_of_code

pub returns-clause-head : goal.returns-clause-head
returns-clause-head c = length_of_key_head

pub returns-clause-found : goal.returns-clause-found
returns-clause-found c = code_found

pub returns-clause-places : goal.returns-clause-places
returns-clause-places c = bit_of_key
