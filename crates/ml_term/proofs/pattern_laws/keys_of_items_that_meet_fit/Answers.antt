use Rattle.std.proofs.Common.{[], ◌∷◌}
use Rattle.ml_term.specs.Codes.{bits, byte_bits}
use Rattle.ml_term.specs.CanonicalBytes.{bytes_of}
use Rattle.ml_term.proofs.UnifierIsOne.{unified_exactly}
use Rattle.ml_term.proofs.RenamedTerms.{instance_of_unified}
use Rattle.ml_term.proofs.FittingKeys.{key_fits}
use Rattle.ml_term.proofs.pattern_laws.keys_of_items_that_meet_fit.Goals as goal

pub returns-clause-instance : goal.returns-clause-instance
returns-clause-instance c = key_fits

pub returns-clause-clause : goal.returns-clause-clause
returns-clause-clause c = λ keys pattern head next number h k e. key_fits keys pattern head (bits 64 number) h k (instance_of_unified next pattern head e)

pub returns-clause-tuple : goal.returns-clause-tuple
returns-clause-tuple c = λ keys pattern t h k e. let s = (unified_exactly ((pattern, t) ∷ [])).0 e in
    key_fits keys pattern t (byte_bits (bytes_of t)) h k (s.0, (s.0, s.1.0))
