use Rattle.ml_key.proofs.KeyParts.{most_key_bits}
use Rattle.ml_key.proofs.key_laws.keys_have_at_most_33280_bits.Goals as goal

pub returns : goal.returns
returns c = most_key_bits
