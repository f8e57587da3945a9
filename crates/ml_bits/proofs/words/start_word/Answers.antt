use Rattle.ml_bits.proofs.PackedBits as packed
use Rattle.ml_bits.proofs.words.start_word.Goals as goal

pub returns-clause-held : goal.returns-clause-held
returns-clause-held c = rw c.push_reserved.ensures.items (packed.start_word _ _ _ c.requires.some c.requires.count)
