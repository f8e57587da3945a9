use Rattle.std.proofs.Common.{sym, ap}
use Rattle.ml_bits.proofs.PackedBits.{length_held}
use Rattle.ml_bits.proofs.bit_list.Bits.len.Goals as goal

pub returns-clause-length : goal.returns-clause-length
returns-clause-length c = sym (length_held _ _ _ c.self.invariant.packed (ap (λ v. v.bits) c.self.view_is))
