use Rattle.std.proofs.Common.{◌≡◌, ◌≤◌, ◌*◌, length, take, arith, ◌∙◌, ap, subst}
use Rattle.ml_bits.specs.inside.Packing.{packed_bits, Holds}
use Rattle.ml_bits.proofs.PackedBits as packed
use Rattle.ml_bits.proofs.words.refill.Goals as goal

pub returns-clause-held : goal.returns-clause-held
returns-clause-held c =
    let used : c.args.len ≤ 64 * c.div_ceil-used.result = omega arith in
    let within : c.div_ceil-used.result ≤ length c.args.from.now = omega arith in
    let items : c.extend_from_slice.new.self.items ≡ take c.div_ceil-used.result c.args.from.now = cc (c.in-Ok.ensures.items, c.clear.ensures.items) in
    let bits : packed_bits c.extend_from_slice.new.self.items c.args.len ≡ packed_bits c.args.from.now c.args.len =
    ap (λ ws. packed_bits ws c.args.len) items ∙ packed.packed_bits_take _ _ _ used within in
    subst (Holds c.clear_rest.new.words.items c.args.len) bits c.clear_rest.ensures.held
