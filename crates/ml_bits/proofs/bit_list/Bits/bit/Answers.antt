use Rattle.std.proofs.Common.{◌≡◌, ◌<◌, ◌/◌, length, get_or, arith, ap}
use Rattle.std.proofs.lemmas.List.{get_or_read}
use Rattle.ml_bits.proofs.PackedBits.{length_held, bit_read}
use Rattle.ml_bits.proofs.bit_list.Bits.bit.Goals as goal

pub returns : goal.returns
returns c =
    let long : length c.args.self.now.bits ≡ c.self.inside.len = length_held _ _ _ c.self.invariant.packed (ap (λ v. v.bits) c.self.view_is) in
    let here : c.args.i < c.self.inside.len = omega (arith, long) in
    let there : c.args.i / 64 < length c.self.inside.words.items = omega (arith, c.self.invariant.packed.enough) in
    let word : c.index.result.now ≡ get_or c.self.inside.words.items (c.args.i / 64) 0 =
    get_or_read c.self.inside.words.items (c.args.i / 64) c.index.result.now there c.index.ensures 0 in
    bit_read _ _ _ _ _ here there word (ap (λ v. v.bits) c.self.view_is)
