use Rattle.std.proofs.Common.{◌≡◌, [], ◌∷◌, ap, ◌∙◌, subst}
use Rattle.std.specs.Prelude.{OnOk}
use Rattle.ml_bits.specs.BitList.{bits_of, append_bits}
use Rattle.ml_bits.proofs.WordBits.{bits_of_one}
use Rattle.ml_bits.proofs.bit_list.Bits.push.Goals as goal

pub returns-clause-ok : goal.returns-clause-ok
returns-clause-ok c =
    let one : bits_of 1 c.from.result ≡ c.args.bit ∷ [] = ap (bits_of 1) c.from.ensures ∙ bits_of_one c.args.bit in
    subst (λ bs. OnOk c.push_bits.result (c.push_bits.new.self ≡ append_bits c.args.self.now bs)) one c.push_bits.ensures.ok
