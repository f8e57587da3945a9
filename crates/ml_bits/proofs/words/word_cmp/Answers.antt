use Rattle.std.proofs.Common.{ℕ, ◌<◌, ◌^◌, get_or, rules, sym, ◌∙◌}
use Rattle.ml_bits.proofs.PackedOrder.{word_bits_cmp}
use Rattle.ml_bits.proofs.words.word_cmp.Goals as goal

pub returns : goal.returns
returns c =
    let first : (i : ℕ) → get_or c.args.first.now i 0 < 2 ^ 64 = λ i. search rules in
    let second : (i : ℕ) → get_or c.args.second.now i 0 < 2 ^ 64 = λ i. search rules in
    c.cmp.ensures ∙ sym (word_bits_cmp _ _ first second)
