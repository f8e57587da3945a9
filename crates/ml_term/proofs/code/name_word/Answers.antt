use Rattle.std.proofs.Common.{rules, arith, ap, sym, ◌∙◌, subst, ◌≡◌, ◌+◌, ◌*◌, ◌^◌, ◌<◌, get_or, ℕ}
use Rattle.ml_term.specs.Codes.{bits}
use Rattle.ml_term.proofs.CodeWords.{word_more, has_room, one_byte_fits}
use Rattle.ml_term.proofs.code.name_word.Goals as goal

pub join_bits-word-requires-clause-high : goal.join_bits-word-requires-clause-high
join_bits-word-requires-clause-high c = has_room c.loop-i.i c.loop-i.word (omega arith) c.loop-i.invariant.1

pub loop-i-preserved : goal.loop-i-preserved
loop-i-preserved c =
    let byte : c.from.result < 256 = search rules in
    let is_byte : c.from.result ≡ get_or c.args.name.now c.loop-i.i 0 = search rules in
    let joined : c.join_bits-word.result ≡ c.loop-i.word * 2 ^ 8 + c.from.result = c.join_bits-word.ensures in (
      ap (bits (8 * (c.loop-i.i + 1))) joined ∙ word_more c.loop-i.i c.loop-i.word c.from.result c.args.name.now byte is_byte c.loop-i.invariant.0,
      subst (λ (n : ℕ). n < 2 ^ (8 * (c.loop-i.i + 1))) (sym joined) (one_byte_fits c.loop-i.i c.loop-i.word c.from.result c.loop-i.invariant.1 byte),
    )
