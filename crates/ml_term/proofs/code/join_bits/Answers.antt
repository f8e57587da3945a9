use Rattle.std.proofs.Common.{ap, ◌∙◌, arith, bit_or, ◌-◌, ◌+◌, ◌≤◌}
use Rattle.std.proofs.lemmas.Nat.{or_shifted, shl_whole}
use Rattle.ml_term.proofs.code.join_bits.Goals as goal

pub returns : goal.returns
returns c =
    let within : 64 - c.args.width + c.args.width ≤ 64 = omega arith in
    ap (λ n. bit_or n c.args.low) (shl_whole c.args.high (64 - c.args.width) c.args.width 64 c.requires.high within)
    ∙ or_shifted c.args.high c.args.width c.args.low c.requires.low
