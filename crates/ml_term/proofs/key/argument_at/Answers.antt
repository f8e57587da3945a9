use Rattle.std.proofs.Common.{arith, ap, sym, ◌∙◌, ◌≡◌, ◌-◌, ◌<◌, length, get_or}
use Rattle.ml_term.specs.Seen.{seen}
use Rattle.ml_term.specs.Valid.{is_valid}
use Rattle.ml_term.proofs.NumberedArguments.{argument_is, argument_is_valid}
use Rattle.ml_term.proofs.key.argument_at.Goals as goal

pub returns-clause-same : goal.returns-clause-same
returns-clause-same c =
    let ts = c.args.ts.now in
    let r = c.index-ts-from.result in
    let at : c.from.result - 1 ≡ c.args.k - 1 = omega arith in
    ap seen c.index-ts-from.is ∙ ap (λ i. seen (get_or ts i r)) at ∙ sym (argument_is seen c.args.k ts r c.requires.low c.requires.high)

pub returns-clause-valid : goal.returns-clause-valid
returns-clause-valid c =
    let below : c.from.result - 1 < length c.args.ts.now = omega arith in
    ap (λ t. is_valid (seen t)) c.index-ts-from.is ∙ argument_is_valid seen (c.from.result - 1) c.args.ts.now c.index-ts-from.result below c.requires.valid
