use Rattle.std.proofs.Common.{ap, ◌∙◌, ◌++◌, ◌∷◌, [], ◌+◌, ◌≡◌, min, arith}
use Rattle.ml_term.specs.Keys.{are_keys}
use Rattle.ml_term.proofs.DefaultKeys.{one_number_more, default_keys_are_keys}
use Rattle.ml_term.proofs.declaration.Keys.default_of.Goals as goal

pub loop-k-preserved : goal.loop-k-preserved
loop-k-preserved c = c.in_ok-push.ensures.items ∙ ap (λ ks. ks ++ (c.loop-k.k + 1) ∷ []) c.loop-k.invariant ∙ one_number_more c.loop-k.k

pub returns-clause-valid : goal.returns-clause-valid
returns-clause-valid c low =
    let all : c.loop-k.k ≡ min c.args.arity 8 = omega arith in
    ap (are_keys c.args.arity) c.loop-k.invariant ∙ default_keys_are_keys c.args.arity c.loop-k.k all low
