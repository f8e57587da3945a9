use Rattle.std.proofs.Common.{◌++◌, ap, sym, ◌∙◌}
use Rattle.std.specs.Option.{option_map}
use Rattle.ml_term.specs.Seen.{seen}
use Rattle.ml_reader.specs.inside.rules.DeclarationSteps.{numbers}
use Rattle.ml_reader.proofs.RuleReading.DeclarationTerms.{first_number, one_number_further}
use Rattle.ml_reader.proofs.rules.declaration.numbers.Goals as goal

pub loop-first-preserved : goal.loop-first-preserved
loop-first-preserved c =
    let ns = c.loop-first.numbers.items in
    let k = c.in-Some-small_integer.k in
    let others = numbers (seen c.in-Some.others.now) in
    ap (λ ms. option_map (λ ks. ms ++ ks) others) c.in_ok-push-in-Some-small_integer.ensures.items
    ∙ one_number_further ns k others
    ∙ sym (ap (option_map (λ ks. ns ++ ks)) (first_number (seen c.loop-first.rest.now) (seen c.in-Some.first.now) (seen c.in-Some.others.now) k
    (sym c.in-Some.ensures) (sym c.in-Some-small_integer.ensures)))
    ∙ c.loop-first.invariant
