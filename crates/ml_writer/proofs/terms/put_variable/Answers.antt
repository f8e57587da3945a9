use Rattle.std.proofs.Common.{◌∙◌, ◌++◌, ◌∷◌, [], ap, append_assoc, arith}
use Rattle.std.specs.Fmt.{decimal}
use Rattle.std.proofs.lemmas.Result.{IfOk-equal}
use Rattle.ml_term.specs.Decimal.{decimal_text}
use Rattle.ml_term.proofs.Decimals.{decimal_is_text}
use Rattle.ml_term.specs.Tree.{firsts}
use Rattle.ml_writer.proofs.WriteResults.{on_ok_anyhow}
use Rattle.ml_writer.proofs.FirstPlaces.{firsts_twice}
use Rattle.ml_writer.proofs.terms.put_variable.Goals as goal

pub returns-clause-text : goal.returns-clause-text
returns-clause-text c =
    IfOk-equal c.put_number.result _ _ _ c.put_number.ensures.text
    (ap (λ text. text ++ decimal c.in_ok-place.place) c.in_ok-put.ensures.text
    ∙ (append_assoc c.args.out.now.text (95 ∷ []) (decimal c.in_ok-place.place)
    ∙ ap (λ ds. c.args.out.now.text ++ 95 ∷ ds) (decimal_is_text c.in_ok-place.place (omega arith) ∙ ap decimal_text c.in_ok-place.ensures.number)))

pub returns-clause-met : goal.returns-clause-met
returns-clause-met c = on_ok_anyhow c.put_number.result (ap firsts c.in_ok-place.ensures.met ∙ firsts_twice (c.args.met.now ++ c.args.number ∷ []))
