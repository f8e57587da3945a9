use Rattle.std.proofs.Common.{◌≡◌, ◌++◌, ◌∷◌, [], ◌<◌, ◌^◌, List, ℕ, codes, sym, ap, ◌∙◌, append_assoc, rules}
use Rattle.std.specs.Fmt.{decimal}
use Rattle.ml_term.specs.Decimal.{decimal_text}
use Rattle.ml_writer.proofs.entry_line.failed_line.Goals as goal

failed_text : (a b : List ℕ) → a ++ (codes " failed at goal " ++ (b ++ 10 ∷ [])) ≡ ((a ++ codes " ") ++ (codes "failed at goal " ++ b)) ++ 10 ∷ []
failed_text a b =
    sym (append_assoc (a ++ codes " ") (codes "failed at goal " ++ b) (10 ∷ []) ∙ append_assoc a (codes " ") ((codes "failed at goal " ++ b) ++ 10 ∷ []))

pub returns : goal.returns
returns c =
    let first : c.args.number < 2 ^ 64 = search rules in
    let second : c.args.j < 2 ^ 64 = search rules in
    let law = c.std_writes_decimal_texts.ensures.unsigned in
    c.in_ok-line.ensures.ok
    ∙ ap (λ a. codes "session " ++ (a ++ (codes " failed at goal " ++ (decimal c.args.j ++ 10 ∷ [])))) (law c.args.number first)
    ∙ ap (λ b. codes "session " ++ (decimal_text c.args.number ++ (codes " failed at goal " ++ (b ++ 10 ∷ [])))) (law c.args.j second)
    ∙ ap (λ t. codes "session " ++ t) (failed_text (decimal_text c.args.number) (decimal_text c.args.j))
