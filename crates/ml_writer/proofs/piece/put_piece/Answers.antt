-- A line is put in parts.
use Rattle.std.proofs.Common.{◌≡◌, ◌∙◌, ◌++◌, ◌∷◌, [], ◌^◌, ◌<◌, ap, sym, append_assoc, codes, ℕ, List, rules}
use Rattle.std.specs.Fmt.{decimal}
use Rattle.std.proofs.lemmas.Result.{on_ok_weaker}
use Rattle.ml_term.specs.Tree.{Tree}
use Rattle.ml_term.specs.Decimal.{decimal_text}
use Rattle.ml_term.specs.Seen.{seen}
use Rattle.ml_term.specs.Text.{text_of}
use Rattle.ml_term.proofs.Decimals.{decimal_is_text}
use Rattle.ml_search.specs.Session.{goal_line, count_line, error_line}
use Rattle.ml_writer.specs.inside.PieceText.{piece_text}
use Rattle.ml_writer.proofs.AppendedTexts.{three_parts}
use Rattle.ml_writer.proofs.piece.put_piece.Goals as goal

goal_line_is : (j k : ℕ) → k ≡ j → k < 2 ^ 64 → codes "goal " ++ (decimal k ++ 10 ∷ []) ≡ goal_line j
goal_line_is j k e small = ap (λ ds. codes "goal " ++ (ds ++ 10 ∷ [])) (decimal_is_text k small ∙ ap decimal_text e)

count_line_is : (n k : ℕ) → k ≡ n → k < 2 ^ 64 → codes "  " ++ (decimal k ++ codes " answers\n") ≡ count_line n
count_line_is n k e small =
    ap (λ ds. codes "  " ++ (ds ++ codes " answers\n")) (decimal_is_text k small ∙ ap decimal_text e)
    ∙ ap (λ z. codes "  " ++ z) (sym (append_assoc (decimal_text n) (codes " answers") (10 ∷ [])))

error_line_is : (u : Tree) (met : List ℕ) → met ≡ [] → codes "  error " ++ (text_of u met ++ 10 ∷ []) ≡ error_line u
error_line_is u met e = ap (λ z. codes "  error " ++ (text_of u z ++ 10 ∷ [])) e

pub returns-in_ok-put_number-in-Goal-clause-text : goal.returns-in_ok-put_number-in-Goal-clause-text
returns-in_ok-put_number-in-Goal-clause-text c =
    let same : c.from.result ≡ c.in-Goal.j = search rules in
    on_ok_weaker c.put-in-Goal.result
    (λ e. three_parts _ _ _ _ _ _ _ c.in_ok-put-in-Goal.ensures.text c.in_ok-put_number-in-Goal.ensures.text e
    ∙ ap (λ z. c.args.out.now.text ++ z) (goal_line_is c.in-Goal.j c.from.result same (search rules) ∙ sym (ap piece_text c.in-Goal.is)))
    c.put-in-Goal.ensures.text

pub returns-in_ok-put_number-in-Count-clause-text : goal.returns-in_ok-put_number-in-Count-clause-text
returns-in_ok-put_number-in-Count-clause-text c =
    let same : c.from-in-Count.result ≡ c.in-Count.n = search rules in
    on_ok_weaker c.put-in-Count-2.result
    (λ e. three_parts _ _ _ _ _ _ _ c.in_ok-put-in-Count.ensures.text c.in_ok-put_number-in-Count.ensures.text e
    ∙ ap (λ z. c.args.out.now.text ++ z) (count_line_is c.in-Count.n c.from-in-Count.result same (search rules) ∙ sym (ap piece_text c.in-Count.is)))
    c.put-in-Count-2.ensures.text

pub returns-in_ok-put_term-in-Error-clause-text : goal.returns-in_ok-put_term-in-Error-clause-text
returns-in_ok-put_term-in-Error-clause-text c =
    on_ok_weaker c.put-in-Error-2.result
    (λ e. three_parts c.args.out.now.text _ _ _ (codes "  error ") _ _ c.in_ok-put-in-Error.ensures.text c.in_ok-put_term-in-Error.ensures.text e
    ∙ ap (λ z. c.args.out.now.text ++ z) (error_line_is (seen c.in-Error.t.now) c.new-in-Error.result c.new-in-Error.ensures
    ∙ sym (ap piece_text c.in-Error.is)))
    c.put-in-Error-2.ensures.text
