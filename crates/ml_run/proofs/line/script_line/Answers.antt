use Rattle.std.proofs.Common.{◌≡◌, ◌++◌, ◌∷◌, ◌<◌, ◌^◌, IfOk, codes, sym, ap, ◌∙◌, subst, append_assoc, rules}
use Rattle.std.specs.String.{string_bytes}
use Rattle.ml_term.specs.Decimal.{decimal_text}
use Rattle.ml_run.specs.Faults.{fault_text}
use Rattle.ml_run.specs.Status.{message_line}
use Rattle.ml_run.proofs.line.script_line.Goals as goal

pub returns : goal.returns
returns c =
    let small : c.args.number < 2 ^ 64 = search rules in
    let number = decimal_text c.args.number in
    let text =
    c.as_str.ensures.value
    ∙ c.in_ok-numbered.ensures.ok
    ∙ ap (λ d. d ++ 32 ∷ string_bytes c.in_ok-text.text) (c.std_writes_decimal_texts.ensures.unsigned c.args.number small)
    ∙ ap (λ t. number ++ 32 ∷ t) c.in_ok-text.ensures
    ∙ sym (append_assoc number (codes " ") (fault_text c.args.fault.now)) in
    subst (λ t. IfOk c.message_line.result (λ bytes. bytes.items ≡ message_line (codes "script ") t)) text c.message_line.ensures
