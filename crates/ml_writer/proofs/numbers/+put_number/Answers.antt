use Rattle.std.proofs.Common.{◌≡◌, ◌∙◌, ◌++◌, ◌∷◌, [], ◌+◌, ◌%◌, ◌≤◌, ◌<◌, ◌/◌, ◌^◌, ap, sym, arith, ℕ, List, append_assoc}
use Rattle.std.specs.Fmt.{decimal}
use Rattle.std.proofs.lemmas.Fmt.{decimal_step}
use Rattle.std.proofs.lemmas.Result.{IfOk-equal}
use Rattle.ml_writer.proofs.numbers.+put_number.Goals as goal

-- the last digit behind those before it
last_digit : (n : ℕ) (text : List ℕ) → 10 ≤ n → n < 2 ^ 64 → (text ++ decimal (n / 10)) ++ (48 + n % 10) ∷ [] ≡ text ++ decimal n
last_digit n text h l = append_assoc text (decimal (n / 10)) ((48 + n % 10) ∷ []) ∙ ap (λ ds. text ++ ds) (sym (decimal_step n h l))

pub returns-clause-text : goal.returns-clause-text
returns-clause-text t c =
    IfOk-equal c.put-2.result _ _ _ c.put-2.ensures.text (ap (λ text. text ++ (48 + c.args.n % 10) ∷ []) c.in_ok-put_number.ensures.text
    ∙ last_digit c.args.n c.args.out.now.text c.if-n-lt10.false (omega arith))
