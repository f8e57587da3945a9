use Rattle.std.proofs.Common.{◌∙◌, ap, sym, map}
use Rattle.std.specs.List.{list_any}
use Rattle.std.proofs.lemmas.Result.{IfOk-weaker}
use Rattle.ml_term.specs.Seen.{seen}
use Rattle.ml_search.specs.Errors.{is_too_large}
use Rattle.ml_solve.proofs.answer.write_answer.Goals as goal

pub returns-in-Ok : goal.returns-in-Ok
returns-in-Ok c =
    IfOk-weaker c.write_line.result _ _
    (λ raised line ts a. (let terms = c.in-Ok.ensures.terms ts a in
    line ts (ap (map (λ b. seen b.1)) c.as_slice-in-Ok.ensures.value ∙ terms) (ap (list_any is_too_large) (sym terms) ∙ c.in-Ok.ensures.small)))
    c.write_line.ensures
