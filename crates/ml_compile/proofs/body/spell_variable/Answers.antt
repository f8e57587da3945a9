-- A variable that stands as a body is `call` of it.
use Rattle.std.proofs.Common.{◌≡◌, [], ◌∷◌, codes, refl, ap, sym, ◌∙◌}
use Rattle.ml_term.specs.Tree.{variable}
use Rattle.ml_compile.specs.Spells.{called_body}
use Rattle.ml_compile.proofs.TermsBuilt.{builds_variable, built_so}
use Rattle.ml_compile.proofs.BodiesSpelled.{spells_call, spelled_so}
use Rattle.ml_compile.proofs.body.spell_variable.Goals as goal

pub returns : goal.returns
returns c =
    let n = c.args.n in
    let name : c.in_ok-name.name ≡ codes "call" = c.in_ok-name.ensures ∙ c.as_slice.ensures in
    spelled_so _ _ _ _ _ (ap (λ f. called_body f (variable n ∷ [])) (sym name)) c.in_ok-push-2.ensures.items
    (spells_call _ _ _ (variable n ∷ []) (built_so _ _ _ (variable n) (variable n) refl c.in_ok-push.ensures.items (builds_variable _ n)) refl)
