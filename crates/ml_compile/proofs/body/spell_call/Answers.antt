use Rattle.std.proofs.Common.{◌≡◌, ap, sym}
use Rattle.std.proofs.lemmas.List.{length-map}
use Rattle.ml_term.specs.Seen.{seen, all_seen}
use Rattle.ml_compile.specs.Spells.{called_body}
use Rattle.ml_compile.proofs.BodiesSpelled.{spells_call, spelled_so}
use Rattle.ml_compile.proofs.body.spell_call.Goals as goal

pub returns : goal.returns
returns c =
    let ts = all_seen c.args.args.now in
    let name : c.in_ok-name.name ≡ c.args.name.now = c.in_ok-name.ensures in
    spelled_so _ _ _ _ _ (ap (λ f. called_body f ts) (sym name)) c.in_ok-push.ensures.items
    (spells_call _ _ _ ts c.in_ok-build_all.ensures (length-map c.args.args.now seen))
