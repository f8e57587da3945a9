use Rattle.std.proofs.Common.{◌≡◌, ℕ, suc, sym, ap, ◌∙◌, subst, refl, arith, Some, List, ◌-◌}
use Rattle.ml_term.specs.Tree.{Tree}
use Rattle.ml_asking.specs.Asking.{Move}
use Rattle.ml_stack.specs.Memories.{CompiledProcedure}
use Rattle.ml_machine.specs.declared.machine.Machine.{Machine}
use Rattle.ml_machine.specs.declared.position.Position.TheVariants.{Goes as GoesAt}
use Rattle.ml_machine.specs.Positions.{IsAt}
use Rattle.ml_machine.proofs.LinkTurns.{into_body, past_cut, past_refute, past_catch}
use Rattle.ml_machine.proofs.machine.Machine.follow.Goals as goal

-- at another name of its link
at_name : {ps : List CompiledProcedure} {s : Machine} {written : List (List Tree)} {v : Move} (l k : ℕ) → l ≡ k → IsAt ps s written (GoesAt l) v →
    IsAt ps s written (GoesAt k) v
at_name {ps = ps} {s = s} {written = written} {v = v} l k e i = subst (λ x. IsAt ps s written (GoesAt x) v) e i

pub returns-in-Some-Body : goal.returns-in-Some-Body
returns-in-Some-Body c p ps written v i =
    let e : c.args.link ≡ suc (c.args.link - 1) = omega arith in
    into_body p ps c.args.self.now (c.args.link - 1) _ (sym c.in-Some-Body.ensures ∙ ap Some c.in-Some-Body.field-0-is) written v (at_name _ _ e i)

pub returns-in-Some-Cut : goal.returns-in-Some-Cut
returns-in-Some-Cut c p ps written v i =
    let e : c.args.link ≡ suc (c.args.link - 1) = omega arith in
    past_cut p ps c.args.self.now _ (record { terms = refl; levels = refl; answers = refl; left = refl }) refl (c.args.link - 1) _ _
    (sym c.in-Some-Cut.ensures ∙ ap Some c.in-Some-Cut.field-0-is) (λ w s. c.cut_choices.ensures ps w s) written v (at_name _ _ e i)

pub returns-in-Some-Refute : goal.returns-in-Some-Refute
returns-in-Some-Refute c p ps written v i =
    let e : c.args.link ≡ suc (c.args.link - 1) = omega arith in
    past_refute p ps c.args.self.now _ (record { terms = refl; levels = refl; answers = refl; left = refl }) refl (c.args.link - 1) _ _
    (sym c.in-Some-Refute.ensures ∙ ap Some c.in-Some-Refute.field-0-is) (λ w s. c.cut_choices-in-Some-Refute.ensures ps w s) written v (at_name _ _ e i)

pub returns-in-Some-Caught : goal.returns-in-Some-Caught
returns-in-Some-Caught c p ps written v i =
    let e : c.args.link ≡ suc (c.args.link - 1) = omega arith in
    past_catch p ps c.args.self.now (c.args.link - 1) _ _ _ _ _ (sym c.in-Some-Caught.ensures ∙ ap Some c.in-Some-Caught.field-0-is) written v (at_name _ _ e i)
