use Rattle.std.proofs.Common.{◌≡◌, ℕ, suc, sym, ap, ◌∙◌, subst, arith, Some, List, ◌-◌}
use Rattle.ml_term.specs.Tree.{Tree}
use Rattle.ml_term.specs.declared.term.Term.{Term}
use Rattle.ml_asking.specs.Asking.{Move}
use Rattle.ml_stack.specs.Memories.{CompiledProcedure}
use Rattle.ml_machine.specs.declared.machine.Machine.{Machine}
use Rattle.ml_machine.specs.declared.position.Position.TheVariants.{Throws}
use Rattle.ml_machine.specs.Positions.{IsAt}
use Rattle.ml_machine.proofs.BallsThrown.{past_body, past_cut, past_refute}
use Rattle.ml_machine.proofs.machine.Machine.throw.Goals as goal

-- at another name of its link
at_name : {ps : List CompiledProcedure} {s : Machine} {written : List (List Tree)} {t : Term} {v : Move} (l k : ℕ) → l ≡ k → IsAt ps s written (Throws t l) v →
    IsAt ps s written (Throws t k) v
at_name {ps = ps} {s = s} {written = written} {t = t} {v = v} l k e i = subst (λ x. IsAt ps s written (Throws t x) v) e i

pub returns-in-Some-Body : goal.returns-in-Some-Body
returns-in-Some-Body c p ps written v i =
    let e : c.args.link ≡ suc (c.args.link - 1) = omega arith in
    past_body ps p c.args.self.now c.args.ball (c.args.link - 1) _ (sym c.in-Some-Body.ensures ∙ ap Some c.in-Some-Body.field-0-is) written v (at_name _ _ e i)

pub returns-in-Some-Cut : goal.returns-in-Some-Cut
returns-in-Some-Cut c p ps written v i =
    let e : c.args.link ≡ suc (c.args.link - 1) = omega arith in
    past_cut ps p c.args.self.now c.args.ball (c.args.link - 1) _ _ (sym c.in-Some-Cut.ensures ∙ ap Some c.in-Some-Cut.field-0-is) written v (at_name _ _ e i)

pub returns-in-Some-Refute : goal.returns-in-Some-Refute
returns-in-Some-Refute c p ps written v i =
    let e : c.args.link ≡ suc (c.args.link - 1) = omega arith in
    past_refute ps p c.args.self.now c.args.ball (c.args.link - 1) _ _ (sym c.in-Some-Refute.ensures ∙ ap Some c.in-Some-Refute.field-0-is) written v
    (at_name _ _ e i)

pub returns-in_ok-throw_at_catch-in-Some-Caught : goal.returns-in_ok-throw_at_catch-in-Some-Caught
returns-in_ok-throw_at_catch-in-Some-Caught c p ps written v i =
    let e : c.args.link ≡ suc (c.args.link - 1) = omega arith in
    c.in_ok-throw_at_catch-in-Some-Caught.ensures p ps (c.args.link - 1) (sym c.in-Some-Caught.ensures
    ∙ ap Some c.in-Some-Caught.field-0-is) written v (at_name _ _ e i)

pub returns-then-link-eq0 : goal.returns-then-link-eq0
returns-then-link-eq0 c p ps written v i = c.in_ok-throw_out.ensures p ps written v (at_name c.args.link 0 c.if-link-eq0.true i)
