-- A variable that was met keeps its number.
use Rattle.std.proofs.Common.{sym, ◌∙◌, subst}
use Rattle.ml_writer.proofs.VariableNumbers.{WasMet, was_met}
use Rattle.ml_writer.proofs.met.MetVariables.number.Goals as goal

known : (c : goal.In-Some) → WasMet c.args.self.now c.args.variable c.in-Some.number
known c =
    let met = was_met c.self.inside.variables.items c.args.variable c.in-Some.number c.self.invariant.once (sym (c.self.invariant.found c.args.variable)
    ∙ (sym c.get.ensures.value ∙ (sym c.copied.ensures ∙ c.in-Some.is))) in
    subst (λ z. WasMet z c.args.variable c.in-Some.number) c.self.view_is met

pub returns-in-Some-clause-number : goal.returns-in-Some-clause-number
returns-in-Some-clause-number c = (known c).number

pub returns-in-Some-clause-met : goal.returns-in-Some-clause-met
returns-in-Some-clause-met c = (known c).same
