-- A variable that the line hasn't met gets the next number.
use Rattle.std.proofs.Common.{◌≡◌, [], ◌∷◌, ◌++◌, false, ap, sym, ◌∙◌, ◌+◌, length, rules}
use Rattle.ml_term.specs.Tree.{firsts, has}
use Rattle.ml_term.specs.Text.{number_in}
use Rattle.ml_writer.proofs.VariableNumbers.{met_first, first_number, with_one_more}
use Rattle.ml_writer.proofs.met.MetVariables.add.Goals as goal

-- the table didn't have it
isnt_met : (c : goal.In-Ok) → has c.args.variable c.self.inside.variables.items ≡ false
isnt_met c = ap (has c.args.variable) c.self.view_is ∙ c.requires

-- and has it behind all others
met_last : (c : goal.In-Ok) → firsts (c.args.self.now ++ c.args.variable ∷ []) ≡ c.self.inside.variables.items ++ c.args.variable ∷ []
met_last c =
    ap (λ z. firsts (z ++ c.args.variable ∷ [])) (sym c.self.view_is)
    ∙ met_first c.self.inside.variables.items c.args.variable c.self.invariant.once (isnt_met c)

next : (c : goal.In-Ok) → c.len.result + 1 ≡ length c.self.inside.variables.items + 1
next c = search rules

pub invariant_of-self-in-Ok : goal.invariant_of-self-in-Ok
invariant_of-self-in-Ok c = rw c.in_ok-push.ensures.items
    (with_one_more c.self.inside.variables.items c.self.inside.numbers c.insert.new.self c.args.variable (c.len.result + 1) c.self.invariant (isnt_met c)
    (next c) c.in-Ok.ensures.updates c.in-Ok.ensures.ordered)

pub returns-in-Ok-clause-number : goal.returns-in-Ok-clause-number
returns-in-Ok-clause-number c =
    next c ∙ (sym (first_number c.self.inside.variables.items c.args.variable (isnt_met c)) ∙ ap (λ z. number_in z c.args.variable) (sym (met_last c)))

pub returns-in-Ok-clause-met : goal.returns-in-Ok-clause-met
returns-in-Ok-clause-met c = c.in_ok-push.ensures.items ∙ sym (met_last c)
