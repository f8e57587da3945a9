use Rattle.std.proofs.Common.{sym, ◌∙◌}
use Rattle.ml_search.specs.inside.Unifying.{bindings_of}
use Rattle.ml_search.proofs.Unifying.EquationSteps.{bound_plain}
use Rattle.ml_search.proofs.unification.equation.bind.Goals as goal

pub returns-else-branch-clause-binds : goal.returns-else-branch-clause-binds
returns-else-branch-clause-binds c =
    bound_plain (bindings_of c.args.bindings.now.entries) c.args.variable c.args.to c.requires.plain c.requires.free
    (sym c.in_ok-occurs.ensures ∙ c.if-branch.false)
