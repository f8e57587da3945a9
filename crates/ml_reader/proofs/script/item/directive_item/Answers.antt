use Rattle.std.proofs.Common.{ap, sym, ◌∙◌, subst}
use Rattle.ml_term.specs.Seen.{seen}
use Rattle.ml_reader.specs.inside.script.ScriptItems.{IsGoalIfCallable, directive_item}
use Rattle.ml_reader.proofs.ScriptReading.ScriptGoals.{goal_inside, one_argument}
use Rattle.ml_reader.proofs.script.item.directive_item.Goals as goal

pub directive_by_name-requires : goal.directive_by_name-requires
directive_by_name-requires c =
    let one = one_argument c.args.t c.in-Cmp.name c.in-Cmp.args (seen c.in-Some.t) c.in-Cmp.is c.in-Some.ensures in
    goal_inside c.in-Cmp.name (seen c.in-Some.t) c.args.names (subst (λ u. IsGoalIfCallable u c.args.names) one c.requires)

pub returns : goal.returns
returns c =
    let one = one_argument c.args.t c.in-Cmp.name c.in-Cmp.args (seen c.in-Some.t) c.in-Cmp.is c.in-Some.ensures in
    c.directive_by_name.ensures ∙ sym (ap (λ u. directive_item u c.args.names) one)
