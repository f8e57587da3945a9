use Rattle.std.proofs.Common.{◌≡◌, ap, sym, ◌∙◌, subst}
use Rattle.ml_term.specs.Seen.{seen}
use Rattle.ml_term.specs.Tree.{compound_1}
use Rattle.ml_reader.specs.inside.script.ScriptItems.{IsGoalIfCallable, item_of}
use Rattle.ml_reader.specs.Seen.{read_seen}
use Rattle.ml_reader.proofs.ScriptReading.ScriptGoals.{read_goal, goal_inside, one_argument}
use Rattle.ml_reader.proofs.script.item.item_of.Goals as goal

pub item_by_name-requires : goal.item_by_name-requires
item_by_name-requires c =
    let w = c.args.clause in
    let one = one_argument w.term c.in-Cmp.name c.in-Cmp.args (seen c.in-Some.t) c.in-Cmp.is c.in-Some.ensures in
    let names : w.names ≡ c.from_vec.result = cc in
    subst (IsGoalIfCallable (seen c.in-Some.t)) names
    (goal_inside c.in-Cmp.name (seen c.in-Some.t) w.names (subst (λ u. IsGoalIfCallable u w.names) one (read_goal (read_seen w) c.requires)))

pub returns : goal.returns
returns c =
    let w = c.args.clause in
    let one = one_argument w.term c.in-Cmp.name c.in-Cmp.args (seen c.in-Some.t) c.in-Cmp.is c.in-Some.ensures in
    let names : c.from_vec.result ≡ w.names = cc in
    c.item_by_name.ensures ∙ ap (λ ns. item_of (compound_1 c.in-Cmp.name (seen c.in-Some.t)) ns) names ∙ sym (ap (λ u. item_of u w.names) one)
