-- A compound leaves its arguments.
use Rattle.ml_heap.specs.Changes.{stands_for}
use Rattle.ml_builtin.proofs.GroundWalks.{ground_left, still_inside, fewer_nodes}
use Rattle.ml_builtin.proofs.ground.is_variable_or_leaves.Goals as goal

pub returns-in_ok-push_arguments-in-Cmp-clause-left : goal.returns-in_ok-push_arguments-in-Cmp-clause-left
returns-in_ok-push_arguments-in-Cmp-clause-left c _ =
    let p = c.in_ok-push_arguments-in-Cmp.ensures in
    ground_left c.args.heap.now (stands_for c.args.heap.now c.args.at) _ c.in-Cmp.ensures.shown.0 _ _ p.0 p.1.0 p.1.1 p.1.2

pub returns-in_ok-push_arguments-in-Cmp-clause-inside : goal.returns-in_ok-push_arguments-in-Cmp-clause-inside
returns-in_ok-push_arguments-in-Cmp-clause-inside c =
    let p = c.in_ok-push_arguments-in-Cmp.ensures in
    still_inside c.args.heap.now (stands_for c.args.heap.now c.args.at) _ c.in-Cmp.ensures.shown.0 _ _ p.0 p.1.0 p.1.1 p.1.2

pub returns-in_ok-push_arguments-in-Cmp-clause-fewer : goal.returns-in_ok-push_arguments-in-Cmp-clause-fewer
returns-in_ok-push_arguments-in-Cmp-clause-fewer c =
    let p = c.in_ok-push_arguments-in-Cmp.ensures in
    fewer_nodes c.args.heap.now (stands_for c.args.heap.now c.args.at) _ c.in-Cmp.ensures.shown.0 _ _ p.0 p.1.0 p.1.1 p.1.2
