-- A compound has its arguments' nodes and one more.
use Rattle.std.proofs.Common.{ap, ◌∙◌, ◌++◌, reverse}
use Rattle.ml_heap.proofs.TermWalks.{nodes_of_arguments, arguments_inside}
use Rattle.ml_heap.proofs.heap.Heap.push_arguments.Goals as goal

pub returns-in_ok-push_places-in-Cmp-clause-nodes : goal.returns-in_ok-push_places-in-Cmp-clause-nodes
returns-in_ok-push_places-in-Cmp-clause-nodes c =
    nodes_of_arguments _ _ _ _ _ _ c.at.ensures c.end_at.ensures.told _ _ _ c.in-Cmp.is
    (c.in_ok-push_places-in-Cmp.ensures ∙ ap (λ qs. c.args.left.now.items ++ reverse qs) c.as_slice.ensures.same)

pub returns-in_ok-push_places-in-Cmp-clause-inside : goal.returns-in_ok-push_places-in-Cmp-clause-inside
returns-in_ok-push_places-in-Cmp-clause-inside c =
    arguments_inside _ _ _ _ _ _ c.at.ensures c.end_at.ensures.told _ _ _ c.in-Cmp.is
    (c.in_ok-push_places-in-Cmp.ensures ∙ ap (λ qs. c.args.left.now.items ++ reverse qs) c.as_slice.ensures.same)
