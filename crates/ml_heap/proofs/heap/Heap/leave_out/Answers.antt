-- Numbers are left out: the trees stay.
use Rattle.std.proofs.Common.{rules, ◌≡◌, ◌+◌, ◌<◌, ◌^◌, ap, subst, sym, ◌∙◌, refl, arith}
use Rattle.ml_heap.proofs.MadeCells.{kept_as}
use Rattle.ml_heap.proofs.StepsWithoutTrees.{left_out_kept, left_out_is, left_out_trees, left_out_count, left_out_marks}
use Rattle.ml_heap.proofs.heap.Heap.leave_out.Goals as goal

pub invariant_of-self-2 : goal.invariant_of-self-2
invariant_of-self-2 c = kept_as _ _ _ _ _ _ c.in_ok-push.ensures.items refl c.in-Some.ensures.1
    (left_out_kept _ _ _ c.args.count c.self.invariant c.in-Some.ensures.0)

pub returns-clause-trees : goal.returns-clause-trees
returns-clause-trees c = left_out_trees c.args.self.now _ c.args.count
    (left_out_is c.self.inside.steps.items c.self.inside.cells.items c.self.inside.created c.args.count c.self.invariant c.args.self.now c.self.view_is _
    c.in_ok-push.ensures.items)

pub returns-clause-counted : goal.returns-clause-counted
returns-clause-counted c = left_out_count c.args.self.now _ c.args.count
    (left_out_is c.self.inside.steps.items c.self.inside.cells.items c.self.inside.created c.args.count c.self.invariant c.args.self.now c.self.view_is _
    c.in_ok-push.ensures.items)

pub returns-clause-marks : goal.returns-clause-marks
returns-clause-marks c = left_out_marks c.args.self.now _ c.args.count
    (left_out_is c.self.inside.steps.items c.self.inside.cells.items c.self.inside.created c.args.count c.self.invariant c.args.self.now c.self.view_is _
    c.in_ok-push.ensures.items)
