-- One change less.
use Rattle.std.proofs.Common.{◌≡◌, ◌-◌, ◌<◌, ap, sym, refl, arith, length}
use Rattle.ml_heap.proofs.MadeCells.{as_many_steps, kept_as}
use Rattle.ml_heap.proofs.UndoneSteps.{is_step, no_more_than, kept_before, rest_is}
use Rattle.ml_heap.proofs.heap.Heap.undo_one.Goals as goal

pub undo_step-requires-clause-some : goal.undo_step-requires-clause-some
undo_step-requires-clause-some c =
    omega (arith, as_many_steps c.self.inside.steps.items c.self.inside.cells.items c.self.invariant.kept, ap length c.self.view_is, c.requires)

pub undo_step-requires-clause-fits : goal.undo_step-requires-clause-fits
undo_step-requires-clause-fits c =
    let some : 0 < length c.self.inside.steps.items =
    omega (arith, as_many_steps c.self.inside.steps.items c.self.inside.cells.items c.self.invariant.kept, ap length c.self.view_is, c.requires) in
    is_step c.self.inside.steps.items c.self.inside.cells.items c.self.inside.created c.self.invariant some

pub overflow_sub-self : goal.overflow_sub-self
overflow_sub-self c =
    let some : 0 < length c.self.inside.steps.items =
    omega (arith, as_many_steps c.self.inside.steps.items c.self.inside.cells.items c.self.invariant.kept, ap length c.self.view_is, c.requires) in
    let below = no_more_than c.self.inside.steps.items c.self.inside.cells.items c.self.inside.created c.self.invariant some in
    omega (arith, below, c.undo_step.ensures.numbers)

pub invariant_of-self : goal.invariant_of-self
invariant_of-self c =
    let some : 0 < length c.self.inside.steps.items =
    omega (arith, as_many_steps c.self.inside.steps.items c.self.inside.cells.items c.self.invariant.kept, ap length c.self.view_is, c.requires) in
    kept_as _ _ _ _ _ _ c.undo_step.ensures.steps c.undo_step.ensures.cells (ap (λ m. c.self.inside.created - m) c.undo_step.ensures.numbers)
    (kept_before c.self.inside.steps.items c.self.inside.cells.items c.self.inside.created c.self.invariant some)

pub returns : goal.returns
returns c =
    let some : 0 < length c.self.inside.steps.items =
    omega (arith, as_many_steps c.self.inside.steps.items c.self.inside.cells.items c.self.invariant.kept, ap length c.self.view_is, c.requires) in
    rest_is c.self.inside.steps.items c.self.inside.cells.items c.self.inside.created c.self.invariant some _ _ _ c.self.view_is
    c.undo_step.ensures.steps c.undo_step.ensures.cells
