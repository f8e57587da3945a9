-- The cell that is taken has the variable, or is passed, and the compounds among its arguments are left.
use Rattle.std.proofs.Common.{arith, sym, ap, ◌∙◌}
use Rattle.ml_term.specs.Tree.{occurs}
use Rattle.ml_heap.specs.Changes.{stands_for}
use Rattle.ml_heap.proofs.TermWalks.{last_inside, rest_inside, as_many, occurs_last, found_last}
use Rattle.ml_heap.proofs.heap.Heap.occurs_in.Goals as goal

pub walk-requires-in-Some : goal.walk-requires-in-Some
walk-requires-in-Some c = last_inside _ _ _ _ c.in-Some.ensures.items c.loop-at.invariant.0

pub returns-then-branch-2 : goal.returns-then-branch-2
returns-then-branch-2 c =
    sym (found_last _ _ _ _ c.in-Some.ensures.items c.number_at-number.result (c.in_ok-walk-2.ensures.found c.if-branch-2.true))
    ∙ (c.loop-at.invariant.1 ∙ ap (λ n. occurs n (stands_for c.args.self.now c.args.at)) c.number_at-number.ensures)

pub loop-at-smaller : goal.loop-at-smaller
loop-at-smaller c = omega (arith, as_many c.args.self.now _ _ _ c.in-Some.ensures.items, c.in_ok-walk-2.ensures.fewer c.if-branch-2.false)

pub loop-at-preserved : goal.loop-at-preserved
loop-at-preserved c = (
  c.in_ok-walk-2.ensures.inside (rest_inside _ _ _ _ c.in-Some.ensures.items c.loop-at.invariant.0),
  c.in_ok-walk-2.ensures.left c.if-branch-2.false ∙ (sym (occurs_last _ _ _ _ c.in-Some.ensures.items c.number_at-number.result) ∙ c.loop-at.invariant.1),
)
