-- The cell that is taken is a variable's, or leaves its arguments.
use Rattle.std.proofs.Common.{sym, ◌∙◌, ◌++◌, ◌∷◌, [], ap, arith, subst}
use Rattle.ml_heap.specs.Changes.{cell_count, AreCells}
use Rattle.ml_heap.proofs.TermWalks.{last_inside, rest_inside, as_many}
use Rattle.ml_builtin.proofs.GroundWalks.{at_first, ground_last, not_ground}
use Rattle.ml_builtin.proofs.ground.is_ground.Goals as goal

pub loop-at-init : goal.loop-at-init
loop-at-init c =
    let one = c.in_ok-push.ensures.items ∙ ap (λ xs. xs ++ c.args.at ∷ []) c.new-left.ensures.items in
    record {
      inside = subst (AreCells (cell_count c.args.heap.now)) (sym one) (c.requires, tt);
      same = at_first c.args.heap.now c.args.at _ one;
    }

pub is_variable_or_leaves-requires : goal.is_variable_or_leaves-requires
is_variable_or_leaves-requires c = last_inside _ _ _ _ c.in-Some.ensures.items c.loop-at.invariant.inside

pub returns-then-branch : goal.returns-then-branch
returns-then-branch c =
    sym (not_ground _ _ _ _ c.in-Some.ensures.items (c.in_ok-is_variable_or_leaves.ensures.found c.if-branch.true)) ∙ c.loop-at.invariant.same

pub loop-at-smaller : goal.loop-at-smaller
loop-at-smaller c = omega (arith, as_many c.args.heap.now _ _ _ c.in-Some.ensures.items, c.in_ok-is_variable_or_leaves.ensures.fewer)

pub loop-at-preserved : goal.loop-at-preserved
loop-at-preserved c = record {
  inside = c.in_ok-is_variable_or_leaves.ensures.inside (rest_inside _ _ _ _ c.in-Some.ensures.items c.loop-at.invariant.inside);
  same = c.in_ok-is_variable_or_leaves.ensures.left c.if-branch.false ∙ (sym (ground_last _ _ _ _ c.in-Some.ensures.items) ∙ c.loop-at.invariant.same);
}
