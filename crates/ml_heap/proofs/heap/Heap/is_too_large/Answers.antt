-- A cell that is taken counts as one node, and its arguments are left.
use Rattle.std.proofs.Common.{arith}
use Rattle.ml_heap.proofs.TermWalks.{last_inside, rest_inside, as_many, nodes_at_least, is_above, is_not_above}
use Rattle.ml_heap.proofs.heap.Heap.is_too_large.Goals as goal

pub push_arguments-requires : goal.push_arguments-requires
push_arguments-requires c = last_inside _ _ _ _ c.in-Some.ensures.items c.loop-at.invariant.inside

pub returns-then-count-len-gt-MAX_TERM_NODES : goal.returns-then-count-len-gt-MAX_TERM_NODES
returns-then-count-len-gt-MAX_TERM_NODES c =
    is_above 4096 _ (omega (
      arith,
      as_many c.args.self.now _ _ _ c.in-Some.ensures.items,
      c.in_ok-push_arguments.ensures.nodes,
      c.loop-at.invariant.counted,
      nodes_at_least c.args.self.now c.push_arguments.new.left.items,
      c.if-count-len-gt-MAX_TERM_NODES.true,
      c.len.ensures,
    ))

pub loop-at-smaller : goal.loop-at-smaller
loop-at-smaller c = omega (arith, as_many c.args.self.now _ _ _ c.in-Some.ensures.items, c.in_ok-push_arguments.ensures.nodes)

pub loop-at-preserved : goal.loop-at-preserved
loop-at-preserved c = record {
  inside = c.in_ok-push_arguments.ensures.inside (rest_inside _ _ _ _ c.in-Some.ensures.items c.loop-at.invariant.inside);
  counted = omega (arith, as_many c.args.self.now _ _ _ c.in-Some.ensures.items, c.in_ok-push_arguments.ensures.nodes, c.loop-at.invariant.counted);
  small = omega (arith, c.if-count-len-gt-MAX_TERM_NODES.false, c.len.ensures);
}
