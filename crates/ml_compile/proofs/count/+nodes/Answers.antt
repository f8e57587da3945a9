use Rattle.std.proofs.Common.{arith}
use Rattle.ml_compile.proofs.TermParts.{nodes_of_parts, fewer_nodes, nodes_more}
use Rattle.ml_compile.proofs.count.+nodes.Goals as goal

pub with_nodes-with_nodes_of-requires : goal.with_nodes-with_nodes_of-requires
with_nodes-with_nodes_of-requires t c =
    let parts = nodes_of_parts _ _ _ _ _ c.in-Cmp.is c.front_and_last.ensures in
    (omega (arith, parts, c.loop-rest.invariant.small), tt)

pub with_nodes-loop-rest-smaller : goal.with_nodes-loop-rest-smaller
with_nodes-loop-rest-smaller t c =
    let parts = nodes_of_parts _ _ _ _ _ c.in-Cmp.is c.front_and_last.ensures in
    omega (arith, parts)

pub with_nodes-loop-rest-preserved : goal.with_nodes-loop-rest-preserved
with_nodes-loop-rest-preserved t c =
    let parts = nodes_of_parts _ _ _ _ _ c.in-Cmp.is c.front_and_last.ensures in
    record {
      small = omega (arith, parts, c.loop-rest.invariant.small);
      sum = omega (arith, parts, c.loop-rest.invariant.sum, c.in_ok-one_more.ensures, c.in_ok-count.ensures);
    }

pub with_nodes_of-with_nodes-requires : goal.with_nodes_of-with_nodes-requires
with_nodes_of-with_nodes-requires t c =
    let fewer = fewer_nodes _ _ _ c.loop-term-test.true c.term-item.is in
    (omega (arith, fewer), tt)

pub with_nodes_of-loop-term-preserved : goal.with_nodes_of-loop-term-preserved
with_nodes_of-loop-term-preserved t c =
    let more = nodes_more _ _ _ c.loop-term-test.true c.term-item.is in
    omega (arith, more, c.loop-term.invariant, c.in_ok-count.ensures)
