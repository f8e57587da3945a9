-- A compound's arguments have fewer nodes, and each of them no more than all.
use Rattle.std.proofs.Common.{arith}
use Rattle.ml_heap.proofs.TermWalks.{nodes_of_one, arguments_nodes, arguments_are_inside}
use Rattle.ml_heap.proofs.heap.Heap.+terms.Goals as goal

pub term_at-terms_at-requires : goal.term_at-terms_at-requires
term_at-terms_at-requires t c =
    let n = arguments_nodes _ _ _ _ _ _ _ _ c.at.ensures c.end_at.ensures.told c.in-Cmp.is c.as_slice.ensures.same in
    (omega (arith, n, c.decreases), arguments_are_inside _ _ _ _ _ _ _ _ c.at.ensures c.end_at.ensures.told c.in-Cmp.is c.as_slice.ensures.same)

pub terms_at-term_at-requires : goal.terms_at-term_at-requires
terms_at-term_at-requires t c = (
  omega (arith, nodes_of_one c.args.self.now c.args.places.now c.loop-place.place-index c.loop-place-test.true, c.decreases),
  c.requires c.loop-place.place-index c.loop-place-test.true,
)
