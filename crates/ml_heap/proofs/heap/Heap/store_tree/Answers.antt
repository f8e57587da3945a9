-- At first no variable was met, so the new numbers are those from the heap's count on.
use Rattle.std.proofs.Common.{[], length}
use Rattle.ml_heap.specs.Changes.{variable_count}
use Rattle.ml_heap.proofs.StoredTerms.{nothing_met}
use Rattle.ml_heap.proofs.heap.Heap.store_tree.Goals as goal

pub store-requires-clause-known : goal.store-requires-clause-known
store-requires-clause-known c = (variable_count c.args.self.now, ([], nothing_met c.args.self.now _ c.new-met.ensures))

pub returns-in-Ok-clause-stored : goal.returns-in-Ok-clause-stored
returns-in-Ok-clause-stored c =
    let s = c.in-Ok.ensures.stored (variable_count c.args.self.now) [] (nothing_met c.args.self.now _ c.new-met.ensures) in
    record { inside = s.inside; stands = s.stands; grown = c.in-Ok.ensures.grown }

pub returns-in-Ok-clause-counted : goal.returns-in-Ok-clause-counted
returns-in-Ok-clause-counted c = (c.in-Ok.ensures.stored (variable_count c.args.self.now) [] (nothing_met c.args.self.now _ c.new-met.ensures)).knows.count
