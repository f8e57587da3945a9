-- A compound is put last.
use Rattle.ml_heap.proofs.TermWalks.{occurs_last, nodes_last, inside_last}
use Rattle.ml_heap.proofs.heap.Heap.meet.Goals as goal

pub returns-in_ok-push-in-Cmp-clause-left : goal.returns-in_ok-push-in-Cmp-clause-left
returns-in_ok-push-in-Cmp-clause-left c _ = occurs_last c.args.self.now _ _ _ c.in_ok-push-in-Cmp.ensures.items c.args.number

pub returns-in_ok-push-in-Cmp-clause-inside : goal.returns-in_ok-push-in-Cmp-clause-inside
returns-in_ok-push-in-Cmp-clause-inside c = inside_last c.args.self.now _ _ _ c.in_ok-push-in-Cmp.ensures.items c.requires

pub returns-in_ok-push-in-Cmp-clause-few : goal.returns-in_ok-push-in-Cmp-clause-few
returns-in_ok-push-in-Cmp-clause-few c _ = nodes_last c.args.self.now _ _ _ c.in_ok-push-in-Cmp.ensures.items
