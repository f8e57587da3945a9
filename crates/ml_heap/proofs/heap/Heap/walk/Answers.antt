-- A variable occurs in a compound where it occurs in an argument.
use Rattle.std.proofs.Common.{◌||◌, ◌∙◌, sym, ap, arith}
use Rattle.ml_heap.specs.inside.Walks.{occurs_at}
use Rattle.ml_heap.proofs.TermWalks.{arguments_nodes, arguments_occurs}
use Rattle.ml_heap.proofs.heap.Heap.walk.Goals as goal

pub returns-in_ok-meet_all-in-Cmp-clause-found : goal.returns-in_ok-meet_all-in-Cmp-clause-found
returns-in_ok-meet_all-in-Cmp-clause-found c e =
    arguments_occurs _ _ _ _ _ _ _ _ c.at.ensures c.end_at.ensures.told c.in-Cmp.is c.as_slice.ensures.same c.args.number
    ∙ c.in_ok-meet_all-in-Cmp.ensures.found e

pub returns-in_ok-meet_all-in-Cmp-clause-left : goal.returns-in_ok-meet_all-in-Cmp-clause-left
returns-in_ok-meet_all-in-Cmp-clause-left c e =
    c.in_ok-meet_all-in-Cmp.ensures.left e
    ∙ ap (λ b. occurs_at c.args.self.now c.args.number c.args.left.now.items || b)
    (sym (arguments_occurs _ _ _ _ _ _ _ _ c.at.ensures c.end_at.ensures.told c.in-Cmp.is c.as_slice.ensures.same c.args.number))

pub returns-in_ok-meet_all-in-Cmp-clause-fewer : goal.returns-in_ok-meet_all-in-Cmp-clause-fewer
returns-in_ok-meet_all-in-Cmp-clause-fewer c e =
    omega (arith, c.in_ok-meet_all-in-Cmp.ensures.few e, arguments_nodes _ _ _ _ _ _ _ _ c.at.ensures c.end_at.ensures.told c.in-Cmp.is c.as_slice.ensures.same)
