-- One rule for the two cells, and then what it leaves.
use Rattle.std.proofs.Common.{◌≡◌, ◌∙◌, sym, ap}
use Rattle.std.specs.Option.{is_some}
use Rattle.ml_heap.proofs.EquationWorklists.{first_leads, found_later, replaced_later, none_at_first, no_replacing_at_first}
use Rattle.ml_heap.proofs.heap.Heap.unify.Goals as goal

pub returns-in_ok-solve-clause-found : goal.returns-in_ok-solve-clause-found
returns-in_ok-solve-clause-found c =
    c.in_ok-solve.ensures.found
    ∙ sym (found_later _ _ _ _ _ (first_leads c.args.self.now _ _ _ _ c.place.ensures c.place-2.ensures _ _ _ c.new-left.ensures.items
    (c.in_ok-turn.ensures.turned c.if-branch.true)))

pub returns-in_ok-solve-clause-replaced : goal.returns-in_ok-solve-clause-replaced
returns-in_ok-solve-clause-replaced c m e =
    replaced_later _ _ _ _ _ (first_leads c.args.self.now _ _ _ _ c.place.ensures c.place-2.ensures _ _ _ c.new-left.ensures.items
    (c.in_ok-turn.ensures.turned c.if-branch.true)) _ m e
    c.in_ok-solve.ensures.replaced

pub returns-else-branch-clause-found : goal.returns-else-branch-clause-found
returns-else-branch-clause-found c =
    c.if-branch.false ∙ sym (ap is_some (none_at_first c.args.self.now _ _ _ _ c.place.ensures c.place-2.ensures
    (c.in_ok-turn.ensures.clashed c.if-branch.false)))

pub returns-else-branch-clause-replaced : goal.returns-else-branch-clause-replaced
returns-else-branch-clause-replaced c m e = no_replacing_at_first c.args.self.now _ _ _ _ c.place.ensures c.place-2.ensures
    (c.in_ok-turn.ensures.clashed c.if-branch.false) _ m e
