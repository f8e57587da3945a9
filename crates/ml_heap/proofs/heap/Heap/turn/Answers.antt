-- A rule is applied: the arguments' pairs are put last, or the variable is bound.
use Rattle.std.proofs.Common.{ap, sym, ◌∙◌, length}
use Rattle.ml_heap.specs.Changes.{trees, stands_for, cell_count}
use Rattle.ml_heap.proofs.Worklists.{splits, stay_below, binds, as_many_trees, turned_as}
use Rattle.ml_heap.proofs.heap.Heap.turn.Goals as goal

pub returns-in_ok-push_pairs-in-Split-clause-turned : goal.returns-in_ok-push_pairs-in-Split-clause-turned
returns-in_ok-push_pairs-in-Split-clause-turned c _ =
    turned_as _ _ _ _ _ _ _ _ (ap (stands_for c.args.self.now) c.at.ensures) (ap (stands_for c.args.self.now) c.at-2.ensures)
    (splits c.args.self.now _ _ _ _ c.in-Split.ensures.3 _ _ c.in_ok-push_pairs-in-Split.ensures)

pub returns-in_ok-push_pairs-in-Split-clause-inside : goal.returns-in_ok-push_pairs-in-Split-clause-inside
returns-in_ok-push_pairs-in-Split-clause-inside c =
    stay_below c.args.self.now (stands_for c.args.self.now c.at.result) (stands_for c.args.self.now c.at-2.result) _ _ c.in-Split.ensures.3 _ _
    c.in_ok-push_pairs-in-Split.ensures (cell_count c.args.self.now) c.requires.left_inside c.in-Split.ensures.1 c.in-Split.ensures.2

pub returns-in_ok-bind-in-Bind-clause-turned : goal.returns-in_ok-bind-in-Bind-clause-turned
returns-in_ok-bind-in-Bind-clause-turned c _ =
    turned_as _ _ _ _ _ _ _ _ (ap (stands_for c.args.self.now) c.at.ensures) (ap (stands_for c.args.self.now) c.at-2.ensures)
    (binds (stands_for c.args.self.now c.in-Bind.var) (stands_for c.args.self.now c.in-Bind.to)
    (stands_for c.args.self.now c.at.result) (stands_for c.args.self.now c.at-2.result) (trees c.args.self.now) (trees c.bind.new.self) c.args.left.now.items
    c.in-Bind.ensures.2 (sym c.in_ok-occurs_in-in-Bind.ensures ∙ c.if-branch.false) c.in_ok-bind-in-Bind.ensures.bound)

pub returns-in_ok-bind-in-Bind-clause-cells : goal.returns-in_ok-bind-in-Bind-clause-cells
returns-in_ok-bind-in-Bind-clause-cells c = ap length c.in_ok-bind-in-Bind.ensures.bound ∙ as_many_trees _ _ _
