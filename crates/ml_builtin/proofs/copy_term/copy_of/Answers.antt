-- A copy of a copy is numbered as the copy would be.
use Rattle.std.proofs.Common.{◌+◌, ap, ◌∙◌}
use Rattle.ml_term.specs.Tree.{rename, width}
use Rattle.ml_term.proofs.VariableNumbering.{renamed_again, renamed_width}
use Rattle.ml_heap.specs.Changes.{stands_for, variable_count}
use Rattle.ml_heap.proofs.StoredTerms.{grows_none}
use Rattle.ml_builtin.proofs.CellsMade.{tree_after}
use Rattle.ml_builtin.proofs.copy_term.copy_of.Goals as goal

pub returns-clause-copied : goal.returns-clause-copied
returns-clause-copied c =
    tree_after c.args.heap.now c.args.heap.now _ _ _ _ (grows_none c.args.heap.now) c.in_ok-copy_from.ensures.copied
    (ap (rename (variable_count c.args.heap.now)) c.in_ok-copy.ensures.copied.stands
    ∙ renamed_again (variable_count c.args.heap.now) _ (stands_for c.args.heap.now c.args.t))

pub returns-clause-counted : goal.returns-clause-counted
returns-clause-counted c =
    c.in_ok-copy_from.ensures.counted
    ∙ ap (λ n. variable_count c.args.heap.now + n) (ap width c.in_ok-copy.ensures.copied.stands ∙ renamed_width _ (stands_for c.args.heap.now c.args.t))

pub returns-clause-marks : goal.returns-clause-marks
returns-clause-marks c = c.in_ok-copy_from.ensures.copied.grown.marks
