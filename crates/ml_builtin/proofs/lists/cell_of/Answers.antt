-- A compound of two arguments and the name of cells is one.
use Rattle.std.proofs.Common.{sym, ◌∙◌}
use Rattle.ml_builtin.proofs.ListCells.{variable_no_cell, integer_no_cell, atom_no_cell, arity_no_cell, name_no_cell, is_cell}
use Rattle.ml_builtin.proofs.lists.cell_of.Goals as goal

pub returns-in-Var : goal.returns-in-Var
returns-in-Var c = variable_no_cell _ c.in-Var.ensures.shown.1

pub returns-in-Int : goal.returns-in-Int
returns-in-Int c = integer_no_cell _ _ c.in-Int.ensures.shown

pub returns-in-Atom : goal.returns-in-Atom
returns-in-Atom c = atom_no_cell _ _ c.in-Atom.ensures.shown

pub returns-then-arity-ne2 : goal.returns-then-arity-ne2
returns-then-arity-ne2 c = arity_no_cell _ _ c.in-Cmp.ensures.shown.0 _ c.in-Cmp.ensures.shown.1 c.if-arity-ne2.true

pub returns-then-is_dot : goal.returns-then-is_dot
returns-then-is_dot c =
    is_cell _ _ c.in-Cmp.ensures.shown.0 c.args.heap.now c.arg.result c.arg-then-is_dot.result (c.in-Cmp.ensures.shown.1 ∙ c.if-arity-ne2.false)
    (sym c.is_dot.ensures ∙ c.if-is_dot.true) c.arg.ensures.inside c.arg-then-is_dot.ensures.inside c.arg.ensures.argument c.arg-then-is_dot.ensures.argument

pub returns-else-is_dot : goal.returns-else-is_dot
returns-else-is_dot c =
    name_no_cell _ _ c.in-Cmp.ensures.shown.0 (c.in-Cmp.ensures.shown.1 ∙ c.if-arity-ne2.false) (sym c.is_dot.ensures ∙ c.if-is_dot.false)
