-- A compound's name is an atom, and every other term is its own.
use Rattle.std.proofs.Common.{sym, ◌∙◌}
use Rattle.ml_builtin.proofs.CellsMade.{own_name, compound_named}
use Rattle.ml_builtin.proofs.functor.name_cell.Goals as goal

pub returns-then-not-is_compound-clause-made : goal.returns-then-not-is_compound-clause-made
returns-then-not-is_compound-clause-made c = own_name c.args.heap.now c.args.t c.requires (sym c.is_compound.ensures ∙ c.if-not-is_compound.true)

pub returns-clause-made : goal.returns-clause-made
returns-clause-made c =
    compound_named c.args.heap.now _ c.args.t _ _ (sym c.is_compound.ensures ∙ c.if-not-is_compound.false) c.in_ok-name.ensures c.in_ok-new_atom.ensures.made
