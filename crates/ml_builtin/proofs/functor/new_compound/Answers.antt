-- The compound is made of the name and of the new variables.
use Rattle.std.proofs.Common.{◌<◌, ℕ, ◌∙◌, sym, subst, length, slice_index, arith}
use Rattle.ml_heap.specs.Changes.{cell_count, stands_for, variable_count}
use Rattle.ml_heap.proofs.TermWalks.{cells_at}
use Rattle.ml_builtin.proofs.CellsMade.{made_after, new_term_is}
use Rattle.ml_builtin.proofs.functor.new_compound.Goals as goal

pub returns-clause-made : goal.returns-clause-made
returns-clause-made c =
    made_after c.args.heap.now _ _ _ _ _ c.in_ok-variables.ensures.grown c.in_ok-new_cmp.ensures.made
    (cc (c.in_ok-name.ensures, c.in_ok-variables.ensures.stand) ∙ new_term_is (stands_for c.args.heap.now c.args.n) c.args.arity
    (variable_count c.args.heap.now)
    (omega (arith, c.requires.some)))

pub new_cmp-requires-clause-inside : goal.new_cmp-requires-clause-inside
new_cmp-requires-clause-inside c =
    subst (λ qs. (i : ℕ) → i < length qs → slice_index qs i < cell_count c.new_variables.new.heap) (sym c.as_slice.ensures.value)
    (cells_at _ _ c.in_ok-variables.ensures.inside)
