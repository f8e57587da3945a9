-- An atom is made.
use Rattle.std.proofs.Common.{rules, ◌≡◌, ◌++◌, ◌∷◌, [], refl, arith, length}
use Rattle.ml_heap.specs.declared.cell.Cell.TheVariants.{Atom}
use Rattle.ml_heap.specs.declared.cell.Step.TheVariants.{Made}
use Rattle.ml_heap.proofs.MadeCells.{atom_kept, one_atom, none_created, kept_as, more_as, count_as}
use Rattle.ml_heap.proofs.heap.Heap.new_atom.Goals as goal

pub invariant_of-self-2 : goal.invariant_of-self-2
invariant_of-self-2 c = kept_as (c.self.inside.steps.items ++ Made ∷ []) _
    (c.self.inside.cells.items ++ Atom c.in_ok-name.name ∷ []) _ c.self.inside.created _ c.in_ok-push.ensures.step c.in_ok-push.ensures.made refl
    (atom_kept _ _ _ c.self.invariant c.in_ok-name.name (search rules))

pub returns-clause-made : goal.returns-clause-made
returns-clause-made c =
    let place : c.at-at.result ≡ length c.self.inside.cells.items = omega (arith, c.at-at.ensures, c.len.ensures) in
    rw (← c.in_ok-name.ensures) (more_as _ _ (c.self.inside.steps.items ++ Made ∷ []) _ (c.self.inside.cells.items ++ Atom c.in_ok-name.name ∷ []) _
    (length c.self.inside.cells.items) _ _ c.self.view_is c.in_ok-push.ensures.step c.in_ok-push.ensures.made place
    (one_atom _ _ _ c.self.invariant c.in_ok-name.name))

pub returns-clause-counted : goal.returns-clause-counted
returns-clause-counted c = count_as (λ n. n) _ _ (c.self.inside.steps.items ++ Made ∷ []) _
    (c.self.inside.cells.items ++ Atom c.in_ok-name.name ∷ []) _ c.self.view_is c.in_ok-push.ensures.step c.in_ok-push.ensures.made
    (none_created _ _ _ c.self.invariant (Atom c.in_ok-name.name) (λ s. refl))
