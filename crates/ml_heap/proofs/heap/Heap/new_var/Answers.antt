-- A variable is made, with the next number.
use Rattle.std.proofs.Common.{rules, ◌≡◌, ◌+◌, ◌++◌, ◌∷◌, [], ap, sym, refl, arith, length}
use Rattle.ml_heap.specs.declared.cell.Cell.TheVariants.{Unbound}
use Rattle.ml_heap.specs.declared.cell.Step.TheVariants.{Made}
use Rattle.ml_heap.proofs.MadeCells.{variable_kept, one_variable, one_created, kept_as, more_as, count_as}
use Rattle.ml_heap.specs.Changes.{state}
use Rattle.ml_term.specs.Tree.{variable}
use Rattle.ml_heap.proofs.heap.Heap.new_var.Goals as goal

pub invariant_of-self-2 : goal.invariant_of-self-2
invariant_of-self-2 c = kept_as (c.self.inside.steps.items ++ Made ∷ []) _ (c.self.inside.cells.items ++ Unbound c.self.inside.created ∷ []) _
    (c.self.inside.created + 1) _ c.in_ok-push.ensures.step c.in_ok-push.ensures.made refl (variable_kept _ _ _ c.self.invariant (search rules))

pub returns-clause-made : goal.returns-clause-made
returns-clause-made c =
    let p = ap (λ h. variable (state h).created) (sym c.self.view_is) in
    let place : c.at-at.result ≡ length c.self.inside.cells.items = omega (arith, c.at-at.ensures, c.len.ensures) in
    rw p (more_as _ _ (c.self.inside.steps.items ++ Made ∷ []) _ (c.self.inside.cells.items ++ Unbound c.self.inside.created ∷ []) _
    (length c.self.inside.cells.items) _ _ c.self.view_is c.in_ok-push.ensures.step c.in_ok-push.ensures.made place (one_variable _ _ _ c.self.invariant))

pub returns-clause-counted : goal.returns-clause-counted
returns-clause-counted c = count_as (λ n. n + 1) _ _ (c.self.inside.steps.items ++ Made ∷ []) _
    (c.self.inside.cells.items ++ Unbound c.self.inside.created ∷ []) _ c.self.view_is c.in_ok-push.ensures.step c.in_ok-push.ensures.made
    (one_created _ _ _ c.self.invariant)
