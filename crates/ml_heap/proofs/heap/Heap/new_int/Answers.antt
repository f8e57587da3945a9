-- An integer is made.
use Rattle.std.proofs.lemmas.Int.{to_z-of_z}
use mir.Val.{to_z, of_z}
use Rattle.std.specs.Prelude.{List, ℤ}
use Rattle.ml_heap.specs.declared.cell.Cell.{Cell}
use Rattle.std.proofs.Common.{w64, SFits, ◌≡◌, ◌++◌, ◌∷◌, [], ap, ◌∙◌, refl, arith, length}
use Rattle.ml_heap.specs.declared.cell.Cell.TheVariants.{Int}
use Rattle.ml_heap.specs.declared.cell.Step.TheVariants.{Made}
use Rattle.ml_heap.proofs.MadeCells.{integer_kept, one_integer, none_created, kept_as, more_as, count_as}
use Rattle.ml_heap.proofs.heap.Heap.new_int.Goals as goal

-- the integer that was written is the one that was passed
made : {new : List Cell} (cells : List Cell) (z : ℤ) → SFits w64 z → new ≡ cells ++ Int (to_z w64 (of_z w64 z)) ∷ [] → new ≡ cells ++ Int z ∷ []
made cells z f e = e ∙ ap (λ x. cells ++ Int x ∷ []) (to_z-of_z w64 z f)

pub invariant_of-self-2 : goal.invariant_of-self-2
invariant_of-self-2 c = kept_as (c.self.inside.steps.items ++ Made ∷ []) _
    (c.self.inside.cells.items ++ Int c.args.v ∷ []) _ c.self.inside.created _ c.in_ok-push.ensures.step
    (made c.self.inside.cells.items c.args.v c.ranges.v c.in_ok-push.ensures.made) refl (integer_kept _ _ _ c.self.invariant c.args.v c.requires)

pub returns-clause-made : goal.returns-clause-made
returns-clause-made c =
    let place : c.at-at.result ≡ length c.self.inside.cells.items = omega (arith, c.at-at.ensures, c.len.ensures) in
    more_as _ _ (c.self.inside.steps.items ++ Made ∷ []) _ (c.self.inside.cells.items ++ Int c.args.v ∷ []) _
    (length c.self.inside.cells.items) _ _ c.self.view_is c.in_ok-push.ensures.step
    (made c.self.inside.cells.items c.args.v c.ranges.v c.in_ok-push.ensures.made) place (one_integer _ _ _ c.self.invariant c.args.v)

pub returns-clause-counted : goal.returns-clause-counted
returns-clause-counted c = count_as (λ n. n) _ _ (c.self.inside.steps.items ++ Made ∷ []) _
    (c.self.inside.cells.items ++ Int c.args.v ∷ []) _ c.self.view_is c.in_ok-push.ensures.step
    (made c.self.inside.cells.items c.args.v c.ranges.v c.in_ok-push.ensures.made) (none_created _ _ _ c.self.invariant (Int c.args.v) (λ s. refl))
