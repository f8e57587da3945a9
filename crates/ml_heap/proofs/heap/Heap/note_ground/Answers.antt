-- A compound is marked as ground: the trees stay.
use Rattle.std.proofs.Common.{rules, ◌≡◌, ◌<◌, ℕ, List, true, false, length, set, ap, subst, sym, ◌∙◌, refl, arith}
use Rattle.ml_term.specs.Tree.{is_ground}
use Rattle.ml_heap.specs.Changes.{Changes, state, tree_in}
use Rattle.ml_heap.specs.declared.cell.Cell.TheVariants.{Cmp}
use Rattle.ml_heap.specs.inside.Layout.{changes_of, cell_in, with_mark, IsGroundUnmarked}
use Rattle.ml_heap.proofs.HeapInvariant.{is_inside, fit_seen}
use Rattle.ml_heap.proofs.StepsWithoutTrees.{found_is, found_kept, found_state, found_marks}
use Rattle.ml_heap.proofs.heap.Heap.note_ground.Goals as goal

pub is_ground_unmarked-requires-clause-inside : goal.is_ground_unmarked-requires-clause-inside
is_ground_unmarked-requires-clause-inside c = is_inside _ _ _ c.self.invariant _ c.self.view_is _ c.args.at c.deref.ensures.value c.requires

pub is_ground_unmarked-requires-clause-fits : goal.is_ground_unmarked-requires-clause-fits
is_ground_unmarked-requires-clause-fits c = ((state c.args.self.now).trees, fit_seen _ _ _ c.self.invariant _ c.self.view_is _ c.deref.ensures.value)

pub invariant_of-self-then-is_ground_unmarked : goal.invariant_of-self-then-is_ground_unmarked
invariant_of-self-then-is_ground_unmarked c =
    let u : IsGroundUnmarked c.self.inside.cells.items c.args.at =
    subst (λ cs. IsGroundUnmarked cs c.args.at) c.deref.ensures.value (c.is_ground_unmarked.ensures c.if-is_ground_unmarked.true) in
    let ground = u.1.1.1 (state (changes_of c.self.inside.steps.items c.self.inside.cells.items)).trees (fit_seen _ _ _ c.self.invariant _ refl _ refl) in
    let inside : c.args.at < length c.self.inside.cells.items = is_inside _ _ _ c.self.invariant _ c.self.view_is _ c.args.at refl c.requires in
    found_kept _ _ _ c.self.invariant c.args.at u.0 u.1.0 inside u.1.1.0 ground _ c.self.view_is _ _ c.in_ok-push.ensures.items
    (c.set_mark.ensures ∙ ap (λ x. set c.self.inside.cells.items c.args.at (with_mark true x)) u.1.1.0)

pub returns-in_ok-push-clause-trees : goal.returns-in_ok-push-clause-trees
returns-in_ok-push-clause-trees c =
    let u : IsGroundUnmarked c.self.inside.cells.items c.args.at =
    subst (λ cs. IsGroundUnmarked cs c.args.at) c.deref.ensures.value (c.is_ground_unmarked.ensures c.if-is_ground_unmarked.true) in
    let ground = u.1.1.1 (state (changes_of c.self.inside.steps.items c.self.inside.cells.items)).trees (fit_seen _ _ _ c.self.invariant _ refl _ refl) in
    let inside : c.args.at < length c.self.inside.cells.items = is_inside _ _ _ c.self.invariant _ c.self.view_is _ c.args.at refl c.requires in
    ap (λ s. s.trees) (found_state c.args.self.now _ c.args.at
    (found_is _ _ _ c.self.invariant c.args.at u.0 u.1.0 inside u.1.1.0 ground c.args.self.now c.self.view_is _ _ c.in_ok-push.ensures.items
    (c.set_mark.ensures ∙ ap (λ x. set c.self.inside.cells.items c.args.at (with_mark true x)) u.1.1.0)))

pub returns-in_ok-push-clause-counted : goal.returns-in_ok-push-clause-counted
returns-in_ok-push-clause-counted c =
    let u : IsGroundUnmarked c.self.inside.cells.items c.args.at =
    subst (λ cs. IsGroundUnmarked cs c.args.at) c.deref.ensures.value (c.is_ground_unmarked.ensures c.if-is_ground_unmarked.true) in
    let ground = u.1.1.1 (state (changes_of c.self.inside.steps.items c.self.inside.cells.items)).trees (fit_seen _ _ _ c.self.invariant _ refl _ refl) in
    let inside : c.args.at < length c.self.inside.cells.items = is_inside _ _ _ c.self.invariant _ c.self.view_is _ c.args.at refl c.requires in
    ap (λ s. s.created) (found_state c.args.self.now _ c.args.at
    (found_is _ _ _ c.self.invariant c.args.at u.0 u.1.0 inside u.1.1.0 ground c.args.self.now c.self.view_is _ _ c.in_ok-push.ensures.items
    (c.set_mark.ensures ∙ ap (λ x. set c.self.inside.cells.items c.args.at (with_mark true x)) u.1.1.0)))

pub returns-in_ok-push-clause-marks : goal.returns-in_ok-push-clause-marks
returns-in_ok-push-clause-marks c =
    let u : IsGroundUnmarked c.self.inside.cells.items c.args.at =
    subst (λ cs. IsGroundUnmarked cs c.args.at) c.deref.ensures.value (c.is_ground_unmarked.ensures c.if-is_ground_unmarked.true) in
    let ground = u.1.1.1 (state (changes_of c.self.inside.steps.items c.self.inside.cells.items)).trees (fit_seen _ _ _ c.self.invariant _ refl _ refl) in
    let inside : c.args.at < length c.self.inside.cells.items = is_inside _ _ _ c.self.invariant _ c.self.view_is _ c.args.at refl c.requires in
    found_marks c.args.self.now _ c.args.at
    (found_is _ _ _ c.self.invariant c.args.at u.0 u.1.0 inside u.1.1.0 ground c.args.self.now c.self.view_is _ _ c.in_ok-push.ensures.items
    (c.set_mark.ensures ∙ ap (λ x. set c.self.inside.cells.items c.args.at (with_mark true x)) u.1.1.0))
