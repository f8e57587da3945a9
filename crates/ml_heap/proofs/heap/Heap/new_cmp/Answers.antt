-- A compound is made, and marked as ground where all its arguments are known to be.
use Rattle.std.proofs.Common.{rules, ◌≡◌, ◌<◌, ◌++◌, ◌∷◌, [], ℕ, true, map, ap, sym, ◌∙◌, refl, subst, arith, length, get_or}
use Rattle.ml_term.specs.Tree.{is_ground, compound, trees_of}
use Rattle.ml_heap.specs.Changes.{Changes, HasOneMore, state, tree_in, stands_for}
use Rattle.ml_heap.specs.inside.Layout.{changes_of}
use Rattle.ml_heap.specs.declared.cell.Cell.TheVariants.{Cmp}
use Rattle.ml_heap.specs.declared.cell.Step.TheVariants.{Made}
use Rattle.ml_heap.proofs.CellTrees.{ground_compound}
use Rattle.ml_heap.proofs.HeapInvariant.{are_linked, is_inside, fit_seen}
use Rattle.ml_heap.proofs.MadeCells.{compound_kept, one_compound, none_created, kept_as, more_as, count_as}
use Rattle.ml_heap.proofs.heap.Heap.new_cmp.Goals as goal

pub are_ground-ground-requires-clause-inside : goal.are_ground-ground-requires-clause-inside
are_ground-ground-requires-clause-inside c =
    subst (λ qs. (i : ℕ) → i < length qs → get_or qs i 0 < length c.deref.result.now) (sym (c.as_slice.ensures.value ∙ c.in_ok-places.ensures))
    (λ i l. is_inside _ _ _ c.self.invariant _ c.self.view_is _ _ c.deref.ensures.value (c.requires.inside i l))

pub are_ground-ground-requires-clause-linked : goal.are_ground-ground-requires-clause-linked
are_ground-ground-requires-clause-linked c = are_linked _ _ _ c.self.invariant _ c.self.view_is _ c.deref.ensures.value

pub invariant_of-self-2 : goal.invariant_of-self-2
invariant_of-self-2 c =
    let steps = c.self.inside.steps.items in
    let cells = c.self.inside.cells.items in
    let qs = c.args.args.now in
    let ts = (state (changes_of steps cells)).trees in
    let made : c.push.new.cells.items ≡ cells ++ Cmp c.in_ok-name.name qs c.are_ground-ground.result ∷ [] =
    c.in_ok-push.ensures.made ∙ ap (λ qs. cells ++ Cmp c.in_ok-name.name qs c.are_ground-ground.result ∷ []) (c.new.ensures ∙ c.in_ok-places.ensures) in
    let within : (i : ℕ) → i < length qs → get_or qs i 0 < length cells =
    λ i l. is_inside _ _ _ c.self.invariant _ c.self.view_is cells (get_or qs i 0) refl (c.requires.inside i l) in
    let ground : c.are_ground-ground.result ≡ true → is_ground (compound c.in_ok-name.name (trees_of (map (tree_in ts) qs))) ≡ true =
    λ b. ground_compound c.in_ok-name.name ts qs
    (subst (λ xs. (i : ℕ) → i < length xs → is_ground (tree_in ts (get_or xs i 0)) ≡ true) (c.as_slice.ensures.value ∙ c.in_ok-places.ensures)
    (c.are_ground-ground.ensures.ground b ts (fit_seen steps cells c.self.inside.created c.self.invariant
    (changes_of steps cells) refl _ c.deref.ensures.value))) in
    kept_as (steps ++ Made ∷ []) _ (cells ++ Cmp c.in_ok-name.name qs c.are_ground-ground.result ∷ []) _ c.self.inside.created _ c.in_ok-push.ensures.step made
    refl
    (compound_kept steps cells c.self.inside.created c.self.invariant c.in_ok-name.name qs c.are_ground-ground.result within ground
    (search rules) c.requires.low c.requires.high)

pub returns-clause-made : goal.returns-clause-made
returns-clause-made c =
    let steps = c.self.inside.steps.items in
    let cells = c.self.inside.cells.items in
    let qs = c.args.args.now in
    let ts = (state (changes_of steps cells)).trees in
    let made : c.push.new.cells.items ≡ cells ++ Cmp c.in_ok-name.name qs c.are_ground-ground.result ∷ [] =
    c.in_ok-push.ensures.made ∙ ap (λ qs. cells ++ Cmp c.in_ok-name.name qs c.are_ground-ground.result ∷ []) (c.new.ensures ∙ c.in_ok-places.ensures) in
    let within : (i : ℕ) → i < length qs → get_or qs i 0 < length cells =
    λ i l. is_inside _ _ _ c.self.invariant _ c.self.view_is cells (get_or qs i 0) refl (c.requires.inside i l) in
    let ground : c.are_ground-ground.result ≡ true → is_ground (compound c.in_ok-name.name (trees_of (map (tree_in ts) qs))) ≡ true =
    λ b. ground_compound c.in_ok-name.name ts qs
    (subst (λ xs. (i : ℕ) → i < length xs → is_ground (tree_in ts (get_or xs i 0)) ≡ true) (c.as_slice.ensures.value ∙ c.in_ok-places.ensures)
    (c.are_ground-ground.ensures.ground b ts (fit_seen steps cells c.self.inside.created c.self.invariant
    (changes_of steps cells) refl _ c.deref.ensures.value))) in
    let place : c.at-at.result ≡ length cells = omega (arith, c.at-at.ensures, c.len.ensures) in
    let P : Changes → Type 0 = λ h. HasOneMore h (changes_of c.push.new.steps.items c.push.new.cells.items) c.at-at.result
    (compound c.args.name.now (trees_of (map (stands_for h) qs))) in
    subst P c.self.view_is
    (subst (λ f. HasOneMore (changes_of steps cells) (changes_of c.push.new.steps.items c.push.new.cells.items) c.at-at.result
    (compound f (trees_of (map (tree_in ts) qs)))) c.in_ok-name.ensures
    (more_as (changes_of steps cells) _ (steps ++ Made ∷ []) _ (cells ++ Cmp c.in_ok-name.name qs c.are_ground-ground.result ∷ []) _
    (length cells) _ _ refl c.in_ok-push.ensures.step made place
    (one_compound steps cells c.self.inside.created c.self.invariant c.in_ok-name.name qs c.are_ground-ground.result within ground)))

pub returns-clause-counted : goal.returns-clause-counted
returns-clause-counted c =
    let steps = c.self.inside.steps.items in
    let cells = c.self.inside.cells.items in
    count_as (λ n. n) (changes_of steps cells) _ (steps ++ Made ∷ []) _
    (cells ++ Cmp c.in_ok-name.name c.new.result c.are_ground-ground.result ∷ []) _ c.self.view_is c.in_ok-push.ensures.step c.in_ok-push.ensures.made
    (none_created steps cells c.self.inside.created c.self.invariant (Cmp c.in_ok-name.name c.new.result c.are_ground-ground.result) (λ s. refl))
