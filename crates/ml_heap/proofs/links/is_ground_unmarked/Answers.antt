-- A compound of ground arguments is ground.
use Rattle.std.proofs.Common.{◌≡◌, ◌<◌, ◌∙◌, ℕ, true, false, ap, sym, subst, length, get_or}
use Rattle.std.proofs.lemmas.List.{get_or_read}
use Rattle.ml_term.specs.Tree.{is_ground}
use Rattle.ml_heap.specs.Changes.{tree_in}
use Rattle.ml_heap.specs.declared.cell.Cell.TheVariants.{Unbound, Cmp}
use Rattle.ml_heap.specs.inside.Layout.{cell_in}
use Rattle.ml_heap.proofs.CellTrees.{fits_at, ground_compound}
use Rattle.ml_heap.proofs.links.is_ground_unmarked.Goals as goal

pub returns-then-not-ground : goal.returns-then-not-ground
returns-then-not-ground c b =
    let f = c.in-Cmp.field-0 in
    let qs = c.in-Cmp.args in
    let at : cell_in c.args.cells.now c.args.at ≡ Cmp f qs false =
    sym (get_or_read c.args.cells.now c.args.at _ c.requires.inside c.index-cells-at.is (Unbound 0))
    ∙ (c.in-Cmp.is ∙ ap (λ g. Cmp f qs g) c.if-not-ground.true) in (
      f,
      (
        qs,
        (
          at,
          λ ts fit. ap is_ground (fits_at ts c.args.cells.now c.args.at (Cmp f qs false) fit c.requires.inside at).0
              ∙ ground_compound f ts qs (subst (λ xs. (i : ℕ) → i < length xs → is_ground (tree_in ts (get_or xs i 0)) ≡ true) c.as_slice.ensures.same
              (c.are_ground.ensures.ground b ts fit)),
        ),
      ),
    )
