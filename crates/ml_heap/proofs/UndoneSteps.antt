-- The latest step undone: what is kept, and that one change is undone.
use Rattle.std.specs.Prelude.{◌≡◌, ℕ, ◌+◌, ◌-◌, ◌<◌, ◌≤◌, true, false, cond, List, [], ◌∷◌, reverse, length, take, drop}
use Rattle.std.proofs.Common.{refl, sym, ap, ◌∙◌, subst, arith}
use Rattle.std.specs.List.{list_all}
use Rattle.std.proofs.lemmas.Bool.{and_parts}
use Rattle.std.proofs.lemmas.List.{reverse-append}
use Rattle.ml_heap.specs.Changes.{Changes, State, state, apply_change}
use Rattle.ml_heap.specs.declared.cell.Cell.{Cell}
use Rattle.ml_heap.specs.declared.cell.Cell.TheVariants.{Unbound, Bound, Int, Atom, Cmp}
use Rattle.ml_heap.specs.declared.cell.Step.{Step}
use Rattle.ml_heap.specs.declared.cell.Step.TheVariants.{Made, Binding, LeftOut, Ground}
use Rattle.ml_heap.specs.inside.Layout.{change_of_cell, is_valid_change, changes_by, changes_of, cell_in, cells_before, is_of_variable, last_step, numbers_of}
use Rattle.ml_heap.specs.inside.Layout.{IsStepOf, AreKept, IsKept}
use Rattle.ml_heap.proofs.ListEnds.{split_last}
use Rattle.ml_heap.proofs.KeptCells.{change_of, changes_before}

cell_counts : (c : Cell) (s : State) → (apply_change (change_of_cell c) s).created ≡ s.created + cond (is_of_variable c) 1 0
cell_counts (Unbound n) s = refl
cell_counts (Bound n q) s = refl
cell_counts (Int z) s = omega arith
cell_counts (Atom f) s = omega arith
cell_counts (Cmp f qs g) s = omega arith

step_counts : (t : Step) (cells : List Cell) (s : State) → (apply_change (change_of t cells) s).created ≡ s.created + numbers_of t cells
step_counts Made cells s = cell_counts (cell_in cells (length cells - 1)) s
step_counts (Binding v q) cells s = omega arith
step_counts (LeftOut n) cells s = refl
step_counts (Ground r) cells s = omega arith

module _ (steps : List Step) (cells : List Cell) (n : ℕ) (k : IsKept steps cells n) (some : 0 < length steps) where
  abbrev pub rest : List Step
  rest = take (length steps - 1) steps

  abbrev last : Step
  last = last_step steps

  turned : reverse steps ≡ last ∷ reverse rest
  turned = ap reverse (split_last steps Made some) ∙ reverse-append rest (last ∷ [])

  kept : AreKept (last ∷ reverse rest) cells
  kept = subst (λ ss. AreKept ss cells) turned k.kept

  pub is_step : IsStepOf last cells
  is_step = kept.1

  pub undone_changes : changes_of steps cells ≡ change_of last cells ∷ changes_of rest (cells_before last cells)
  undone_changes = ap (λ ss. changes_by ss cells) turned ∙ changes_before last (reverse rest) cells kept.1

  counts : n ≡ (state (changes_of rest (cells_before last cells))).created + numbers_of last cells
  unfolding state
  counts = k.count ∙ (ap (λ h. (state h).created) undone_changes ∙ step_counts last cells (state (changes_of rest (cells_before last cells))))

  valid_before : list_all is_valid_change (changes_of rest (cells_before last cells)) ≡ true
  valid_before = (and_parts (is_valid_change (change_of last cells)) (list_all is_valid_change (changes_of rest (cells_before last cells)))
      (sym (ap (list_all is_valid_change) undone_changes) ∙ k.valid)).1

  pub no_more_than : numbers_of last cells ≤ n
  no_more_than = omega (arith, counts)

  pub kept_before : IsKept rest (cells_before last cells) (n - numbers_of last cells)
  kept_before = record { kept = kept.2; count = omega (arith, counts); few = omega (arith, k.few); valid = valid_before }

  pub rest_is : (h : Changes) (steps' : List Step) (cells' : List Cell) → changes_of steps cells ≡ h → steps' ≡ rest → cells' ≡ cells_before last cells →
      changes_of steps' cells' ≡ drop 1 h
  rest_is h steps' cells' e p q = rw (p, q) (ap (drop 1) (sym undone_changes ∙ e))
