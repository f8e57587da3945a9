-- Cells and what they stand for while a heap grows.
use Rattle.std.proofs.Common.{◌≡◌, ℕ, ◌<◌, List, [], ◌∷◌, ◌++◌, map, length, get_or, refl, sym, ap, subst, ◌∙◌, arith, append_assoc, length-append, Some}
use Rattle.std.proofs.lemmas.List.{map-append, append-nil, length-map}
use Rattle.std.proofs.lemmas.Option.{slice_get_within, get_or_from_slice_get, slice_get-get_or}
use Rattle.ml_term.specs.Tree.{Tree}
use Rattle.ml_heap.specs.Changes.{Changes, cell_count, stands_for, Grows, AreCells}
use Rattle.ml_heap.proofs.ListEnds.{map_alike}
use Rattle.ml_heap.proofs.StoredTerms.{grows_none}
use Rattle.ml_heap.proofs.TermWalks.{cells_at, cells_append, cells_wider}
use Rattle.ml_compile.specs.declared.instr.Instr.{Instr}
use Rattle.ml_compile.specs.Spells.{StandsAt}
use Rattle.ml_match.specs.Slots.{HasSlot}
use Rattle.ml_match.specs.Built.{HasBuilt}

-- cells stand for what they stood for
pub still : (h h' : Changes) (qs : List ℕ) → Grows h h' → AreCells (cell_count h) qs → map (stands_for h') qs ≡ map (stands_for h) qs
still h h' qs g a = map_alike (stands_for h') (stands_for h) qs (λ i l. g.others (get_or qs i 0) (cells_at (cell_count h) qs a i l))

-- a heap that is the same grows
pub grows_same : (h h' : Changes) → h' ≡ h → Grows h h'
grows_same h h' e = subst (Grows h) (sym e) (grows_none h)

-- the instruction that the code reads
pub reads : (code : List Instr) (i : ℕ) (d x : Instr) → i < length code → get_or code i d ≡ x → StandsAt code i x
reads code i d x lt e = slice_get-get_or code i d lt ∙ ap Some e

-- what a slot has
module _ (h : Changes) (slots : List ℕ) (place : ℕ) (s : HasSlot h slots place) where
  pub slot_within : place < length slots
  slot_within = slice_get_within slots place s.cell s.slot

  pub slot_is : (d : ℕ) → get_or slots place d ≡ s.cell
  slot_is d = get_or_from_slice_get slots place s.cell d s.slot

  pub slot_inside : (d : ℕ) → get_or slots place d < cell_count h
  slot_inside d = omega (arith, slot_is d, s.inside)

-- no terms
pub built_none : (h : Changes) (before : List ℕ) → HasBuilt h before before []
built_none h before = record { made = []; cells = sym (append-nil before); inside = tt; stand = refl }

-- one term more behind those that were built
pub built_more : (h h' : Changes) (before cells cells' : List ℕ) (ts : List Tree) (t : Tree) (r : ℕ) → HasBuilt h before cells ts → Grows h h'
    → cells' ≡ cells ++ r ∷ [] → r < cell_count h' → stands_for h' r ≡ t → HasBuilt h' before cells' (ts ++ t ∷ [])
built_more h h' before cells cells' ts t r b g e l s = record {
  made = b.made ++ r ∷ [];
  cells = e ∙ ap (λ qs. qs ++ r ∷ []) b.cells ∙ append_assoc before b.made (r ∷ []);
  inside = cells_append (cell_count h') b.made (r ∷ []) (cells_wider (cell_count h) (cell_count h') b.made g.cells b.inside) (l, tt);
  stand = map-append (stands_for h') b.made (r ∷ []) ∙ (ap (λ us. us ++ stands_for h' r ∷ []) (still h h' b.made g b.inside ∙ b.stand)
      ∙ ap (λ u. ts ++ u ∷ []) s);
}

-- a term that was built has a cell
pub cells_come : (h : Changes) (before after : List ℕ) (t : Tree) → HasBuilt h before after (t ∷ []) → 0 < length after
cells_come h before after t b =
    omega (arith, ap length b.cells, length-append before b.made, ap length b.stand, length-map b.made (stands_for h))
