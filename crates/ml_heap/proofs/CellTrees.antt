-- What a cell says of its tree.
use Rattle.std.specs.Prelude.{◌≡◌, ℕ, suc, ◌<◌, true, List, [], ◌∷◌, map, length, get_or}
use Rattle.std.proofs.Common.{ap, subst, inl, inr, arith}
use Rattle.ml_term.specs.Tree.{Tree, compound, trees_of, is_ground, variables, variables_of}
use Rattle.ml_term.proofs.DistinctCounts.{In}
use Rattle.ml_term.proofs.UnificationEnds.{in_either}
use Rattle.ml_term.proofs.GroundTerms.{no_variable, ground_without}
use Rattle.ml_heap.specs.Changes.{tree_in}
use Rattle.ml_heap.specs.declared.cell.Cell.{Cell}
use Rattle.ml_heap.specs.declared.cell.Cell.TheVariants.{Unbound, Bound, Int, Atom, Cmp}
use Rattle.ml_heap.specs.inside.Layout.{cell_in, Fits, FitAll, AreLinked, is_known_ground}

-- a cell that was read fits its tree
pub fits_at : (ts : List Tree) (cells : List Cell) (r : ℕ) (c : Cell) → FitAll ts cells → r < length cells → cell_in cells r ≡ c →
    Fits ts cells (tree_in ts r) c
fits_at ts cells r c f l e = subst (Fits ts cells (tree_in ts r)) e (f r l)

pub linked : (ts : List Tree) (cells : List Cell) → FitAll ts cells → AreLinked cells
linked ts cells f r n q l e = let h = fits_at ts cells r (Bound n q) f l e in (h.1, h.2)

pub followed : (ts : List Tree) (cells : List Cell) (r n q : ℕ) → FitAll ts cells → r < length cells → cell_in cells r ≡ Bound n q → tree_in ts r ≡ tree_in ts q
followed ts cells r n q f l e = (fits_at ts cells r (Bound n q) f l e).0

-- what is known to be ground is
pub ground_cell : (ts : List Tree) (cells : List Cell) (t : Tree) (c : Cell) → Fits ts cells t c → is_known_ground c ≡ true → is_ground t ≡ true
ground_cell ts cells t (Unbound n) f h = absurd (cc h)
ground_cell ts cells t (Bound n q) f h = absurd (cc h)
ground_cell ts cells t (Int z) f h = ap is_ground f
ground_cell ts cells t (Atom g) f h = ap is_ground f
ground_cell ts cells t (Cmp g qs b) f h = f.2 h

-- a compound of ground arguments is ground
pub ground_compound : (f : List ℕ) (ts : List Tree) (qs : List ℕ) → ((i : ℕ) → i < length qs → is_ground (tree_in ts (get_or qs i 0)) ≡ true)
    → is_ground (compound f (trees_of (map (tree_in ts) qs))) ≡ true
ground_compound f ts qs h = ground_without (compound f (trees_of (map (tree_in ts) qs))) (none qs h)
  where
    none : (qs : List ℕ) → ((i : ℕ) → i < length qs → is_ground (tree_in ts (get_or qs i 0)) ≡ true) → (k : ℕ) →
        In k (variables_of (trees_of (map (tree_in ts) qs))) → ⊥
    none [] h k i = cc i
    none (q ∷ qs) h k i = elim (in_either k (variables (tree_in ts q)) (variables_of (trees_of (map (tree_in ts) qs))) i)
        [ inl j ↦ no_variable (tree_in ts q) (h 0 (omega arith)) k j | inr j ↦ none qs (λ n l. h (suc n) (omega arith)) k j ]
