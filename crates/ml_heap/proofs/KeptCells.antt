-- Cells go on to stand for their trees when one is made, and when the last step is undone.
use Rattle.std.specs.Prelude.{◌≡◌, ◌≢◌, ℕ, suc, ◌+◌, ◌-◌, ◌<◌, ◌≤◌, pos, Bool, false, List, [], ◌∷◌, ◌++◌, map, reverse, length, take, get_or, set, Some, ◌⊎◌}
use Rattle.std.proofs.Common.{refl, sym, ap, ◌∙◌, subst, inl, inr, arith, length-append}
use Rattle.std.proofs.lemmas.List.{map-append, reverse-append}
use Rattle.std.proofs.Math.ListN.{get_or-append}
use Rattle.std.proofs.Math.Seq.{get_or-append_seam, map-set_same}
use Rattle.ml_term.specs.Tree.{Tree, compound, integer, trees_of}
use Rattle.ml_heap.specs.Changes.{Change, variable_bound, numbers_left_out, ground_found, State, state, apply_change, tree_in}
use Rattle.ml_heap.specs.declared.cell.Cell.{Cell}
use Rattle.ml_heap.specs.declared.cell.Cell.TheVariants.{Unbound, Bound, Int, Atom, Cmp}
use Rattle.ml_heap.specs.declared.cell.Step.{Step}
use Rattle.ml_heap.specs.declared.cell.Step.TheVariants.{Made, Binding, LeftOut, Ground}
use Rattle.ml_heap.specs.inside.Layout.{change_of_cell, interleave_steps, changes_by, cell_in, number_of, rank_of, Fits, StandFor, free_cell, with_mark}
use Rattle.ml_heap.specs.inside.Layout.{cells_before, IsStepOf, AreKept}
use Rattle.ml_heap.proofs.ListEnds.{all_but_last, split_last, map_alike}

-- the change of one step
abbrev pub change_of : Step → List Cell → Change
change_of Made cells = change_of_cell (cell_in cells (length cells - 1))
change_of (Binding v q) cells = variable_bound v q
change_of (LeftOut n) cells = numbers_left_out n
change_of (Ground r) cells = ground_found r

pub one_made : (ss : List Step) (cells : List Cell) (c : Cell) → changes_by (Made ∷ ss) (cells ++ c ∷ []) ≡ change_of_cell c ∷ changes_by ss cells
one_made ss cells c = rw (map-append change_of_cell cells (c ∷ []), reverse-append (map change_of_cell cells) (change_of_cell c ∷ [])) refl

same_change : (c : Cell) → change_of_cell (free_cell c) ≡ change_of_cell c
same_change (Unbound n) = refl
same_change (Bound n q) = refl
same_change (Int z) = refl
same_change (Atom f) = refl
same_change (Cmp f qs g) = refl

pub same_made : (g : Bool) (c : Cell) → change_of_cell (with_mark g c) ≡ change_of_cell c
same_made g (Unbound n) = refl
same_made g (Bound n q) = refl
same_made g (Int z) = refl
same_made g (Atom f) = refl
same_made g (Cmp f qs b) = refl

-- a cell that is replaced by one that was made in the same way
pub one_replaced : (ss : List Step) (cells : List Cell) (v : ℕ) (c : Cell) → change_of_cell c ≡ change_of_cell (cell_in cells v) →
    changes_by ss (set cells v c) ≡ changes_by ss cells
one_replaced ss cells v c e = ap (λ ms. interleave_steps ss (reverse ms)) (map-set_same change_of_cell cells v c (Unbound 0) e)

pub changes_before : (s : Step) (ss : List Step) (cells : List Cell) → IsStepOf s cells →
    changes_by (s ∷ ss) cells ≡ change_of s cells ∷ changes_by ss (cells_before s cells)
changes_before Made ss cells h =
    ap (changes_by (Made ∷ ss)) (split_last cells (Unbound 0) h) ∙ one_made ss (take (length cells - 1) cells) (cell_in cells (length cells - 1))
changes_before (Binding v q) ss cells h = ap (λ cs. variable_bound v q ∷ cs)
    (sym (one_replaced ss cells v (free_cell (cell_in cells v)) (same_change (cell_in cells v))))
changes_before (LeftOut n) ss cells h = refl
changes_before (Ground r) ss cells h = ap (λ cs. ground_found r ∷ cs)
    (sym (one_replaced ss cells r (with_mark false (cell_in cells r)) (same_made false (cell_in cells r))))

-- there are as many changes as steps
pub counted : (ss : List Step) (cells : List Cell) → AreKept ss cells → length (changes_by ss cells) ≡ length ss
counted [] cells k = refl
counted (s ∷ ss) cells k = ap length (changes_before s ss cells k.1) ∙ ap suc (counted ss (cells_before s cells) k.2)

pub nothing_stands : StandFor [] (state [])
unfolding state
nothing_stands = record {
  size = refl;
  fit = λ r l. absurd (omega arith);
  apart = λ r q n a b l k. absurd (omega arith);
  created =
      λ r n l a. absurd (omega arith);
}

-- the cells stand for the trees of their changes now
pub stand_now : (ss : List Step) (cells : List Cell) → AreKept ss cells → StandFor cells (state (changes_by ss cells))
stand_now [] cells k = subst (λ cs. StandFor cs (state [])) (sym k) nothing_stands
stand_now (s ∷ ss) cells k = k.0

-- a cell that is made after a cell stays as it was
module _ (cells : List Cell) (d : Cell) (ts : List Tree) (u : Tree) (size : length ts ≡ length cells) where
  pub tree_stays : (r : ℕ) → r < length cells → tree_in (ts ++ u ∷ []) r ≡ tree_in ts r
  tree_stays r l = get_or-append ts (u ∷ []) (integer (pos 0)) r (omega arith)

  pub cell_stays : (r : ℕ) → r < length cells → cell_in (cells ++ d ∷ []) r ≡ cell_in cells r
  cell_stays r l = get_or-append cells (d ∷ []) (Unbound 0) r l

  longer : (q : ℕ) → q < length cells → q < length (cells ++ d ∷ [])
  longer q l = omega (arith, length-append cells (d ∷ []))

  pub fits_still : (t : Tree) (c : Cell) → Fits ts cells t c → Fits (ts ++ u ∷ []) (cells ++ d ∷ []) t c
  fits_still t (Unbound n) h = h
  fits_still t (Bound n q) h =
      let e : rank_of (cell_in (cells ++ d ∷ []) q) ≡ rank_of (cell_in cells q) = ap rank_of (cell_stays q h.1) in
      (h.0 ∙ sym (tree_stays q h.1), longer q h.1, omega (arith, e, h.2))
  fits_still t (Int z) h = h
  fits_still t (Atom f) h = h
  fits_still t (Cmp f qs g) h = (
    h.0 ∙ ap (λ ts. compound f (trees_of ts)) (map_alike (tree_in ts) (tree_in (ts ++ u ∷ [])) qs (λ i l. sym (tree_stays (get_or qs i 0) (h.1 i l)))),
    (λ i l. longer (get_or qs i 0) (h.1 i l)),
    h.2,
  )

last_or_before : (r n : ℕ) → r < n + 1 → (r ≢ n → r < n)
last_or_before r n l d = grind (arith, d)

-- one more cell, that fits its tree and is of no older variable
module _ (cells : List Cell) (d : Cell) (s s' : State) (u : Tree)
    (k : StandFor cells s) (trees : s'.trees ≡ s.trees ++ u ∷ []) (more : s.created ≤ s'.created)
    (fits : Fits (s.trees ++ u ∷ []) (cells ++ d ∷ []) u d)
    (new : (n : ℕ) → number_of d ≡ Some n → (s.created ≤ n) × (n < s'.created)) where
  abbrev all : List Cell
  all = cells ++ d ∷ []

  count : length all ≡ length cells + 1
  count = length-append cells (d ∷ [])

  last_cell : cell_in all (length cells) ≡ d
  last_cell = get_or-append_seam cells d [] (Unbound 0)

  last_tree : tree_in (s.trees ++ u ∷ []) (length cells) ≡ u
  last_tree = ap (tree_in (s.trees ++ u ∷ [])) (sym k.size) ∙ get_or-append_seam s.trees u [] (integer (pos 0))

  -- what holds of the older cells and of the last one holds of all
  each : (P : ℕ → Type 0) → ((r : ℕ) → r < length cells → P r) → P (length cells) → (r : ℕ) → r < length all → P r
  each P h z r l = elim (under r (omega (arith, count))) [ inl i ↦ h r i | inr e ↦ subst P (sym e) z ]
    where
      under : (r : ℕ) → r < length cells + 1 → (r < length cells) ⊎ (r ≡ length cells)
      under r l = grind arith

  fit_each : (r : ℕ) → r < length all → Fits (s.trees ++ u ∷ []) all (tree_in (s.trees ++ u ∷ []) r) (cell_in all r)
  fit_each = each (λ r. Fits (s.trees ++ u ∷ []) all (tree_in (s.trees ++ u ∷ []) r) (cell_in all r))
      (λ r l. rw (tree_stays cells d s.trees u k.size r l, cell_stays cells d s.trees u k.size r l)
      (fits_still cells d s.trees u k.size (tree_in s.trees r) (cell_in cells r) (k.fit r l)))
      (rw (last_tree, last_cell) fits)

  numbered : (r n : ℕ) → r < length all → number_of (cell_in all r) ≡ Some n
      → ((r < length cells) × (number_of (cell_in cells r) ≡ Some n)) ⊎ ((r ≡ length cells) × (number_of d ≡ Some n))
  numbered r n l h = each (λ r. number_of (cell_in all r) ≡ Some n →
      ((r < length cells) × (number_of (cell_in cells r) ≡ Some n)) ⊎ ((r ≡ length cells) × (number_of d ≡ Some n)))
      (λ r l h. inl (l, sym (ap number_of (cell_stays cells d s.trees u k.size r l)) ∙ h))
      (λ h. inr (refl, sym (ap number_of last_cell) ∙ h)) r l h

  one_place : (r q n : ℕ) → number_of (cell_in all r) ≡ Some n → number_of (cell_in all q) ≡ Some n → r < length all → q < length all → r ≡ q
  one_place r q n a b l m = elim (numbered r n l a) [
    | inl i ↦ elim (numbered q n m b) [ inl j ↦ k.apart r q n i.1 j.1 i.0 j.0 | inr j ↦ absurd (omega (arith, k.created r n i.0 i.1, new n j.1)) ]
    | inr i ↦ elim (numbered q n m b) [ inl j ↦ absurd (omega (arith, k.created q n j.0 j.1, new n i.1)) | inr j ↦ i.0 ∙ sym j.0 ]
  ]

  pub one_stands_more : StandFor (cells ++ d ∷ []) s'
  one_stands_more = record {
    size = ap length trees ∙ omega (arith, k.size, length-append s.trees (u ∷ []), count);
    fit = subst (λ ts. (r : ℕ) → r < length all → Fits ts all (tree_in ts r) (cell_in all r)) (sym trees) fit_each;
    apart = one_place;
    created = λ r n l h. elim (numbered r n l h) [ inl i ↦ omega (arith, k.created r n i.0 i.1, more) | inr i ↦ (new n i.1).1 ];
  }

-- the steps go on to be kept
pub kept_more : (ss : List Step) (cells : List Cell) (c : Cell) → AreKept ss cells →
    StandFor (cells ++ c ∷ []) (apply_change (change_of_cell c) (state (changes_by ss cells))) → AreKept (Made ∷ ss) (cells ++ c ∷ [])
unfolding state
kept_more ss cells c k stand = (
  subst (λ h. StandFor (cells ++ c ∷ []) (state h)) (sym (one_made ss cells c)) stand,
  omega (arith, length-append cells (c ∷ [])),
  subst (λ cs. AreKept ss cs) (sym (all_but_last cells c)) k,
)
