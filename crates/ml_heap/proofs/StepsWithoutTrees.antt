-- Steps that change no tree: numbers of variables are left out, or a compound is marked as ground.
use Rattle.std.specs.Prelude.{◌≡◌, ◌≢◌, ℕ, zero, suc, ◌+◌, ◌^◌, ◌<◌, ◌≤◌, Bool, true, false, List, [], ◌∷◌, ◌++◌, reverse, length, get_or, set, Some}
use Rattle.std.specs.List.{list_all}
use Rattle.std.proofs.Common.{inl, inr, refl, sym, ap, ◌∙◌, subst, arith}
use Rattle.std.proofs.lemmas.Bool.Decides.{eqb_tells}
use Rattle.std.proofs.lemmas.List.{length-set, get_or-set_same, get_or-set_other, reverse-append}
use Rattle.ml_term.specs.Tree.{Tree, compound, is_ground}
use Rattle.ml_heap.specs.Changes.{numbers_left_out, ground_found, Changes, State, state, apply_change, tree_in, KeepsMarks}
use Rattle.ml_heap.specs.declared.cell.Cell.{Cell}
use Rattle.ml_heap.specs.declared.cell.Cell.TheVariants.{Unbound, Bound, Int, Atom, Cmp}
use Rattle.ml_heap.specs.declared.cell.Step.{Step}
use Rattle.ml_heap.specs.declared.cell.Step.TheVariants.{LeftOut, Ground}
use Rattle.ml_heap.specs.inside.Layout.{change_of_cell, is_valid_change, changes_of, cell_in, number_of, rank_of, Fits, StandFor, with_mark, AreKept, IsKept}
use Rattle.ml_heap.proofs.KeptCells.{one_replaced, same_made, stand_now}
use Rattle.ml_heap.proofs.HeapMarks.{marks_kept}
use Rattle.ml_heap.proofs.VariableReplacement.{put_back}

-- numbers are left out
module _ (steps : List Step) (cells : List Cell) (n m : ℕ) (k : IsKept steps cells n) where
  changes_left_out : changes_of (steps ++ LeftOut m ∷ []) cells ≡ numbers_left_out m ∷ changes_of steps cells
  changes_left_out = rw (reverse-append steps (LeftOut m ∷ [])) refl

  stands_with_more : StandFor cells (state (changes_of steps cells)) → StandFor cells (state (numbers_left_out m ∷ changes_of steps cells))
  unfolding state
  stands_with_more s = record { size = s.size; fit = s.fit; apart = s.apart; created = λ r i l e. omega (arith, s.created r i l e) }

  pub left_out_kept : n + m < 2 ^ 32 → IsKept (steps ++ LeftOut m ∷ []) cells (n + m)
  unfolding state
  left_out_kept l = record {
    kept = subst (λ ss. AreKept ss cells) (sym (reverse-append steps (LeftOut m ∷ [])))
        (stands_with_more (stand_now (reverse steps) cells k.kept), tt, k.kept);
    count = omega (arith, k.count, ap (λ h. (state h).created) changes_left_out);
    few = l;
    valid = ap (list_all is_valid_change) changes_left_out ∙ k.valid;
  }

  module _ (h : Changes) (e : changes_of steps cells ≡ h) (steps' : List Step) (p : steps' ≡ steps ++ LeftOut m ∷ []) where
    pub left_out_is : changes_of steps' cells ≡ numbers_left_out m ∷ h
    left_out_is = ap (λ ss. changes_of ss cells) p ∙ (changes_left_out ∙ ap (λ h. numbers_left_out m ∷ h) e)

-- what a heap with numbers left out is
pub left_out_trees : (h h' : Changes) (m : ℕ) → h' ≡ numbers_left_out m ∷ h → (state h').trees ≡ (state h).trees
unfolding state
left_out_trees h h' m e = ap (λ h. (state h).trees) e

pub left_out_count : (h h' : Changes) (m : ℕ) → h' ≡ numbers_left_out m ∷ h → (state h').created ≡ (state h).created + m
unfolding state
left_out_count h h' m e = ap (λ h. (state h).created) e

pub left_out_marks : (h h' : Changes) (m : ℕ) → h' ≡ numbers_left_out m ∷ h → KeepsMarks h h'
left_out_marks h h' m e = subst (KeepsMarks h) (sym e) (marks_kept (numbers_left_out m) h)

-- a compound is marked as ground
module _ (steps : List Step) (cells : List Cell) (n : ℕ) (k : IsKept steps cells n) (r : ℕ) (f qs : List ℕ) (in_r : r < length cells)
    (at_r : cell_in cells r ≡ Cmp f qs false) (ground : is_ground (tree_in (state (changes_of steps cells)).trees r) ≡ true) where
  abbrev earlier : State
  earlier = state (changes_of steps cells)

  abbrev marked : List Cell
  marked = set cells r (Cmp f qs true)

  stands : StandFor cells earlier
  stands = stand_now (reverse steps) cells k.kept

  as_long : length marked ≡ length cells
  as_long = length-set cells r (Cmp f qs true)

  -- what doesn't depend on marks stays
  alike : {A : Type 0} (P : Cell → A) → P (Cmp f qs true) ≡ P (Cmp f qs false) → (q : ℕ) → P (cell_in marked q) ≡ P (cell_in cells q)
  alike P p q = elim (eqb_tells q r) [
    | inl e ↦ ap (λ i. P (cell_in marked i)) e.1 ∙ (ap P (get_or-set_same cells r (Cmp f qs true) (Unbound 0) in_r)
        ∙ (p ∙ (sym (ap P at_r) ∙ ap (λ i. P (cell_in cells i)) (sym e.1))))
    | inr e ↦ ap P (get_or-set_other cells r q (Cmp f qs true) (Unbound 0) e.1)
  ]

  fits_still : (t : Tree) (c : Cell) → Fits earlier.trees cells t c → Fits earlier.trees marked t c
  fits_still t (Unbound i) h = h
  fits_still t (Bound i q) h = (h.0, omega (arith, as_long, h.1), omega (arith, alike rank_of refl q, h.2))
  fits_still t (Int z) h = h
  fits_still t (Atom g) h = h
  fits_still t (Cmp g ps b) h = (h.0, (λ i l. omega (arith, as_long, h.1 i l)), h.2)

  fits_marked : Fits earlier.trees marked (tree_in earlier.trees r) (Cmp f qs true)
  fits_marked =
      let h = fits_still (tree_in earlier.trees r) (Cmp f qs false) (subst (Fits earlier.trees cells (tree_in earlier.trees r)) at_r (stands.fit r in_r)) in
      (h.0, h.1, λ e. ground)

  fit_each : (q : ℕ) → q < length marked → Fits earlier.trees marked (tree_in earlier.trees q) (cell_in marked q)
  fit_each q l = elim (eqb_tells q r) [
    | inl e ↦ subst (λ i. Fits earlier.trees marked (tree_in earlier.trees i) (cell_in marked i)) (sym e.1)
        (subst (Fits earlier.trees marked (tree_in earlier.trees r)) (sym (get_or-set_same cells r (Cmp f qs true) (Unbound 0) in_r)) fits_marked)
    | inr e ↦ subst (Fits earlier.trees marked (tree_in earlier.trees q)) (sym (get_or-set_other cells r q (Cmp f qs true) (Unbound 0) e.1))
        (fits_still (tree_in earlier.trees q) (cell_in cells q) (stands.fit q (omega (arith, as_long, l))))
  ]

  marked_stands : StandFor marked earlier
  marked_stands = record {
    size = stands.size ∙ sym as_long;
    fit = fit_each;
    apart = λ q p i a b l j. stands.apart q p i (sym (alike number_of refl q) ∙ a) (sym (alike number_of refl p) ∙ b) (omega (arith, as_long, l))
        (omega (arith, as_long, j));
    created = λ q i l a. stands.created q i (omega (arith, as_long, l)) (sym (alike number_of refl q) ∙ a);
  }

  changes_found : changes_of (steps ++ Ground r ∷ []) marked ≡ ground_found r ∷ changes_of steps cells
  changes_found = rw (reverse-append steps (Ground r ∷ []))
      (ap (λ h. ground_found r ∷ h) (one_replaced (reverse steps) cells r (Cmp f qs true) (sym (ap change_of_cell at_r))))

  unmarked : set marked r (with_mark false (cell_in marked r)) ≡ cells
  unmarked = ap (λ c. set marked r (with_mark false c)) (get_or-set_same cells r (Cmp f qs true) (Unbound 0) in_r)
      ∙ put_back cells r (Cmp f qs true) (Cmp f qs false) (other_default cells r in_r at_r)
    where
      other_default : (cs : List Cell) (i : ℕ) → i < length cs → get_or cs i (Unbound 0) ≡ Cmp f qs false → get_or cs i (Cmp f qs false) ≡ Cmp f qs false
      other_default [] i l e = refl
      other_default (c ∷ cs) zero l e = e
      other_default (c ∷ cs) (suc i) l e = other_default cs i (omega arith) e

  all_kept : AreKept (Ground r ∷ reverse steps) marked
  unfolding state
  all_kept = (
    subst (λ h. StandFor marked (state h)) (sym (ap (λ h. ground_found r ∷ h)
        (one_replaced (reverse steps) cells r (Cmp f qs true) (sym (ap change_of_cell at_r))))) marked_stands,
    omega (arith, as_long, in_r),
    subst (AreKept (reverse steps)) (sym unmarked) k.kept,
  )

  pub mark_kept : IsKept (steps ++ Ground r ∷ []) marked n
  unfolding state
  mark_kept = record {
    kept = subst (λ ss. AreKept ss marked) (sym (reverse-append steps (Ground r ∷ []))) all_kept;
    count = k.count ∙ sym (ap (λ h. (state h).created) changes_found);
    few = k.few;
    valid = ap (list_all is_valid_change) changes_found ∙ k.valid;
  }

  module _ (h : Changes) (e : changes_of steps cells ≡ h) (steps' : List Step) (cells' : List Cell) (p : steps' ≡ steps ++ Ground r ∷ [])
      (q : cells' ≡ marked) where
    pub found_is : changes_of steps' cells' ≡ ground_found r ∷ h
    found_is = ap (λ ss. changes_of ss cells') p ∙ (ap (changes_of (steps ++ Ground r ∷ [])) q ∙ (changes_found ∙ ap (λ h. ground_found r ∷ h) e))

    pub found_kept : IsKept steps' cells' n
    found_kept = rw (p, q) mark_kept

-- what a heap with a mark more is
pub found_state : (h h' : Changes) (r : ℕ) → h' ≡ ground_found r ∷ h → state h' ≡ state h
unfolding state
found_state h h' r e = ap state e

pub found_marks : (h h' : Changes) (r : ℕ) → h' ≡ ground_found r ∷ h → KeepsMarks h h'
found_marks h h' r e = subst (KeepsMarks h) (sym e) (marks_kept (ground_found r) h)
