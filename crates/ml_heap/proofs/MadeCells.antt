-- A cell that is made: what is kept, and what the new heap is.
use Rattle.std.specs.Prelude.{◌≡◌, ℕ, ◌+◌, ◌^◌, ◌<◌, ◌≤◌, ℤ, List, [], ◌∷◌, ◌++◌, map, reverse, length, get_or, Bool, true, Some}
use Rattle.std.proofs.Common.{refl, sym, ap, ◌∙◌, subst, arith, length-append}
use Rattle.std.specs.List.{list_all}
use Rattle.std.proofs.lemmas.Bool.{and_from, le-leb}
use Rattle.std.proofs.lemmas.List.{reverse-append, length-reverse}
use Rattle.ml_term.specs.Names.{is_name}
use Rattle.ml_term.specs.Valid.{is_in_range}
use Rattle.ml_term.specs.Tree.{Tree, variable, integer, atom, compound, trees_of, is_ground}
use Rattle.ml_heap.specs.Changes.{Change, Changes, State, state, apply_change, tree_in, HasOneMore}
use Rattle.ml_heap.specs.declared.cell.Cell.{Cell}
use Rattle.ml_heap.specs.declared.cell.Cell.TheVariants.{Unbound, Int, Atom, Cmp}
use Rattle.ml_heap.specs.declared.cell.Step.{Step}
use Rattle.ml_heap.specs.declared.cell.Step.TheVariants.{Made}
use Rattle.ml_heap.specs.inside.Layout.{change_of_cell, is_valid_change, changes_of, number_of, Fits, StandFor, AreKept, IsKept}
use Rattle.ml_heap.proofs.HeapMarks.{marks_kept}
use Rattle.ml_heap.proofs.KeptCells.{one_made, counted, stand_now, tree_stays, one_stands_more, kept_more}
use Rattle.ml_heap.proofs.ListEnds.{map_alike}

pub nothing_kept : IsKept [] [] 0
unfolding state
nothing_kept = record { kept = refl; count = refl; few = omega arith; valid = refl }

pub as_many_steps : (steps : List Step) (cells : List Cell) → AreKept (reverse steps) cells → length (changes_of steps cells) ≡ length steps
as_many_steps steps cells k = counted (reverse steps) cells k ∙ length-reverse steps

some_is : {a b : ℕ} → Some a ≡ Some b → a ≡ b
some_is e = cc

-- the changes with a cell made
pub made_changes : (steps : List Step) (cells : List Cell) (c : Cell) →
    changes_of (steps ++ Made ∷ []) (cells ++ c ∷ []) ≡ change_of_cell c ∷ changes_of steps cells
made_changes steps cells c = rw (reverse-append steps (Made ∷ [])) (one_made (reverse steps) cells c)

-- the heap has a cell more
pub has_more : (c : Change) (h : Changes) (t : Tree) → (apply_change c (state h)).trees ≡ (state h).trees ++ t ∷ [] →
    HasOneMore h (c ∷ h) (length (state h).trees) t
unfolding state
has_more c h t e = record { place = refl; trees = e; marks = marks_kept c h }

module _ (steps : List Step) (cells : List Cell) (n : ℕ) (k : IsKept steps cells n) where
  abbrev before : State
  before = state (changes_of steps cells)

  pub stands : StandFor cells before
  stands = stand_now (reverse steps) cells k.kept

  pub place_is : length cells ≡ length (state (changes_of steps cells)).trees
  place_is = sym stands.size

  module _ (c : Cell) (t : Tree) (m : ℕ) (trees : (apply_change (change_of_cell c) before).trees ≡ before.trees ++ t ∷ [])
      (fits : Fits (before.trees ++ t ∷ []) (cells ++ c ∷ []) t c)
      (more : before.created ≤ (apply_change (change_of_cell c) before).created)
      (new : (i : ℕ) → number_of c ≡ Some i → (before.created ≤ i) × (i < (apply_change (change_of_cell c) before).created))
      (count : m ≡ (apply_change (change_of_cell c) before).created) where
    pub is_kept : m < 2 ^ 32 → is_valid_change (change_of_cell c) ≡ true → IsKept (steps ++ Made ∷ []) (cells ++ c ∷ []) m
    unfolding state
    is_kept l v = record {
      kept = subst (λ ss. AreKept ss (cells ++ c ∷ [])) (sym (reverse-append steps (Made ∷ [])))
          (kept_more (reverse steps) cells c k.kept (one_stands_more cells c before (apply_change (change_of_cell c) before) t stands trees more fits new));
      count = count ∙ ap (λ h. (state h).created) (sym (made_changes steps cells c));
      few = l;
      valid = ap (list_all is_valid_change) (made_changes steps cells c) ∙ and_from _ _ v k.valid;
    }

    pub has_one_more : HasOneMore (changes_of steps cells) (changes_of (steps ++ Made ∷ []) (cells ++ c ∷ [])) (length cells) t
    has_one_more = subst (λ h. HasOneMore (changes_of steps cells) h (length cells) t) (sym (made_changes steps cells c))
        (subst (λ r. HasOneMore (changes_of steps cells) (change_of_cell c ∷ changes_of steps cells) r t) (sym place_is)
        (has_more (change_of_cell c) (changes_of steps cells) t trees))

  pub variable_kept : n + 1 < 2 ^ 32 → IsKept (steps ++ Made ∷ []) (cells ++ Unbound n ∷ []) (n + 1)
  variable_kept l = is_kept (Unbound n) (variable before.created) (n + 1) refl (ap variable (sym k.count)) (omega arith)
      (λ i e. (omega (arith, some_is e, k.count), omega (arith, some_is e, k.count))) (omega (arith, k.count)) l refl

  pub integer_kept : (z : ℤ) → is_in_range z ≡ true → IsKept (steps ++ Made ∷ []) (cells ++ Int z ∷ []) n
  integer_kept z v = is_kept (Int z) (integer z) n refl refl (omega arith) (λ i e. absurd (cc e)) k.count k.few v

  pub atom_kept : (f : List ℕ) → is_name f ≡ true → IsKept (steps ++ Made ∷ []) (cells ++ Atom f ∷ []) n
  atom_kept f v = is_kept (Atom f) (atom f) n refl refl (omega arith) (λ i e. absurd (cc e)) k.count k.few v

  pub one_variable : HasOneMore (changes_of steps cells) (changes_of (steps ++ Made ∷ []) (cells ++ Unbound n ∷ [])) (length cells)
      (variable (state (changes_of steps cells)).created)
  one_variable = has_one_more (Unbound n) (variable before.created) (n + 1) refl (ap variable (sym k.count)) (omega arith)
      (λ i e. (omega (arith, some_is e, k.count), omega (arith, some_is e, k.count))) (omega (arith, k.count))

  pub one_integer : (z : ℤ) → HasOneMore (changes_of steps cells) (changes_of (steps ++ Made ∷ []) (cells ++ Int z ∷ [])) (length cells) (integer z)
  one_integer z = has_one_more (Int z) (integer z) n refl refl (omega arith) (λ i e. absurd (cc e)) k.count

  pub one_atom : (f : List ℕ) → HasOneMore (changes_of steps cells) (changes_of (steps ++ Made ∷ []) (cells ++ Atom f ∷ [])) (length cells) (atom f)
  one_atom f = has_one_more (Atom f) (atom f) n refl refl (omega arith) (λ i e. absurd (cc e)) k.count

  -- a compound of older cells
  module _ (f qs : List ℕ) (g : Bool) (within : (i : ℕ) → i < length qs → get_or qs i 0 < length cells)
      (ground : g ≡ true → is_ground (compound f (trees_of (map (tree_in before.trees) qs))) ≡ true) where
    abbrev whole : Tree
    whole = compound f (trees_of (map (tree_in before.trees) qs))

    fits_whole : Fits (before.trees ++ whole ∷ []) (cells ++ Cmp f qs g ∷ []) whole (Cmp f qs g)
    fits_whole = (
      ap (λ ts. compound f (trees_of ts)) (map_alike (tree_in before.trees) (tree_in (before.trees ++ whole ∷ [])) qs
          (λ i l. sym (tree_stays cells (Cmp f qs g) before.trees whole stands.size (get_or qs i 0) (within i l)))),
      (λ i l. omega (arith, within i l, length-append cells (Cmp f qs g ∷ []))),
      ground,
    )

    pub compound_kept : is_name f ≡ true → 1 ≤ length qs → length qs ≤ 255 → IsKept (steps ++ Made ∷ []) (cells ++ Cmp f qs g ∷ []) n
    compound_kept v low high = is_kept (Cmp f qs g) whole n refl fits_whole (omega arith) (λ i e. absurd (cc e)) k.count k.few
        (and_from _ _ (and_from _ _ v (le-leb 1 (length qs) low)) (le-leb (length qs) 255 high))

    pub one_compound : HasOneMore (changes_of steps cells) (changes_of (steps ++ Made ∷ []) (cells ++ Cmp f qs g ∷ [])) (length cells)
        (compound f (trees_of (map (tree_in (state (changes_of steps cells)).trees) qs)))
    one_compound = has_one_more (Cmp f qs g) whole n refl fits_whole (omega arith) (λ i e. absurd (cc e)) k.count

  pub none_created : (c : Cell) → ((s : State) → (apply_change (change_of_cell c) s).created ≡ s.created) →
      (state (changes_of (steps ++ Made ∷ []) (cells ++ c ∷ []))).created ≡ (state (changes_of steps cells)).created
  unfolding state
  none_created c e = ap (λ h. (state h).created) (made_changes steps cells c) ∙ e before

  pub one_created : (state (changes_of (steps ++ Made ∷ []) (cells ++ Unbound n ∷ []))).created ≡ (state (changes_of steps cells)).created + 1
  unfolding state
  one_created = ap (λ h. (state h).created) (made_changes steps cells (Unbound n))

-- What holds of some lists holds of lists that are equal to them.
pub kept_as : (steps steps' : List Step) (cells cells' : List Cell) (n n' : ℕ) → steps' ≡ steps → cells' ≡ cells → n' ≡ n → IsKept steps cells n →
    IsKept steps' cells' n'
kept_as steps steps' cells cells' n n' e f q k = rw (e, f, q) k

pub more_as : (h h' : Changes) (steps steps' : List Step) (cells cells' : List Cell) (r r' : ℕ) (t : Tree) → h ≡ h' → steps' ≡ steps → cells' ≡ cells → r' ≡ r
    → HasOneMore h (changes_of steps cells) r t → HasOneMore h' (changes_of steps' cells') r' t
more_as h h' steps steps' cells cells' r r' t p e f q m = rw (← p, e, f, q) m

pub count_as : (more : ℕ → ℕ) (h h' : Changes) (steps steps' : List Step) (cells cells' : List Cell) → h ≡ h' → steps' ≡ steps → cells' ≡ cells
    → (state (changes_of steps cells)).created ≡ more (state h).created → (state (changes_of steps' cells')).created ≡ more (state h').created
count_as more h h' steps steps' cells cells' p e f m = rw (← p, e, f) m
