-- Slots of variables that were made and stand alone.
use Rattle.std.proofs.Common.{◌≡◌, ℕ, zero, suc, ◌<◌, ◌≤◌, false, List, [], ◌∷◌, ◌++◌, inl, inr, length, set, refl, sym, ap, ◌∙◌, arith, append_assoc, Some}
use Rattle.std.specs.List.{slice_get}
use Rattle.std.proofs.lemmas.Bool.Decides.{eqb_tells}
use mathlib.Core.List.{IsPrefix}
use Rattle.ml_term.specs.Tree.{variable, occurs}
use Rattle.ml_heap.specs.Changes.{Changes, variable_count, HasOneMore}
use Rattle.ml_heap.proofs.LoneVariables.{alone_when_made, alone_with_one_more}
use Rattle.ml_match.specs.inside.Matching.{HasNewSlot}

pub get_before : (xs ys : List ℕ) (i x : ℕ) → slice_get xs i ≡ Some x → slice_get (xs ++ ys) i ≡ Some x
get_before [] ys i x h = cc
get_before (y ∷ xs) ys zero x h = h
get_before (y ∷ xs) ys (suc i) x h = get_before xs ys i x h

pub get_last : (xs : List ℕ) (x : ℕ) → slice_get (xs ++ x ∷ []) (length xs) ≡ Some x
get_last [] x = refl
get_last (y ∷ xs) x = get_last xs x

pub prefix_more : (xs ys zs : List ℕ) (z : ℕ) → IsPrefix xs ys → zs ≡ ys ++ z ∷ [] → IsPrefix xs zs
prefix_more xs ys zs z p e = (p.0 ++ z ∷ [], sym (append_assoc xs p.0 (z ∷ [])) ∙ (ap (λ w. w ++ z ∷ []) p.1 ∙ sym e))

-- what stands before a place stays where the place is set
set_behind : (before rest : List ℕ) (i x : ℕ) → length before ≤ i → (rest' : List ℕ) × (before ++ rest' ≡ set (before ++ rest) i x)
set_behind [] rest i x l = (set rest i x, refl)
set_behind (y ∷ before) rest zero x l = absurd (omega arith)
set_behind (y ∷ before) rest (suc i) x l = let r = set_behind before rest i x (omega (arith, l)) in (r.0, ap (λ qs. y ∷ qs) r.1)

pub prefix_set : (before slots slots' : List ℕ) (i x : ℕ) → length before ≤ i → slots' ≡ set slots i x → IsPrefix before slots → IsPrefix before slots'
prefix_set before slots slots' i x l e p =
    let r = set_behind before p.0 i x l in
    (r.0, r.1 ∙ (ap (λ qs. set qs i x) p.1 ∙ sym e))

module _ (h h' : Changes) (slots slots' : List ℕ) (r place number : ℕ) (m : HasOneMore h h' r (variable (variable_count h))) (e : slots'
    ≡ slots ++ r ∷ []) where
  pub one_new : place ≡ length slots → number ≡ variable_count h → HasNewSlot h' slots' place number
  one_new p n = record {
    cell = r;
    slot = ap (λ i. slice_get slots' i) p ∙ (ap (λ qs. slice_get qs (length slots)) e ∙ get_last slots r);
    alone = rw n (alone_when_made h h' r m);
  }

  pub still_new : HasNewSlot h slots place number → number < variable_count h → HasNewSlot h' slots' place number
  still_new s l = record {
    cell = s.cell;
    slot = ap (λ qs. slice_get qs place) e ∙ get_before slots (r ∷ []) place s.cell s.slot;
    alone = alone_with_one_more h h' number s.cell r _ s.alone m (other number (variable_count h) l);
  }
    where
      other : (a b : ℕ) → a < b → occurs a (variable b) ≡ false
      other a b l = elim (eqb_tells b a) [ inl q ↦ absurd (omega (arith, q.1)) | inr q ↦ rw q.0 refl ]
