-- Lists that begin others, and ends of lists.
use Rattle.std.specs.Prelude.{◌≡◌, ℕ, zero, suc, ◌+◌, ◌-◌, ◌≤◌, List, [], ◌∷◌, ◌++◌, length, take, drop, reverse, slice_get, Some}
use Rattle.std.proofs.Common.{refl, sym, ap, ◌∙◌, arith, length-drop}
use Rattle.std.proofs.lemmas.List.{length-reverse, take-append-drop, reverse-append}
use Rattle.std.proofs.lemmas.Option.{slice_get_within, slice_get-get_or, get_or_from_slice_get}
use Rattle.std.proofs.Math.ListN.{get_or-append}
use Rattle.std.proofs.lemmas.List.{length-append}
use Rattle.std.proofs.Math.Seq.{drop-nil, drop-append_seam, get_or-append_seam}
use Rattle.ml_search.specs.Search.{last_of}

pub take_take : {A : Type 0} → (j k : ℕ) (xs : List A) → j ≤ k → take j (take k xs) ≡ take j xs
take_take zero k xs l = refl
take_take (suc j) zero xs l = absurd (omega arith)
take_take (suc j) (suc k) [] l = refl
take_take (suc j) (suc k) (x ∷ xs) l = ap (λ ys. x ∷ ys) (take_take j k xs (omega arith))

pub drop_drop : {A : Type 0} → (j k : ℕ) (xs : List A) → drop j (drop k xs) ≡ drop (j + k) xs
drop_drop j k [] = ap (drop j) (drop-nil k) ∙ (drop-nil j ∙ sym (drop-nil (j + k)))
drop_drop j zero (x ∷ xs) = let e : j + 0 ≡ j = omega arith in ap (λ i. drop i (x ∷ xs)) (sym e)
drop_drop j (suc k) (x ∷ xs) = let e : j + suc k ≡ suc (j + k) = omega arith in rw e (drop_drop j k xs)

-- an element of the beginning is the whole's
pub found_in_front : {A : Type 0} → (xs zs : List A) (i : ℕ) (x : A) → slice_get xs i ≡ Some x → slice_get (xs ++ zs) i ≡ Some x
found_in_front xs zs i x e =
    let l = slice_get_within xs i x e in
    slice_get-get_or (xs ++ zs) i x (omega (arith, length-append xs zs)) ∙ ap Some (get_or-append xs zs x i l ∙ get_or_from_slice_get xs i x x e)

-- the end of an end is an end
pub last_of_last : {A : Type 0} → (h n : ℕ) (xs : List A) → h ≤ n → last_of h (last_of n xs) ≡ last_of h xs
last_of_last h n xs l =
    let e : (length (drop (length xs - n) xs) - h) + (length xs - n) ≡ length xs - h = omega (arith, length-drop (length xs - n) xs) in
    drop_drop (length (drop (length xs - n) xs) - h) (length xs - n) xs ∙ ap (λ i. drop i xs) e

-- all of a list is its end
pub last_of_all : {A : Type 0} → (h : ℕ) (xs : List A) → length xs ≤ h → last_of h xs ≡ xs
last_of_all h xs l = let e : length xs - h ≡ 0 = omega arith in ap (λ i. drop i xs) e

-- the end of a longer list
pub last_of_more : {A : Type 0} → (h : ℕ) (x : A) (xs : List A) → h ≤ length xs → last_of h (x ∷ xs) ≡ last_of h xs
last_of_more h x xs l = let e : suc (length xs) - h ≡ suc (length xs - h) = omega arith in ap (λ i. drop i (x ∷ xs)) e

-- the front of a list, backwards
pub reverse_front : {A : Type 0} → (m : ℕ) (xs : List A) → reverse (take m xs) ≡ drop (length (reverse xs) - m) (reverse xs)
reverse_front m xs =
    let e : length (reverse xs) - m ≡ length (reverse (drop m xs)) = omega (arith, length-reverse xs, length-reverse (drop m xs), length-drop m xs) in
    let s : reverse xs ≡ reverse (drop m xs) ++ reverse (take m xs) = ap reverse (sym (take-append-drop m xs)) ∙ reverse-append (take m xs) (drop m xs) in
    sym (drop-append_seam (reverse (drop m xs)) (reverse (take m xs)))
    ∙ (ap (λ i. drop i (reverse (drop m xs) ++ reverse (take m xs))) (sym e) ∙ ap (drop (length (reverse xs) - m)) (sym s))

-- a list with one more at its end, backwards
pub reverse_more : {A : Type 0} → (xs ys : List A) (x : A) → ys ≡ xs ++ x ∷ [] → reverse ys ≡ x ∷ reverse xs
reverse_more xs ys x e = ap reverse e ∙ reverse-append xs (x ∷ [])

-- the element where a list goes on
pub found_at_seam : {A : Type 0} → (xs : List A) (y : A) → slice_get (xs ++ y ∷ []) (length xs) ≡ Some y
found_at_seam xs y = slice_get-get_or (xs ++ y ∷ []) (length xs) y (omega (arith, length-append xs (y ∷ []))) ∙ ap Some (get_or-append_seam xs y [] y)

-- an element of a list is one of a list that it begins
pub stays_found : {A : Type 0} → (xs ys : List A) (i : ℕ) (x : A) → ((zs : List A) × (ys ≡ xs ++ zs)) → slice_get xs i ≡ Some x → slice_get ys i ≡ Some x
stays_found xs ys i x p e = ap (λ l. slice_get l i) p.1 ∙ found_in_front xs p.0 i x e
