-- A list with its last element, and lists made by a function.
use Rattle.std.specs.Prelude.{◌≡◌, ℕ, zero, suc, ◌-◌, ◌<◌, List, [], ◌∷◌, ◌++◌, map, length, take, get_or}
use Rattle.std.proofs.Common.{refl, ap, ◌∙◌, arith, length-append}

pub all_but_last : {A : Type 0} (xs : List A) (x : A) → take (length (xs ++ x ∷ []) - 1) (xs ++ x ∷ []) ≡ xs
all_but_last xs x = ap (λ n. take n (xs ++ x ∷ [])) (numbers xs x) ∙ front xs x
  where
    numbers : {A : Type 0} (xs : List A) (x : A) → length (xs ++ x ∷ []) - 1 ≡ length xs
    numbers xs x = omega (arith, length-append xs (x ∷ []))

    front : {A : Type 0} (xs : List A) (x : A) → take (length xs) (xs ++ x ∷ []) ≡ xs
    front [] x = refl
    front (y ∷ ys) x = ap (λ zs. y ∷ zs) (front ys x)

-- a list that is not empty is its front and its last element
pub split_last : {A : Type 0} (xs : List A) (d : A) → 0 < length xs → xs ≡ take (length xs - 1) xs ++ get_or xs (length xs - 1) d ∷ []
split_last xs d h = split_at xs (length xs - 1) d (omega arith)
  where
    split_at : {A : Type 0} (xs : List A) (n : ℕ) (d : A) → length xs ≡ suc n → xs ≡ take n xs ++ get_or xs n d ∷ []
    split_at [] n d e = absurd (omega arith)
    split_at (x ∷ []) zero d e = refl
    split_at (x ∷ []) (suc n) d e = absurd (omega arith)
    split_at (x ∷ y ∷ ys) zero d e = absurd (omega arith)
    split_at (x ∷ y ∷ ys) (suc n) d e = ap (λ zs. x ∷ zs) (split_at (y ∷ ys) n d (omega arith))

-- two functions that agree on the elements of a list
pub map_alike : {A : Type 0} (f g : ℕ → A) (qs : List ℕ) → ((i : ℕ) → i < length qs → f (get_or qs i 0) ≡ g (get_or qs i 0)) → map f qs ≡ map g qs
map_alike f g [] h = refl
map_alike f g (q ∷ qs) h = two (h 0 (omega arith)) (map_alike f g qs (λ i l. h (suc i) (omega arith)))
  where
    two : {A : Type 0} {x y : A} {xs ys : List A} → x ≡ y → xs ≡ ys → x ∷ xs ≡ y ∷ ys
    two e k = cc
