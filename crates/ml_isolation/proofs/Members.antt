-- Elements of lists.
use Rattle.std.specs.Prelude.{◌≡◌, ◌⊎◌, ℕ, zero, suc, ◌<◌, List, [], ◌∷◌, ◌++◌, length, slice_get, Some, Contains}
use Rattle.std.proofs.Common.{inl, inr, refl, subst, arith, get_or}
use Rattle.ml_isolation.proofs.Ordered.{Each, each_by}

contains_at : {X : Type 0} (x z : X) (xs : List X) (k : ℕ) → k < length (x ∷ xs) → get_or (x ∷ xs) k z ≡ z → (x ≡ z) ⊎ Contains xs z
contains_at x z xs zero l e = inl e
contains_at x z xs (suc k) l e = inr (k, omega arith, e)

pub contains_cases : {X : Type 0} (x z : X) (xs : List X) → Contains (x ∷ xs) z → (x ≡ z) ⊎ Contains xs z
contains_cases x z xs h = contains_at x z xs h.0 h.1 h.2

pub contains_first : {X : Type 0} (x : X) (xs : List X) → Contains (x ∷ xs) x
contains_first x xs = (0, omega arith, refl)

pub contains_later : {X : Type 0} (x z : X) (xs : List X) → Contains xs z → Contains (x ∷ xs) z
contains_later x z xs h = (suc h.0, omega (arith, h.1), h.2)

pub each_is_among : {X : Type 0} (xs : List X) → Each (λ x. Contains xs x) xs
each_is_among [] = tt
each_is_among (x ∷ xs) =
    (contains_first x xs, each_by (λ y. Contains xs y) (λ y. Contains (x ∷ xs) y) xs (λ y. contains_later x y xs) (each_is_among xs))

pub each_from : {X : Type 0} (P : X → Type 0) (xs : List X) → ((z : X) → Contains xs z → P z) → Each P xs
each_from P [] f = tt
each_from P (x ∷ xs) f = (f x (contains_first x xs), each_from P xs (λ z c. f z (contains_later x z xs c)))

pub holds_at : {X : Type 0} (P : X → Type 0) (xs : List X) (k : ℕ) (d : X) → k < length xs → Each P xs → P (get_or xs k d)
holds_at P [] k d l e = absurd (omega (arith, l))
holds_at P (x ∷ xs) zero d l e = e.0
holds_at P (x ∷ xs) (suc k) d l e = holds_at P xs k d (omega (arith, l)) e.1

pub holds_among : {X : Type 0} (P : X → Type 0) (xs : List X) (z : X) → Contains xs z → Each P xs → P z
holds_among P xs z c e = subst P c.2 (holds_at P xs c.0 z c.1 e)

-- an element of a longer list
pub front_there : {X : Type 0} (xs ys : List X) (n : ℕ) (x : X) → slice_get xs n ≡ Some x → slice_get (xs ++ ys) n ≡ Some x
front_there [] ys n x e = absurd (cc e)
front_there (y ∷ xs) ys zero x e = e
front_there (y ∷ xs) ys (suc n) x e = front_there xs ys n x e

pub contains_more : {X : Type 0} (xs : List X) (y z : X) → Contains (xs ++ y ∷ []) z → Contains xs z ⊎ (y ≡ z)
contains_more [] y z c = elim (contains_cases y z [] c) [ inl e ↦ inr e | inr h ↦ inl h ]
contains_more (x ∷ xs) y z c = elim (contains_cases x z (xs ++ y ∷ []) c) [
  | inl e ↦ inl (subst (Contains (x ∷ xs)) e (contains_first x xs))
  | inr h ↦ elim (contains_more xs y z h) [ inl i ↦ inl (contains_later x z xs i) | inr e ↦ inr e ]
]
