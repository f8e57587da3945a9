-- What is left of a list behind a place.
use Rattle.std.proofs.Common.{◌≡◌, ℕ, zero, suc, ◌+◌, ◌<◌, Some, List, [], ◌∷◌, length, get_or, drop, refl, ap, ◌∙◌}
use Rattle.std.specs.Prelude.{slice_get}
use Rattle.std.proofs.lemmas.List.{drop_more}

at_place : {X : Type 0} (xs : List X) (i : ℕ) (x : X) → slice_get xs i ≡ Some x → get_or xs i x ≡ x
at_place [] i x e = cc
at_place (y ∷ xs) zero x e = cc
at_place (y ∷ xs) (suc i) x e = at_place xs i x e

-- what is left of a list begins with the value at its place
pub front : {X : Type 0} (xs : List X) (i : ℕ) (x : X) → i < length xs → slice_get xs i ≡ Some x → drop i xs ≡ x ∷ drop (i + 1) xs
front xs i x h e = drop_more xs i x h ∙ ap (λ y. y ∷ drop (i + 1) xs) (at_place xs i x e)
