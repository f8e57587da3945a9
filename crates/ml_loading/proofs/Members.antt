-- Which terms stand in a list.
use Rattle.std.proofs.Common.{◌≡◌, ℕ, zero, suc, ◌<◌, ◌⊎◌, inl, inr, List, [], ◌∷◌, length, get_or, sym, arith}
use Rattle.std.specs.List.Sorted.{IsPermutation}
use Rattle.std.proofs.lemmas.List.Sorted.{IsPermutation-sym, Contains-permutation}

-- a value stands in a list
abbrev pub Has : {X : Type 0} → X → List X → Type 0
Has v [] = ⊥
Has v (x ∷ xs) = (v ≡ x) ⊎ Has v xs

has_at : {X : Type 0} (v : X) (xs : List X) (k : ℕ) → k < length xs → get_or xs k v ≡ v → Has v xs
has_at v [] k h e = absurd (omega arith)
has_at v (x ∷ xs) zero h e = inl (sym e)
has_at v (x ∷ xs) (suc k) h e = inr (has_at v xs k (omega arith) e)

place_of : {X : Type 0} (v : X) (xs : List X) → Has v xs → (k : ℕ) × (k < length xs) × (get_or xs k v ≡ v)
place_of v [] h = absurd h
place_of v (x ∷ xs) (inl e) = (zero, omega arith, sym e)
place_of v (x ∷ xs) (inr h) = let at = place_of v xs h in (suc at.0, omega (arith, at.1), at.2)

-- the same values stand in a permutation
pub has_moved : {X : Type 0} (xs ys : List X) → IsPermutation xs ys → (v : X) → Has v xs → Has v ys
has_moved xs ys p v h = let at = Contains-permutation xs ys v p (place_of v xs h) in has_at v ys at.0 at.1 at.2

pub has_moved_back : {X : Type 0} (xs ys : List X) → IsPermutation xs ys → (v : X) → Has v ys → Has v xs
has_moved_back xs ys p = has_moved ys xs (IsPermutation-sym xs ys p)
