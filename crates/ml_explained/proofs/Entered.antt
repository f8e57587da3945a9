-- What holds of each two elements of a list, and of one with one more.
use Rattle.std.specs.Prelude.{List, [], ◌∷◌, ◌++◌, map, Contains}
use Rattle.std.specs.List.{AllPairs}
use Rattle.ml_isolation.proofs.Members.{each_from}
use Rattle.ml_isolation.proofs.Ordered.{Ordered, ordered_and_one, ordered_map}
use Rattle.ml_isolation.proofs.OneOrder.{first_before, rest_rises, all_pairs}

pairs_ordered : {A : Type 0} (R : A → A → Type 0) (xs : List A) → AllPairs R xs → Ordered R xs
pairs_ordered R [] p = tt
pairs_ordered R (x ∷ xs) p = (each_from (R x) xs (first_before R x xs p), pairs_ordered R xs (rest_rises R x xs p))

pub pairs_more : {A : Type 0} (R : A → A → Type 0) (xs : List A) (y : A) → AllPairs R xs → ((x : A) → Contains xs x → R x y) → AllPairs R (xs ++ y ∷ [])
pairs_more R xs y p f = all_pairs R (xs ++ y ∷ []) (ordered_and_one R xs y (pairs_ordered R xs p) (each_from (λ x. R x y) xs f))

pub pairs_map : {A B : Type 0} (f : A → B) (R : B → B → Type 0) (xs : List A) → AllPairs (λ x y. R (f x) (f y)) xs → AllPairs R (map f xs)
pairs_map f R xs p = all_pairs R (map f xs) (ordered_map f R xs (pairs_ordered (λ x y. R (f x) (f y)) xs p))
