-- Which compounds are callable, whatever their arguments are.
use Rattle.std.specs.Prelude.{◌≡◌, ◌≢◌, ℕ, true, false, ◌&&◌, cond, List, [], ◌∷◌, length}
use Rattle.std.proofs.Common.{refl, ap}
use Rattle.ml_term.specs.Tree.{Tree, compound, compound_2, trees_of}
use Rattle.ml_search.specs.Bodies.{is_callable, joins_bodies}

-- one that doesn't have two
pub other_count : (f : List ℕ) (ts : List Tree) → length ts ≢ 2 → is_callable (compound f (trees_of ts)) ≡ true
other_count f [] e = refl
other_count f (t ∷ []) e = refl
other_count f (t ∷ u ∷ []) e = absurd (e refl)
other_count f (t ∷ u ∷ v ∷ ts) e = refl

-- one of two that is no `,`, `;` and `->`
pub other_name : (f : List ℕ) (t u : Tree) → joins_bodies f ≡ false → is_callable (compound_2 f t u) ≡ true
other_name f t u e = ap (λ b. cond b (is_callable t && is_callable u) true) e
