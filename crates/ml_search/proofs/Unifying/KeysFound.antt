-- Numbers that are the keys of a table are found in it by their places.
use Rattle.std.specs.Prelude.{◌≡◌, ℕ, ◌+◌, ◌==◌, Bool, true, false, ◌||◌, cond, nat_eq, List, [], ◌∷◌, ◌++◌, length, position, Some, None}
use Rattle.std.specs.List.{list_any, position_from}
use Rattle.std.proofs.Common.{refl, sym, ap, ◌∙◌, arith}
use Rattle.std.proofs.lemmas.Iterator.Adapters.{position_from-zero}
use Rattle.ml_term.specs.Tree.{has, place_in}
use Rattle.ml_search.specs.inside.Meeting.{variables_met}
use Rattle.ml_search.proofs.DeclarationsFound.{equal_swapped}
use Rattle.ml_search.proofs.Unifying.FirstPlaces.{no_place}

from_place : (i n : ℕ) (ms : List ℕ) → position_from (nat_eq n) i ms ≡ cond (has n ms) (Some (i + place_in ms n)) None
from_place i n [] = refl
from_place i n (m ∷ ms) =
    ap (λ b. cond b (Some i) (position_from (nat_eq n) (i + 1) ms)) (equal_swapped n m) ∙ by (m == n) (from_place (i + 1) n ms)
  where
    further : (b : Bool) → cond b (Some (i + 1 + place_in ms n)) None ≡ cond b (Some (i + (1 + place_in ms n))) None
    further true = let e : i + 1 + place_in ms n ≡ i + (1 + place_in ms n) = omega arith in ap Some e
    further false = refl

    by : (b : Bool) → position_from (nat_eq n) (i + 1) ms ≡ cond (has n ms) (Some (i + 1 + place_in ms n)) None →
        cond b (Some i) (position_from (nat_eq n) (i + 1) ms) ≡ cond (b || has n ms) (Some (i + cond b 0 (1 + place_in ms n))) None
    by true e = let z : i ≡ i + 0 = omega arith in ap Some z
    by false e = e ∙ further (has n ms)

place_of_key : (n : ℕ) (ms : List ℕ) → position (nat_eq n) ms ≡ cond (has n ms) (Some (0 + place_in ms n)) None
place_of_key n ms = position_from-zero (nat_eq n) ms ∙ from_place 0 n ms

-- a key that is found stands at its place
pub key_is_found : (n : ℕ) (ms : List ℕ) (i : ℕ) → position (nat_eq n) ms ≡ Some i → i ≡ place_in ms n
key_is_found n ms i e = by (has n ms) (sym (place_of_key n ms) ∙ e)
  where
    by : (b : Bool) → cond b (Some (0 + place_in ms n)) None ≡ Some i → i ≡ place_in ms n
    by true h = let same : 0 + place_in ms n ≡ i = cc h in omega (arith, same)
    by false h = absurd (cc h)

-- a key that isn't found stands at no place
pub no_key_is_found : (n : ℕ) (ms : List ℕ) → position (nat_eq n) ms ≡ None → place_in ms n ≡ length ms
no_key_is_found n ms e = by (has n ms) refl (sym (place_of_key n ms) ∙ e)
  where
    by : (b : Bool) → has n ms ≡ b → cond (has n ms) (Some (0 + place_in ms n)) None ≡ None → place_in ms n ≡ length ms
    by true h f = let g : Some (0 + place_in ms n) ≡ None = ap (λ c. cond c (Some (0 + place_in ms n)) None) (sym h) ∙ f in absurd (cc g)
    by false h f = no_place ms n h

any_is_has : (n : ℕ) (ms : List ℕ) → list_any (nat_eq n) ms ≡ has n ms
any_is_has n [] = refl
any_is_has n (m ∷ ms) = ap (λ b. b || list_any (nat_eq n) ms) (equal_swapped n m) ∙ ap (λ b. (m == n) || b) (any_is_has n ms)

-- a key that is put in is met
pub key_is_met : (n : ℕ) (ms : List ℕ) → cond (list_any (nat_eq n) ms) ms (ms ++ n ∷ []) ≡ variables_met ms (n ∷ [])
key_is_met n ms = ap (λ b. cond b ms (ms ++ n ∷ [])) (any_is_has n ms)
