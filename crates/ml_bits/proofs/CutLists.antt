-- Lists cut at one place.
use Rattle.std.proofs.Common.{◌≡◌, List, [], ◌∷◌, ◌++◌, length, refl, ap, arith, length-append}

-- two lists in two parts, the second parts as long as each other
pub same_parts : {A : Type 0} (xs ys ps qs : List A) → length ps ≡ length qs → xs ++ ps ≡ ys ++ qs → (xs ≡ ys) × (ps ≡ qs)
same_parts [] [] ps qs h e = (refl, e)
same_parts [] (y ∷ ys) ps qs h e = absurd (omega (arith, ap length e, length-append ys qs, h))
same_parts (x ∷ xs) [] ps qs h e = absurd (omega (arith, ap length e, length-append xs ps, h))
same_parts (x ∷ xs) (y ∷ ys) ps qs h e =
    let tails : xs ++ ps ≡ ys ++ qs = cc in
    let heads : x ≡ y = cc in
    let parts : (xs ≡ ys) × (ps ≡ qs) = same_parts xs ys ps qs h tails in
    let first : xs ≡ ys = parts.0 in
    (cc, parts.1)
