-- Where each bit of interleaved lists stands.
use Rattle.std.specs.Prelude.{◌≡◌, ℕ, zero, suc, ◌+◌, ◌*◌, ◌<◌, Bool, List, [], ◌∷◌, ◌++◌, map, length, drop, slice_get, Some}
use Rattle.std.proofs.Common.{refl, sym, ap, ◌∙◌, arith, append_assoc}
use Rattle.std.proofs.lemmas.List.{map-append, length-map}
use Rattle.ml_term.specs.Tree.{Tree}
use Rattle.ml_term.specs.Codes.{code}
use Rattle.ml_term.specs.Keys.{argument, arguments, keyed_arguments, first_bit, interleave, key_head}
use Rattle.ml_term.proofs.FittingKeys.{length_of_code, codes_split, codes_as_long}

bit_between : (xs ys : List Bool) (b : Bool) → slice_get (xs ++ b ∷ ys) (length xs) ≡ Some b
bit_between [] ys b = refl
bit_between (x ∷ xs) ys b = bit_between xs ys b

bit_behind : (xs ys : List Bool) (k : ℕ) → slice_get (xs ++ ys) (length xs + k) ≡ slice_get ys k
bit_behind [] ys k = let e : 0 + k ≡ k = omega arith in ap (slice_get ys) e
bit_behind (x ∷ xs) ys k = let e : suc (length xs) + k ≡ suc (length xs + k) = omega arith in ap (slice_get (x ∷ xs ++ ys)) e ∙ bit_behind xs ys k

-- bit j of the list with i others before it stands at place j * a + i, where there are a lists
pub place_interleaved : (n : ℕ) (xs : List (List Bool)) (c : List Bool) (ys : List (List Bool)) (tail : List Bool) (j : ℕ) → j < n → length c ≡ n
    → slice_get (interleave n (xs ++ c ∷ ys) ++ tail) (j * length (xs ++ c ∷ ys) + length xs) ≡ slice_get c j
place_interleaved zero xs c ys tail j l h = absurd (omega arith)
place_interleaved (suc n) xs [] ys tail j l h = absurd (omega arith)
place_interleaved (suc n) xs (b ∷ c) ys tail zero l h =
    let first = map first_bit xs in
    let others = map first_bit ys ++ (interleave n (map (drop 1) (xs ++ (b ∷ c) ∷ ys)) ++ tail) in
    let whole : interleave (suc n) (xs ++ (b ∷ c) ∷ ys) ++ tail ≡ first ++ b ∷ others = row_first n xs b c ys tail in
    let at : 0 * length (xs ++ (b ∷ c) ∷ ys) + length xs ≡ length first = omega (arith, length-map xs first_bit) in
    ap (λ z. slice_get z (0 * length (xs ++ (b ∷ c) ∷ ys) + length xs)) whole ∙ (ap (slice_get (first ++ b ∷ others)) at ∙ bit_between first others b)
  where
    row_first : (n : ℕ) (xs : List (List Bool)) (b : Bool) (c : List Bool) (ys : List (List Bool)) (tail : List Bool)
        → interleave (suc n) (xs ++ (b ∷ c) ∷ ys) ++ tail ≡ map first_bit xs
        ++ b ∷ (map first_bit ys ++ (interleave n (map (drop 1) (xs ++ (b ∷ c) ∷ ys)) ++ tail))
    row_first n xs b c ys tail =
        let rest = interleave n (map (drop 1) (xs ++ (b ∷ c) ∷ ys)) in
        append_assoc (map first_bit (xs ++ (b ∷ c) ∷ ys)) rest tail
        ∙ (ap (λ z. z ++ (rest ++ tail)) (map-append first_bit xs ((b ∷ c) ∷ ys)) ∙ append_assoc (map first_bit xs) (b ∷ map first_bit ys) (rest ++ tail))
place_interleaved (suc n) xs (b ∷ c) ys tail (suc j) l h =
    let cs = xs ++ (b ∷ c) ∷ ys in
    let row = map first_bit cs in
    let rest = interleave n (map (drop 1) cs) in
    let at : suc j * length cs + length xs ≡ length row + (j * length cs + length xs) = omega (arith, length-map cs first_bit) in
    let others : map (drop 1) cs ≡ map (drop 1) xs ++ c ∷ map (drop 1) ys = map-append (drop 1) xs ((b ∷ c) ∷ ys) in
    let as_many : j * length cs + length xs ≡ j * length (map (drop 1) xs ++ c ∷ map (drop 1) ys) + length (map (drop 1) xs) =
    ap (λ z. j * z + length xs) (sym (length-map cs (drop 1)) ∙ ap length others)
    ∙ ap (λ z. j * length (map (drop 1) xs ++ c ∷ map (drop 1) ys) + z) (sym (length-map xs (drop 1))) in
    ap (λ z. slice_get z (suc j * length cs + length xs)) (append_assoc row rest tail)
    ∙ (ap (slice_get (row ++ (rest ++ tail))) at
    ∙ (bit_behind row (rest ++ tail) (j * length cs + length xs)
    ∙ (ap (λ z. slice_get (interleave n z ++ tail) (j * length cs + length xs)) others
    ∙ (ap (slice_get (interleave n (map (drop 1) xs ++ c ∷ map (drop 1) ys) ++ tail)) as_many
    ∙ place_interleaved n (map (drop 1) xs) c (map (drop 1) ys) tail j (omega arith) (omega arith)))))

pub bit_of_key : (before after : List ℕ) (k : ℕ) (t : Tree) (tail : List Bool) (j : ℕ) → j < 64
    → slice_get (key_head (before ++ k ∷ after) t ++ tail) (j * length (before ++ k ∷ after) + length before) ≡ slice_get (code (argument k (arguments t))) j
bit_of_key before after k t tail j l =
    let xs = map code (keyed_arguments before t) in
    let c = code (argument k (arguments t)) in
    let ys = map code (keyed_arguments after t) in
    let parts : map code (keyed_arguments (before ++ k ∷ after) t) ≡ xs ++ c ∷ ys = codes_split before after k t in
    let at : j * length (before ++ k ∷ after) + length before ≡ j * length (xs ++ c ∷ ys) + length xs =
    ap (λ z. j * z + length before) (sym (codes_as_long (before ++ k ∷ after) t) ∙ ap length parts)
    ∙ ap (λ z. j * length (xs ++ c ∷ ys) + z) (sym (codes_as_long before t)) in
    ap (λ z. slice_get (interleave 64 z ++ tail) (j * length (before ++ k ∷ after) + length before)) parts
    ∙ (ap (slice_get (interleave 64 (xs ++ c ∷ ys) ++ tail)) at ∙ place_interleaved 64 xs c ys tail j l (length_of_code (argument k (arguments t))))
