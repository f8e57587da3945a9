-- Interleaved lists of bits: each is found again as a column, in a prefix as far as it goes.
use Rattle.std.specs.Prelude.{◌≡◌, ℕ, zero, suc, ◌≤◌, Bool, true, false, ◌&&◌, List, [], ◌∷◌, ◌++◌, map, length, take, drop}
use Rattle.std.proofs.Common.{refl, ap, ◌∙◌, arith, append_assoc, length-append}
use Rattle.std.proofs.lemmas.List.{map-append, length-map, length-drop}
use Rattle.std.proofs.Math.Seq.{drop-append_seam}
use Rattle.std.proofs.Math.ListN.{drop_of_length-le}
use Rattle.ml_term.specs.Keys.{first_bit, interleave}
use Rattle.ml_term.specs.Patterns.{column, same_bit, same_bits, begins}

-- the first n bits of a list, with bits 0 after its end
abbrev pub first_bits : ℕ → List Bool → List Bool
first_bits zero c = []
first_bits (suc n) c = first_bit c ∷ first_bits n (drop 1 c)

pub all_first_bits : (n : ℕ) (c : List Bool) → length c ≡ n → first_bits n c ≡ c
all_first_bits zero [] h = refl
all_first_bits zero (b ∷ c) h = absurd (omega arith)
all_first_bits (suc n) [] h = absurd (omega arith)
all_first_bits (suc n) (b ∷ c) h = rw (all_first_bits n c (omega arith)) refl

drop_front : (i : ℕ) (xs ys : List Bool) → i ≡ length xs → drop i (xs ++ ys) ≡ ys
drop_front i xs ys h = rw h (drop-append_seam xs ys)

next_bit : (i : ℕ) (xs ys : List Bool) (b : Bool) → i ≡ length xs → take 1 (drop i (xs ++ b ∷ ys)) ≡ b ∷ []
next_bit i xs ys b h = rw (drop_front i xs (b ∷ ys) h) refl

-- a column of interleaved lists is the list at that place, whatever follows
pub column_interleaved : (n : ℕ) (xs : List (List Bool)) (c : List Bool) (ys : List (List Bool)) (tail : List Bool) (a i : ℕ) → a ≡ length (xs ++ c ∷ ys) →
    i ≡ length xs
    → column a i n (interleave n (xs ++ c ∷ ys) ++ tail) ≡ first_bits n c
column_interleaved zero xs c ys tail a i h k = refl
column_interleaved (suc n) xs c ys tail a i h k =
    let row = map first_bit xs ++ first_bit c ∷ map first_bit ys in
    let rest : List Bool = interleave n (map (drop 1) (xs ++ c ∷ ys)) ++ tail in
    let parts : interleave (suc n) (xs ++ c ∷ ys) ++ tail ≡ row ++ rest =
    append_assoc (map first_bit (xs ++ c ∷ ys)) (interleave n (map (drop 1) (xs ++ c ∷ ys))) tail ∙ ap (λ z. z ++ rest) (map-append first_bit xs (c ∷ ys)) in
    let front : take 1 (drop i (row ++ rest)) ≡ first_bit c ∷ [] =
    ap (λ z. take 1 (drop i z)) (append_assoc (map first_bit xs) (first_bit c ∷ map first_bit ys) rest)
    ∙ next_bit i (map first_bit xs) (map first_bit ys ++ rest) (first_bit c) (omega (arith, k, length-map xs first_bit)) in
    let back : drop a (row ++ rest) ≡ rest =
    drop_front a row rest (omega (
      arith,
      h,
      length-append xs (c ∷ ys),
      length-append (map first_bit xs) (first_bit c ∷ map first_bit ys),
      length-map xs first_bit,
      length-map ys first_bit,
    )) in
    let others : rest ≡ interleave n (map (drop 1) xs ++ drop 1 c ∷ map (drop 1) ys) ++ tail =
    ap (λ z. interleave n z ++ tail) (map-append (drop 1) xs (c ∷ ys)) in
    let again : column a i n rest ≡ first_bits n (drop 1 c) =
    ap (column a i n) others ∙ column_interleaved n (map (drop 1) xs) (drop 1 c) (map (drop 1) ys) tail a i
    (omega (arith, h, length-append xs (c ∷ ys), length-append (map (drop 1) xs) (drop 1 c ∷ map (drop 1) ys), length-map xs (drop 1), length-map ys (drop 1)))
    (omega (arith, k, length-map xs (drop 1))) in
    ap (λ z. take 1 (drop i z) ++ column a i n (drop a z)) parts
    ∙ (ap (λ z. z ++ column a i n (drop a (row ++ rest))) front ∙ ap (λ z. first_bit c ∷ z) (ap (column a i n) back ∙ again))

-- what begins
pub and_first : (b c : Bool) → (b && c) ≡ true → b ≡ true
and_first true c h = refl
and_first false c h = h

pub and_second : (b c : Bool) → (b && c) ≡ true → c ≡ true
and_second true c h = h
and_second false c h = absurd (cc h)

pub same_bit_itself : (b : Bool) → same_bit b b ≡ true
same_bit_itself true = refl
same_bit_itself false = refl

pub same_bit_equal : (b c : Bool) → same_bit b c ≡ true → b ≡ c
same_bit_equal true true h = refl
same_bit_equal true false h = absurd (cc h)
same_bit_equal false true h = absurd (cc h)
same_bit_equal false false h = refl

pub same_bits_itself : (bs : List Bool) → same_bits bs bs ≡ true
same_bits_itself [] = refl
same_bits_itself (b ∷ bs) = rw (same_bit_itself b) (same_bits_itself bs)

pub same_bits_equal : (bs cs : List Bool) → same_bits bs cs ≡ true → bs ≡ cs
same_bits_equal [] [] h = refl
same_bits_equal [] (c ∷ cs) h = absurd (cc h)
same_bits_equal (b ∷ bs) [] h = absurd (cc h)
same_bits_equal (b ∷ bs) (c ∷ cs) h = rw (
  same_bit_equal b c (and_first (same_bit b c) (same_bits bs cs) h),
  same_bits_equal bs cs (and_second (same_bit b c) (same_bits bs cs) h),
) refl

pub begins_with_rest : (bs cs : List Bool) → begins bs (bs ++ cs) ≡ true
begins_with_rest [] cs = refl
begins_with_rest (b ∷ bs) cs = rw (same_bit_itself b) (begins_with_rest bs cs)

pub begins_drop : (k : ℕ) (bs cs : List Bool) → begins bs cs ≡ true → begins (drop k bs) (drop k cs) ≡ true
begins_drop zero bs cs h = h
begins_drop (suc k) [] cs h = refl
begins_drop (suc k) (b ∷ bs) [] h = absurd (cc h)
begins_drop (suc k) (b ∷ bs) (c ∷ cs) h = begins_drop k bs cs (and_second (same_bit b c) (begins bs cs) h)

-- a column of a list that ends before it is empty
pub column_past : (n a i : ℕ) (bs : List Bool) → length bs ≤ i → column a i n bs ≡ []
column_past zero a i bs h = refl
column_past (suc n) a i bs h = rw (drop_of_length-le bs h, column_past n a i (drop a bs) (omega (arith, length-drop a bs))) refl

begins_step : (n a i : ℕ) (bs x y q : List Bool) → drop i bs ≡ x → begins x y ≡ true → begins (column a i n (drop a bs)) q ≡ true
    → begins (take 1 x ++ column a i n (drop a bs)) (take 1 y ++ q) ≡ true
begins_step n a i bs [] y q e h k =
    let none : column a i n (drop a bs) ≡ [] = column_past n a i (drop a bs) (omega (arith, length-drop a bs, length-drop i bs, ap length e)) in
    rw none refl
begins_step n a i bs (b ∷ x) [] q e h k = absurd (cc h)
begins_step n a i bs (b ∷ x) (c ∷ y) q e h k = rw (and_first (same_bit b c) (begins x y) h) k

-- a column of what begins a list begins the list's column
pub column_begins : (n a i : ℕ) (bs cs : List Bool) → begins bs cs ≡ true → begins (column a i n bs) (column a i n cs) ≡ true
column_begins zero a i bs cs h = refl
column_begins (suc n) a i bs cs h =
    begins_step n a i bs (drop i bs) (drop i cs) (column a i n (drop a cs)) refl (begins_drop i bs cs h)
    (column_begins n a i (drop a bs) (drop a cs) (begins_drop a bs cs h))
