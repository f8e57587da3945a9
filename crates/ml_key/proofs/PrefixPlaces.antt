-- Keyed places of a prefix, row by row, and then one after another.
use Rattle.std.specs.Prelude.{◌≡◌, ℕ, zero, suc, ◌+◌, ◌-◌, ◌*◌, ◌/◌, ◌%◌, ◌^◌, ◌==◌, ◌<◌, ◌≤◌, Bool, true, false, not, ◌&&◌, ◌||◌, List, [], ◌∷◌, ◌++◌, map}
use Rattle.std.specs.Prelude.{length, take, drop, Option, Some, None, bit_and}
use Rattle.std.proofs.Common.{refl, sym, ap, ◌∙◌, arith, get_or}
use Rattle.std.proofs.lemmas.Nat.Bits.{shr_and_one}
use Rattle.std.proofs.lemmas.List.{drop_more, length-map}
use Rattle.std.proofs.Math.ListN.{drop_of_length-le}
use mathlib.Core.Bool.{beq}
use Rattle.ml_term.specs.Tree.{Tree, variable, integer, atom, compound}
use Rattle.ml_term.specs.Codes.{bits, code}
use Rattle.ml_term.specs.Patterns.{asked_code, same_bit, begins, column, may_hold_from, may_hold}
use Rattle.ml_term.proofs.KeyColumns.{column_past, same_bit_itself}
use Rattle.ml_key.specs.inside.PatternCodes.{word_bits, asked_bits, is_variable, begins_code, place_may_hold}

drop_none : (i : ℕ) → drop {A = Bool} i [] ≡ []
drop_none zero = refl
drop_none (suc i) = refl

drop_twice : (a i : ℕ) (bs : List Bool) → drop i (drop a bs) ≡ drop (i + a) bs
drop_twice zero i bs = let e : i + 0 ≡ i = omega arith in ap (λ n. drop n bs) (sym e)
drop_twice (suc a) i [] = drop_none i ∙ sym (drop_none (i + suc a))
drop_twice (suc a) i (b ∷ bs) = let e : i + suc a ≡ suc (i + a) = omega arith in drop_twice a i bs ∙ sym (ap (λ n. drop n (b ∷ bs)) e)

-- a column of what follows the first a bits begins a places later
column_later : (n a i : ℕ) (bs : List Bool) → column a i n (drop a bs) ≡ column a (i + a) n bs
column_later zero a i bs = refl
column_later (suc n) a i bs =
    ap (λ x. take 1 x ++ column a i n (drop a (drop a bs))) (drop_twice a i bs) ∙ ap (λ x. take 1 (drop (i + a) bs) ++ x) (column_later n a i (drop a bs))

-- no row is left in the prefix
pub rows_end : (n a i : ℕ) (bs asked : List Bool) → length bs ≤ i → begins (column a i n bs) asked ≡ true
rows_end n a i bs asked h = ap (λ x. begins x asked) (column_past n a i bs h)

one_row : (n a i v : ℕ) (bs : List Bool) → i < length bs
    → begins (column a i (suc n) bs) (bits (suc n) v) ≡ (same_bit (get_or bs i false) (v / 2 ^ n % 2 == 1) && begins (column a (i + a) n bs) (bits n v))
one_row n a i v bs h =
    let b = get_or bs i false in
    let first : take 1 (drop i bs) ≡ b ∷ [] = ap (take 1) (drop_more bs i false h) in
    ap (λ x. begins (x ++ column a i n (drop a bs)) (bits (suc n) v)) first
    ∙ ap (λ x. same_bit b (v / 2 ^ n % 2 == 1) && begins x (bits n v)) (column_later n a i bs)

-- the first rows of a column begin the code
pub record BeginsSoFar (width place at rows row code : ℕ) (bs : List Bool) : Type 0 where
  pub near : at ≤ place + 8 * row
  pub rest : begins (column width place rows bs) (bits rows code) ≡ begins (column width at (rows - row) bs) (bits (rows - row) code)

pub no_row_yet : (width place rows code : ℕ) (bs : List Bool) → BeginsSoFar width place place rows 0 code bs
no_row_yet width place rows code bs =
    let all : rows - 0 ≡ rows = omega arith in
    record { near = omega arith; rest = sym (ap (λ n. begins (column width place n bs) (bits n code)) all) }

next_row : (width place at rows row code : ℕ) (bs : List Bool) → row < rows → at < length bs → BeginsSoFar width place at rows row code bs
    → begins (column width place rows bs) (bits rows code)
    ≡ (same_bit (get_or bs at false) (code / 2 ^ (rows - 1 - row) % 2 == 1)
    && begins (column width (at + width) (rows - (row + 1)) bs) (bits (rows - (row + 1)) code))
next_row width place at rows row code bs below within before =
    let m : ℕ = rows - 1 - row in
    let left : rows - row ≡ suc m = omega arith in
    let then_left : m ≡ rows - (row + 1) = omega arith in
    before.rest
    ∙ ap (λ n. begins (column width at n bs) (bits n code)) left
    ∙ one_row m width at code bs within
    ∙ ap (λ n. same_bit (get_or bs at false) (code / 2 ^ m % 2 == 1) && begins (column width (at + width) n bs) (bits n code)) then_left

alike : (b c : Bool) → not (beq b c) ≡ false → b ≡ c
alike true true h = refl
alike true false h = absurd (cc h)
alike false true h = absurd (cc h)
alike false false h = refl

apart : (b c : Bool) → not (beq b c) ≡ true → b ≡ c → ⊥
apart true true h e = absurd (cc h)
apart true false h e = absurd (cc e)
apart false true h e = absurd (cc e)
apart false false h e = absurd (cc h)

-- the bit of the next row is the wanted one
pub row_begins : (width place at rows row code : ℕ) (b : Bool) (bs : List Bool) → row < rows → at < length bs → width ≤ 8 →
    BeginsSoFar width place at rows row code bs
    → b ≡ get_or bs at false → not (beq b (bit_and (code / 2 ^ (rows - 1 - row)) 1 == 1)) ≡ false → BeginsSoFar width place (at + width) rows (row + 1) code bs
row_begins width place at rows row code b bs below within narrow before found wanted =
    let w : Bool = code / 2 ^ (rows - 1 - row) % 2 == 1 in
    let is_wanted : b ≡ w = alike _ _ wanted ∙ ap (λ n. n == 1) (shr_and_one code (rows - 1 - row)) in
    let same : same_bit (get_or bs at false) w ≡ true = ap (λ x. same_bit x w) (sym found) ∙ ap (λ x. same_bit x w) is_wanted ∙ same_bit_itself w in
    record {
      near = omega (arith, before.near);
      rest =
          next_row width place at rows row code bs below within before
          ∙ ap (λ x. x && begins (column width (at + width) (rows - (row + 1)) bs) (bits (rows - (row + 1)) code)) same;
    }

not_same : (b c : Bool) → (b ≡ c → ⊥) → same_bit b c ≡ false
not_same true true h = absurd (h refl)
not_same true false h = refl
not_same false true h = refl
not_same false false h = absurd (h refl)

-- the bit of the next row is another one
pub row_differs : (width place at rows row code : ℕ) (b : Bool) (bs : List Bool) → row < rows → at < length bs → BeginsSoFar width place at rows row code bs
    → b ≡ get_or bs at false → not (beq b (bit_and (code / 2 ^ (rows - 1 - row)) 1 == 1)) ≡ true → false ≡ begins (column width place rows bs) (bits rows code)
row_differs width place at rows row code b bs below within before found other =
    let w : Bool = code / 2 ^ (rows - 1 - row) % 2 == 1 in
    let differs : same_bit (get_or bs at false) w ≡ false =
    not_same (get_or bs at false) w (λ e. apart _ _ other (found ∙ e ∙ sym (ap (λ n. n == 1) (shr_and_one code (rows - 1 - row))))) in
    sym (next_row width place at rows row code bs below within before
    ∙ ap (λ x. x && begins (column width (at + width) (rows - (row + 1)) bs) (bits (rows - (row + 1)) code)) differs)

-- the prefix ends before the next row
pub rows_ended : (width place at rows row code : ℕ) (bs : List Bool) → length bs ≤ at → BeginsSoFar width place at rows row code bs
    → true ≡ begins (column width place rows bs) (bits rows code)
rows_ended width place at rows row code bs past before = sym (before.rest ∙ rows_end (rows - row) width at bs (bits (rows - row) code) past)

-- every row is the wanted one
pub all_rows_begin : (width place at rows code : ℕ) (bs : List Bool) → BeginsSoFar width place at rows rows code bs →
    true ≡ begins (column width place rows bs) (bits rows code)
all_rows_begin width place at rows code bs before =
    let none : rows - rows ≡ 0 = omega arith in
    sym (before.rest ∙ ap (λ n. begins (column width at n bs) (bits n code)) none)

-- ---- what is asked of a place

pub nothing_asked : (t : Tree) → is_variable t ≡ true → None ≡ asked_code t
nothing_asked (variable n) h = refl
nothing_asked (integer z) h = absurd (cc h)
nothing_asked (atom f) h = absurd (cc h)
nothing_asked (compound f ts) h = absurd (cc h)

pub its_code_asked : (t : Tree) (word : ℕ) → is_variable t ≡ false → bits 64 word ≡ code t → Some (word_bits word) ≡ asked_code t
unfolding word_bits
its_code_asked (variable n) word h e = absurd (cc h)
its_code_asked (integer z) word h e = ap (λ (bs : List Bool). Some bs) e
its_code_asked (atom f) word h e = ap (λ (bs : List Bool). Some bs) e
its_code_asked (compound f ts) word h e = ap (λ (bs : List Bool). Some bs) e

-- ---- one keyed place, and all of them

pub asked_place : (width place word : ℕ) (bs : List Bool) →
    (begins_code width place word bs || begins_code width place 0 bs) ≡ place_may_hold width place (Some (word_bits word)) bs
unfolding begins_code place_may_hold word_bits
asked_place width place word bs = refl

pub free_place : (width place : ℕ) (bs : List Bool) → true ≡ place_may_hold width place None bs
unfolding place_may_hold
free_place width place bs = refl

one_place : (a i : ℕ) (p : Option (List Bool)) (ps : List (Option (List Bool))) (bs : List Bool)
    → may_hold_from a i (p ∷ ps) bs ≡ (place_may_hold a i p bs && may_hold_from a (i + 1) ps bs)
unfolding place_may_hold
one_place a i p ps bs = refl

-- the first places of a prefix may hold what is asked for
pub record HoldsSoFar (words : List (Option ℕ)) (place : ℕ) (bs : List Bool) : Type 0 where
  pub rest : may_hold (map asked_bits words) bs ≡ may_hold_from (length words) place (map asked_bits (drop place words)) bs

pub no_place_yet : (words : List (Option ℕ)) (bs : List Bool) → HoldsSoFar words 0 bs
no_place_yet words bs = record { rest = ap (λ a. may_hold_from a 0 (map asked_bits words) bs) (length-map words asked_bits) }

next_place : (words : List (Option ℕ)) (place : ℕ) (bs : List Bool) (d : Option ℕ) → place < length words → HoldsSoFar words place bs
    → may_hold (map asked_bits words) bs
    ≡ (place_may_hold (length words) place (asked_bits (get_or words place d)) bs
    && may_hold_from (length words) (place + 1) (map asked_bits (drop (place + 1) words)) bs)
next_place words place bs d here before =
    before.rest
    ∙ ap (λ ws. may_hold_from (length words) place (map asked_bits ws) bs) (drop_more words place d here)
    ∙ one_place (length words) place (asked_bits (get_or words place d)) (map asked_bits (drop (place + 1) words)) bs

-- the next place may hold what is asked for
pub place_holds : (words : List (Option ℕ)) (place : ℕ) (bs : List Bool) (d : Option ℕ) → place < length words → HoldsSoFar words place bs
    → place_may_hold (length words) place (asked_bits (get_or words place d)) bs ≡ true → HoldsSoFar words (place + 1) bs
place_holds words place bs d here before holds = record {
  rest = next_place words place bs d here before ∙ ap (λ b. b && may_hold_from (length words) (place + 1) (map asked_bits (drop (place + 1) words)) bs) holds;
}

-- the next place can't hold it
pub place_holds_not : (words : List (Option ℕ)) (place : ℕ) (bs : List Bool) (d : Option ℕ) → place < length words → HoldsSoFar words place bs
    → place_may_hold (length words) place (asked_bits (get_or words place d)) bs ≡ false → false ≡ may_hold (map asked_bits words) bs
place_holds_not words place bs d here before holds =
    sym (next_place words place bs d here before ∙ ap (λ b. b && may_hold_from (length words) (place + 1) (map asked_bits (drop (place + 1) words)) bs) holds)

pub all_places_hold : (words : List (Option ℕ)) (place : ℕ) (bs : List Bool) → length words ≤ place → HoldsSoFar words place bs →
    true ≡ may_hold (map asked_bits words) bs
all_places_hold words place bs past before =
    sym (before.rest ∙ ap (λ ws. may_hold_from (length words) place (map asked_bits ws) bs) (drop_of_length-le words past))
