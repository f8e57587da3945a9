-- A prefix that may hold a fitting key begins one: its columns are completed to codes, and these are interleaved.
use Rattle.std.specs.Prelude.{◌≡◌, ℕ, zero, suc, ◌+◌, ◌-◌, ◌*◌, ◌≤◌, Bool, true, false, List, [], ◌∷◌, ◌++◌, map, length, take, drop, replicate, cond, Option}
use Rattle.std.specs.Prelude.{Some, None, ◌↔◌}
use Rattle.std.proofs.Common.{refl, sym, ap, ◌∙◌, subst, arith, append_assoc, length-append}
use Rattle.std.proofs.lemmas.List.{length-map, length-drop, length-take, length-replicate, drop-drop}
use Rattle.ml_term.specs.Tree.{Tree, variable, integer, atom, compound}
use Rattle.ml_term.specs.Codes.{variable_code}
use Rattle.ml_term.specs.Keys.{keyed_arguments, first_bit, interleave}
use Rattle.ml_term.specs.Patterns.{asked_code, pattern_of, column, attribute, same_bit, same_bits, begins, fits_at, fits_from, fits, may_hold_at, may_hold_from}
use Rattle.ml_term.specs.Patterns.{may_hold}
use Rattle.ml_term.proofs.FittingKeys.{length_of_code, prefix_holds, and_both, or_first, or_second}
use Rattle.ml_term.proofs.KeyColumns.{all_first_bits, column_interleaved, column_past, same_bits_itself, and_first, and_second, same_bit_equal, same_bit_itself}
use Rattle.ml_term.proofs.KeyColumns.{begins_with_rest}

-- each of some lists is begun by a column of a list, from a place on
abbrev pub BeginEach : ℕ → ℕ → ℕ → List Bool → List (List Bool) → Type 0
BeginEach a n i bs [] = Unit {0}
BeginEach a n i bs (c ∷ cs) = (begins (column a i n bs) c ≡ true) × BeginEach a n (i + 1) bs cs

begins_tail : (b : Bool) (x c : List Bool) → begins (b ∷ x) c ≡ true → (first_bit c ≡ b) × (begins x (drop 1 c) ≡ true)
begins_tail b x [] h = absurd (cc h)
begins_tail b x (d ∷ c) h = (sym (same_bit_equal b d (and_first (same_bit b d) (begins x c) h)), and_second (same_bit b d) (begins x c) h)

begins_itself : (bs : List Bool) → begins bs bs ≡ true
begins_itself [] = refl
begins_itself (b ∷ bs) = rw (same_bit_itself b) (begins_itself bs)

begins_split : (a : ℕ) (bs u v : List Bool) → length u ≡ a → begins (take a bs) u ≡ true → begins (drop a bs) v ≡ true → begins bs (u ++ v) ≡ true
begins_split zero bs [] v l h k = k
begins_split zero bs (c ∷ u) v l h k = absurd (omega arith)
begins_split (suc a) [] u v l h k = refl
begins_split (suc a) (b ∷ bs) [] v l h k = absurd (omega arith)
begins_split (suc a) (b ∷ bs) (c ∷ u) v l h k =
    and_both (same_bit b c) (begins bs (u ++ v)) (and_first (same_bit b c) (begins (take a bs) u) h)
    (begins_split a bs u v (omega arith) (and_second (same_bit b c) (begins (take a bs) u) h) k)

next_drop : (i : ℕ) (bs : List Bool) (b : Bool) (y : List Bool) → drop i bs ≡ b ∷ y → drop (i + 1) bs ≡ y
next_drop i bs b y e = sym (drop-drop 1 i bs) ∙ ap (drop 1) e

-- the first row
first_row : (a n i : ℕ) (bs : List Bool) (cs : List (List Bool)) → BeginEach a (suc n) i bs cs → (x : List Bool) → drop i bs ≡ x →
    begins (take (length cs) x) (map first_bit cs) ≡ true
first_row a n i bs [] h x e = refl
first_row a n i bs (c ∷ cs) h [] e = refl
first_row a n i bs (c ∷ cs) h (b ∷ y) e =
    let f : begins (b ∷ column a i n (drop a bs)) c ≡ true = subst (λ z. begins (take 1 z ++ column a i n (drop a bs)) c ≡ true) e h.0 in
    let q : same_bit b (first_bit c) ≡ true = rw (begins_tail b (column a i n (drop a bs)) c f).0 (same_bit_itself b) in
    and_both (same_bit b (first_bit c)) (begins (take (length cs) y) (map first_bit cs)) q (first_row a n (i + 1) bs cs h.1 y (next_drop i bs b y e))

-- the other rows
after_first : (a n i : ℕ) (bs c x : List Bool) → drop i bs ≡ x → begins (take 1 x ++ column a i n (drop a bs)) c ≡ true →
    begins (column a i n (drop a bs)) (drop 1 c) ≡ true
after_first a n i bs c [] e h =
    let none : column a i n (drop a bs) ≡ [] = column_past n a i (drop a bs) (omega (arith, length-drop a bs, length-drop i bs, ap length e)) in
    rw none refl
after_first a n i bs c (b ∷ x) e h = (begins_tail b (column a i n (drop a bs)) c h).1

other_rows : (a n i : ℕ) (bs : List Bool) (cs : List (List Bool)) → BeginEach a (suc n) i bs cs → BeginEach a n i (drop a bs) (map (drop 1) cs)
other_rows a n i bs [] h = tt
other_rows a n i bs (c ∷ cs) h = (after_first a n i bs c (drop i bs) refl h.0, other_rows a n (i + 1) bs cs h.1)

-- a list whose columns begin some lists begins these interleaved, with its own rest behind them
pub rebuilt : (n : ℕ) (a : ℕ) (bs : List Bool) (cs : List (List Bool)) → length cs ≡ a → BeginEach a n 0 bs cs →
    begins bs (interleave n cs ++ drop (n * a) bs) ≡ true
rebuilt zero a bs cs l h =
    let e : zero * a ≡ 0 = omega arith in
    subst (λ z. begins bs (drop z bs) ≡ true) (sym e) (begins_itself bs)
rebuilt (suc n) a bs cs l h =
    let row = map first_bit cs in
    let rest = interleave n (map (drop 1) cs) in
    let far : drop (n * a) (drop a bs) ≡ drop (suc n * a) bs =
    let e : a + n * a ≡ suc n * a = omega arith in drop-drop (n * a) a bs ∙ ap (λ z. drop z bs) e in
    let again : begins (drop a bs) (rest ++ drop (suc n * a) bs) ≡ true =
    subst (λ z. begins (drop a bs) (rest ++ z) ≡ true) far
    (rebuilt n a (drop a bs) (map (drop 1) cs) (length-map cs (drop 1) ∙ l) (other_rows a n 0 bs cs h)) in
    let front : begins (take a bs) row ≡ true = subst (λ z. begins (take z bs) row ≡ true) l (first_row a n 0 bs cs h bs refl) in
    subst (λ z. begins bs z ≡ true) (sym (append_assoc row rest (drop (suc n * a) bs)))
    (begins_split a bs row (rest ++ drop (suc n * a) bs) (length-map cs first_bit ∙ l) front again)

-- a code that fits what is asked, and that bits of a prefix begin
abbrev chosen : Option (List Bool) → List Bool → List Bool
chosen None found = found ++ replicate (64 - length found) false
chosen (Some asked) found = cond (begins found asked) asked variable_code

abbrev IsCode : Option (List Bool) → Type 0
IsCode None = Unit {0}
IsCode (Some asked) = length asked ≡ 64

column_length : (n a i : ℕ) (bs : List Bool) → length (column a i n bs) ≤ n
column_length zero a i bs = omega arith
column_length (suc n) a i bs = omega (
  arith,
  length-append (take 1 (drop i bs)) (column a i n (drop a bs)),
  length-take 1 (drop i bs),
  column_length n a i (drop a bs),
)

chosen_length : (p : Option (List Bool)) (found : List Bool) → IsCode p → length found ≤ 64 → length (chosen p found) ≡ 64
chosen_length None found c l = omega (arith, length-append found (replicate (64 - length found) false), length-replicate {A = Bool} (64 - length found) false)
chosen_length (Some asked) found c l = either (begins found asked)
  where
    either : (b : Bool) → length (cond b asked variable_code) ≡ 64
    either true = c
    either false = refl

chosen_begins : (p : Option (List Bool)) (found : List Bool) → may_hold_at p found ≡ true → begins found (chosen p found) ≡ true
chosen_begins None found h = begins_with_rest found (replicate (64 - length found) false)
chosen_begins (Some asked) found h = either (begins found asked) refl
  where
    either : (b : Bool) → begins found asked ≡ b → begins found (cond b asked variable_code) ≡ true
    either true e = e
    either false e = rw e at h

chosen_fits : (p : Option (List Bool)) (found : List Bool) → fits_at p (chosen p found) ≡ true
chosen_fits None found = refl
chosen_fits (Some asked) found = either (begins found asked)
  where
    either : (b : Bool) → fits_at (Some asked) (cond b asked variable_code) ≡ true
    either true = or_first (same_bits asked asked) (same_bits asked variable_code) (same_bits_itself asked)
    either false = or_second (same_bits variable_code asked) (same_bits variable_code variable_code) (same_bits_itself variable_code)

abbrev AreCodes : List (Option (List Bool)) → Type 0
AreCodes [] = Unit {0}
AreCodes (p ∷ ps) = IsCode p × AreCodes ps

abbrev completions : ℕ → ℕ → List (Option (List Bool)) → List Bool → List (List Bool)
completions a i [] prefix = []
completions a i (p ∷ ps) prefix = chosen p (attribute a i prefix) ∷ completions a (i + 1) ps prefix

completions_length : (a i : ℕ) (ps : List (Option (List Bool))) (prefix : List Bool) → length (completions a i ps prefix) ≡ length ps
completions_length a i [] prefix = refl
completions_length a i (p ∷ ps) prefix = ap suc (completions_length a (i + 1) ps prefix)

each_begun : (a i : ℕ) (ps : List (Option (List Bool))) (prefix : List Bool) → may_hold_from a i ps prefix ≡ true →
    BeginEach a 64 i prefix (completions a i ps prefix)
each_begun a i [] prefix h = tt
each_begun a i (p ∷ ps) prefix h = (
  chosen_begins p (attribute a i prefix) (and_first (may_hold_at p (attribute a i prefix)) (may_hold_from a (i + 1) ps prefix) h),
  each_begun a (i + 1) ps prefix (and_second (may_hold_at p (attribute a i prefix)) (may_hold_from a (i + 1) ps prefix) h),
)

completed_fits : (a : ℕ) (ps : List (Option (List Bool))) (prefix tail : List Bool) → AreCodes ps → (xs : List (List Bool)) (i : ℕ) →
    a ≡ length (xs ++ completions a i ps prefix) → i ≡ length xs
    → fits_from a i ps (interleave 64 (xs ++ completions a i ps prefix) ++ tail) ≡ true
completed_fits a [] prefix tail c xs i h k = refl
completed_fits a (p ∷ ps) prefix tail c xs i h k =
    let d = chosen p (attribute a i prefix) in
    let ds = completions a (i + 1) ps prefix in
    let at : attribute a i (interleave 64 (xs ++ d ∷ ds) ++ tail) ≡ d =
    column_interleaved 64 xs d ds tail a i h k ∙ all_first_bits 64 d (chosen_length p (attribute a i prefix) c.0 (column_length 64 a i prefix)) in
    let moved : (xs ++ d ∷ []) ++ ds ≡ xs ++ d ∷ ds = append_assoc xs (d ∷ []) ds in
    let rest : fits_from a (i + 1) ps (interleave 64 ((xs ++ d ∷ []) ++ ds) ++ tail) ≡ true =
    completed_fits a ps prefix tail c.1 (xs ++ d ∷ []) (i + 1) (h ∙ ap length (sym moved)) (omega (arith, k, length-append xs (d ∷ []))) in
    and_both _ _ (ap (fits_at p) at ∙ chosen_fits p (attribute a i prefix)) (subst (λ z. fits_from a (i + 1) ps (interleave 64 z ++ tail) ≡ true) moved rest)

abbrev pub Fitting : List (Option (List Bool)) → List Bool → Type 0
Fitting pattern prefix = (key : List Bool) × ((begins prefix key ≡ true) × (fits pattern key ≡ true))

pub begins_one : (ps : List (Option (List Bool))) (prefix : List Bool) → AreCodes ps → may_hold ps prefix ≡ true → Fitting ps prefix
begins_one ps prefix c h =
    let a = length ps in
    let cs = completions a 0 ps prefix in
    let l : length cs ≡ a = completions_length a 0 ps prefix in (
      interleave 64 cs ++ drop (64 * a) prefix,
      (rebuilt 64 a prefix cs l (each_begun a 0 ps prefix h), completed_fits a ps prefix (drop (64 * a) prefix) c [] 0 (sym l) refl),
    )

is_code : (t : Tree) → IsCode (asked_code t)
is_code (variable n) = tt
is_code (integer z) = length_of_code (integer z)
is_code (atom f) = length_of_code (atom f)
is_code (compound f ts) = length_of_code (compound f ts)

are_codes : (ts : List Tree) → AreCodes (map asked_code ts)
are_codes [] = tt
are_codes (t ∷ ts) = (is_code t, are_codes ts)

pub holds_exactly : (keys : List ℕ) (head : Tree) (prefix : List Bool) → (may_hold (pattern_of keys head) prefix ≡ true) ↔ Fitting (pattern_of keys head) prefix
holds_exactly keys head prefix = (
  begins_one (pattern_of keys head) prefix (are_codes (keyed_arguments keys head)),
  (λ f. prefix_holds (pattern_of keys head) prefix f.0 f.1.0 f.1.1),
)
