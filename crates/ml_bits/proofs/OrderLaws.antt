-- Laws of the order of bit lists, and of lists that begin others.
use Rattle.std.proofs.Common.{◌≡◌, ◌≢◌, ℕ, zero, suc, ◌<◌, ◌≤◌, Bool, true, false, List, [], ◌∷◌, ◌++◌, length, get_or, take, drop, refl, sym, ap, ◌∙◌, arith}
use Rattle.std.specs.declared.cmp.Ordering.{Ordering}
use Rattle.std.specs.declared.cmp.Ordering.TheVariants.{Less, Equal}
use Rattle.std.specs.Ordering.{bool_cmp, ordering_then}
use Rattle.std.specs.Cmp.Lexicographic.{slice_cmp}
use Rattle.std.proofs.lemmas.List.{take-append-drop, take-take, take_all, length-take, take_at}
use Rattle.ml_bits.specs.BitList.{Begins}

-- the same list is neither before nor after itself
pub itself_cmp : (xs : List Bool) → slice_cmp bool_cmp xs xs ≡ Equal
itself_cmp [] = refl
itself_cmp (true ∷ xs) = itself_cmp xs
itself_cmp (false ∷ xs) = itself_cmp xs

-- two lists of which none is before the other are the same
pub same_from_cmp : (xs ys : List Bool) → slice_cmp bool_cmp xs ys ≡ Equal → xs ≡ ys
same_from_cmp [] [] e = refl
same_from_cmp [] (y ∷ ys) e = cc
same_from_cmp (x ∷ xs) [] e = cc
same_from_cmp (true ∷ xs) (true ∷ ys) e = ap (λ zs. true ∷ zs) (same_from_cmp xs ys e)
same_from_cmp (true ∷ xs) (false ∷ ys) e = cc
same_from_cmp (false ∷ xs) (true ∷ ys) e = cc
same_from_cmp (false ∷ xs) (false ∷ ys) e = ap (λ zs. false ∷ zs) (same_from_cmp xs ys e)

bit_itself : (x : Bool) → bool_cmp x x ≡ Equal
bit_itself true = refl
bit_itself false = refl

decided : (x y : Bool) (o : Ordering) → x ≢ y → ordering_then (bool_cmp x y) o ≡ bool_cmp x y
decided true true o d = absurd (d refl)
decided true false o d = refl
decided false true o d = refl
decided false false o d = absurd (d refl)

-- a list comes before its extensions
pub extension_cmp : (xs ys : List Bool) → Begins xs ys → length xs < length ys → slice_cmp bool_cmp xs ys ≡ Less
extension_cmp [] [] b h = absurd (omega arith)
extension_cmp [] (y ∷ ys) b h = refl
extension_cmp (x ∷ xs) [] b h = absurd (omega arith)
extension_cmp (x ∷ xs) (y ∷ ys) b h =
    let tails : take (length xs) ys ≡ xs = cc in
    let heads : y ≡ x = cc in
    let first : bool_cmp x y ≡ Equal = ap (bool_cmp x) heads ∙ bit_itself x in
    ap (λ o. ordering_then o (slice_cmp bool_cmp xs ys)) first ∙ extension_cmp xs ys tails (omega arith)

-- the first place where two lists differ decides
pub difference_cmp : (xs ys : List Bool) (n : ℕ) → take n xs ≡ take n ys → n < length xs → n < length ys → get_or xs n false ≢ get_or ys n false
    → slice_cmp bool_cmp xs ys ≡ bool_cmp (get_or xs n false) (get_or ys n false)
difference_cmp [] ys n e h g d = absurd (omega arith)
difference_cmp (x ∷ xs) [] n e h g d = absurd (omega arith)
difference_cmp (x ∷ xs) (y ∷ ys) zero e h g d = decided x y (slice_cmp bool_cmp xs ys) d
difference_cmp (x ∷ xs) (y ∷ ys) (suc n) e h g d =
    let tails : take n xs ≡ take n ys = cc in
    let heads : x ≡ y = cc in
    let first : bool_cmp x y ≡ Equal = ap (bool_cmp x) (sym heads) ∙ bit_itself x in
    ap (λ o. ordering_then o (slice_cmp bool_cmp xs ys)) first ∙ difference_cmp xs ys n tails (omega arith) (omega arith) d

-- ---- lists that begin others

pub begins_itself : (xs : List Bool) → Begins xs xs
begins_itself xs = take_all (length xs) xs (omega arith)

pub begins_nothing : (xs : List Bool) → Begins [] xs
begins_nothing xs = refl

pub begins_append : (xs ys : List Bool) → Begins xs (xs ++ ys)
begins_append xs ys = take_at xs ys (length xs) refl

pub begins_within : (xs ys : List Bool) → Begins xs ys → length xs ≤ length ys
begins_within xs ys b = omega (arith, ap length b, length-take (length xs) ys)

pub begins_rest : (xs ys : List Bool) → Begins xs ys → ys ≡ xs ++ drop (length xs) ys
begins_rest xs ys b = sym (take-append-drop (length xs) ys) ∙ ap (λ zs. zs ++ drop (length xs) ys) b

-- what begins a beginning begins the whole
pub begins_trans : (xs ys zs : List Bool) → Begins xs ys → Begins ys zs → Begins xs zs
begins_trans xs ys zs a b =
    sym (take-take (length xs) (length ys) zs (begins_within xs ys a)) ∙ ap (take (length xs)) b ∙ a

-- of two beginnings of one list the shorter begins the longer
pub begins_shorter : (xs ys zs : List Bool) → Begins xs zs → Begins ys zs → length xs ≤ length ys → Begins xs ys
begins_shorter xs ys zs a b h =
    ap (take (length xs)) (sym b) ∙ take-take (length xs) (length ys) zs h ∙ a

-- lists that begin each other are the same
pub begins_both : (xs ys : List Bool) → Begins xs ys → Begins ys xs → xs ≡ ys
begins_both xs ys a b = sym a ∙ take_all (length xs) ys (begins_within ys xs b)
