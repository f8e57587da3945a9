-- Lemmas on lists, on beginnings of lists, and on the places of their members.
use Rattle.std.proofs.Common.{◌≡◌, ◌≢◌, ◌⊎◌, ℕ, zero, suc, ◌<◌, ◌≤◌, List, [], ◌∷◌, ◌++◌, length, get_or, set, refl, ap, sym, ◌∙◌, inl, inr, ⊎_elim, arith}
use Rattle.std.proofs.Common.{Option, Some, None, Contains, Bool, true, false, cond, nat_lt, append_assoc}
use Rattle.std.proofs.lemmas.List.{append-nil}
use Rattle.std.proofs.lemmas.Bool.Decides.{nat_tests}
use mathlib.Core.List.{IsPrefix}
use mathlib.Core.Option.{some, some-injective, some-ne-none}
use lib.ListN.{get_elem?}

-- a list begins itself
pub prefix_refl : {A : Type 0} (xs : List A) → IsPrefix xs xs
prefix_refl xs = ([], append-nil xs)

pub prefix_trans : {A : Type 0} (xs ys zs : List A) → IsPrefix xs ys → IsPrefix ys zs → IsPrefix xs zs
prefix_trans xs ys zs p q = (p.0 ++ q.0, sym (append_assoc xs p.0 q.0) ∙ (ap (λ w. w ++ q.0) p.1 ∙ q.1))

-- of two beginnings of one list the shorter begins the longer
prefix_shorter : {A : Type 0} (xs ys zs : List A) → IsPrefix xs zs → IsPrefix ys zs → length xs ≤ length ys → IsPrefix xs ys
prefix_shorter [] ys zs p q le = (ys, refl)
prefix_shorter (x ∷ xs) [] zs p q le = absurd (omega arith)
prefix_shorter (x ∷ xs) (y ∷ ys) [] p q le = absurd (cc (p.1))
prefix_shorter (x ∷ xs) (y ∷ ys) (z ∷ zs) p q le =
    let heads : x ≡ y = cc (p.1, q.1) in
    let rest = prefix_shorter xs ys zs (p.0, cc (p.1)) (q.0, cc (q.1)) (omega arith) in
    (rest.0, cc (heads, rest.1))

-- the longer of two beginnings of a list begins it, and both begin the longer
pub longer_fits : {A : Type 0} (xs ys zs : List A) (b : Bool) → nat_lt (length xs) (length ys) ≡ b → IsPrefix xs zs → IsPrefix ys zs
    → IsPrefix (cond b ys xs) zs × IsPrefix xs (cond b ys xs) × IsPrefix ys (cond b ys xs)
longer_fits xs ys zs true e p q =
    let h : length xs < length ys = grind (arith, nat_tests) in
    (q, prefix_shorter xs ys zs p q (omega arith), prefix_refl ys)
longer_fits xs ys zs false e p q =
    let h : length ys ≤ length xs = grind (arith, nat_tests) in
    (p, prefix_refl xs, prefix_shorter ys xs zs q p h)

-- a place within a list has a member
pub there_is : {A : Type 0} (xs : List A) (i : ℕ) → i < length xs → (a : A) × (get_elem? xs i ≡ some a)
there_is [] i h = absurd (omega arith)
there_is (x ∷ xs) zero h = (x, refl)
there_is (x ∷ xs) (suc i) h = there_is xs i (omega arith)

-- a place with a member is within the list
pub is_within : {A : Type 0} (xs : List A) (i : ℕ) (a : A) → get_elem? xs i ≡ some a → i < length xs
is_within [] i a e = absurd (some-ne-none a (sym e))
is_within (x ∷ xs) zero a e = omega arith
is_within (x ∷ xs) (suc i) a e = let h = is_within xs i a e in omega arith

-- a member of a list with one more at its end is an old one, or the one at the end
pub at_end : {A : Type 0} (l : List A) (a b : A) (j : ℕ) → get_elem? (l ++ a ∷ []) j ≡ some b → (get_elem? l j ≡ some b) ⊎ ((j ≡ length l) × (a ≡ b))
at_end [] a b zero e = inr (refl, some-injective a b e)
at_end [] a b (suc j) e = absurd (some-ne-none b (sym e))
at_end (x ∷ xs) a b zero e = inl e
at_end (x ∷ xs) a b (suc j) e = ⊎_elim
    (λ h. inl h)
    (λ (t : (j ≡ length xs) × (a ≡ b)). inr (let h = t.0 in omega arith, t.1))
    (at_end xs a b j e)

-- a member keeps its place where the list goes on
pub at_longer : {A : Type 0} (l m : List A) (j : ℕ) (a : A) → get_elem? l j ≡ some a → get_elem? (l ++ m) j ≡ some a
at_longer [] m j a e = absurd (some-ne-none a (sym e))
at_longer (x ∷ xs) m zero a e = e
at_longer (x ∷ xs) m (suc j) a e = at_longer xs m j a e

-- writes at two places may change their order
pub set-set_apart : {A : Type 0} (l : List A) (i j : ℕ) (a b : A) → i ≢ j → set (set l i a) j b ≡ set (set l j b) i a
set-set_apart [] i j a b ne = refl
set-set_apart (x ∷ xs) zero zero a b ne = absurd (ne refl)
set-set_apart (x ∷ xs) zero (suc j) a b ne = refl
set-set_apart (x ∷ xs) (suc i) zero a b ne = refl
set-set_apart (x ∷ xs) (suc i) (suc j) a b ne = λ k. x ∷ set-set_apart xs i j a b (λ e. ne (ap suc e)) k

at_first_or_later : {A : Type 0} (x : A) (xs : List A) (a : A) (k : ℕ) → k < length (x ∷ xs) → get_or (x ∷ xs) k a ≡ a → (a ≡ x) ⊎ Contains xs a
at_first_or_later x xs a zero h e = inl (sym e)
at_first_or_later x xs a (suc k) h e = inr (k, omega arith, e)

-- a member is the first, or one of the rest
pub Contains-cons_cases : {A : Type 0} (x : A) (xs : List A) (a : A) → Contains (x ∷ xs) a → (a ≡ x) ⊎ Contains xs a
Contains-cons_cases x xs a c = at_first_or_later x xs a c.0 c.1 c.2

pub Contains-nil : {A : Type 0} (a : A) → Contains [] a → ⊥
Contains-nil a c = let h = c.1 in omega arith

-- the value in a list of slots that holds one, and else the one given
abbrev pub value_in : {X : Type 0} → X → List (ℕ × Option X) → X
value_in x [] = x
value_in x ((k, Some y) ∷ slots) = y
value_in x ((k, None) ∷ slots) = x

-- what the first of a list of slots holds, and else the one given
abbrev pub first_content : {X : Type 0} → Option X → List (ℕ × Option X) → Option X
first_content x [] = x
first_content x ((k, y) ∷ slots) = y
