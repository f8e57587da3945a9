-- The first places of numbers in a list, and in a longer one.
use Rattle.std.specs.Prelude.{◌≡◌, ℕ, ◌+◌, cond, List, [], ◌∷◌, ◌++◌}
use Rattle.std.proofs.Common.{inl, inr, refl, sym, ap, ◌∙◌, subst, arith}
use Rattle.std.proofs.lemmas.Bool.Decides.{eqb_tells}
use Rattle.ml_term.specs.Tree.{has, firsts, without, place_in}
use Rattle.ml_term.specs.Text.{number_in}
use Rattle.ml_term.proofs.DistinctCounts.{In}
use Rattle.ml_term.proofs.RenamedTerms.{in_firsts}

-- a list without each of some numbers
abbrev without_all : List ℕ → List ℕ → List ℕ
without_all [] ys = ys
without_all (x ∷ xs) ys = without x (without_all xs ys)

without-append : (n : ℕ) (xs ys : List ℕ) → without n (xs ++ ys) ≡ without n xs ++ without n ys
without-append n [] ys = refl
without-append n (x ∷ xs) ys = grind (arith, eqb_tells x n, without-append n xs ys)

without_twice : (n : ℕ) (xs : List ℕ) → without n (without n xs) ≡ without n xs
without_twice n [] = refl
without_twice n (x ∷ xs) = grind (arith, eqb_tells x n, without_twice n xs)

without_swapped : (m n : ℕ) (xs : List ℕ) → without m (without n xs) ≡ without n (without m xs)
without_swapped m n [] = refl
without_swapped m n (x ∷ xs) = grind (arith, eqb_tells x n, eqb_tells x m, without_swapped m n xs)

-- the first places of a longer list begin with those of its beginning
firsts-append : (xs ys : List ℕ) → firsts (xs ++ ys) ≡ firsts xs ++ without_all xs (firsts ys)
firsts-append [] ys = refl
firsts-append (x ∷ xs) ys = ap (λ z. x ∷ without x z) (firsts-append xs ys) ∙ ap (λ z. x ∷ z) (without-append x (firsts xs) (without_all xs (firsts ys)))

pub place_in_front : (n : ℕ) (xs ys : List ℕ) → In n xs → place_in (xs ++ ys) n ≡ place_in xs n
place_in_front n [] ys h = absurd (cc h)
place_in_front n (x ∷ xs) ys h = elim (eqb_tells x n) [ inl q ↦ rw q.0 refl | inr q ↦ rw q.0 (ap (λ k. 1 + k) (place_in_front n xs ys (rw q.0 at h))) ]

-- a number that a list has keeps its place, however the list goes on
pub number_stays : (n : ℕ) (xs ys : List ℕ) → In n xs → number_in (firsts (xs ++ ys)) n ≡ number_in (firsts xs) n
number_stays n xs ys h =
    ap (λ z. 1 + place_in z n) (firsts-append xs ys) ∙ ap (λ k. 1 + k) (place_in_front n (firsts xs) (without_all xs (firsts ys)) (in_firsts n xs h))

firsts-without : (n : ℕ) (xs : List ℕ) → firsts (without n xs) ≡ without n (firsts xs)
firsts-without n [] = refl
firsts-without n (x ∷ xs) = elim (eqb_tells x n) [
  | inl q ↦ rw q.0 (subst (λ z. firsts (without n xs) ≡ without n (without z (firsts xs))) (sym q.1) (firsts-without n xs ∙ sym (without_twice n (firsts xs))))
  | inr q ↦ rw q.0 (ap (λ z. x ∷ z) (ap (without x) (firsts-without n xs) ∙ without_swapped x n (firsts xs)))
]

pub firsts_twice : (xs : List ℕ) → firsts (firsts xs) ≡ firsts xs
firsts_twice [] = refl
firsts_twice (x ∷ xs) =
    ap (λ z. x ∷ without x z) (firsts-without x (firsts xs) ∙ ap (without x) (firsts_twice xs)) ∙ ap (λ z. x ∷ z) (without_twice x (firsts xs))

without_all_without : (n : ℕ) (xs ys : List ℕ) → without n (without_all (without n xs) ys) ≡ without n (without_all xs ys)
without_all_without n [] ys = refl
without_all_without n (x ∷ xs) ys = elim (eqb_tells x n) [
  | inl q ↦ rw q.0 (subst (λ z. without n (without_all (without n xs) ys) ≡ without n (without z (without_all xs ys))) (sym q.1) (without_all_without n xs ys
      ∙ sym (without_twice n (without_all xs ys))))
  | inr q ↦ rw q.0 (without_swapped n x (without_all (without n xs) ys) ∙ (ap (without x) (without_all_without n xs ys)
      ∙ without_swapped x n (without_all xs ys)))
]

without_firsts : (xs ys : List ℕ) → without_all (firsts xs) ys ≡ without_all xs ys
without_firsts [] ys = refl
without_firsts (x ∷ xs) ys = without_all_without x (firsts xs) ys ∙ ap (without x) (without_firsts xs ys)

-- only first places count for what follows
pub firsts_before : (xs ys : List ℕ) → firsts (firsts xs ++ ys) ≡ firsts (xs ++ ys)
firsts_before xs ys =
    firsts-append (firsts xs) ys
    ∙ (ap (λ z. z ++ without_all (firsts xs) (firsts ys)) (firsts_twice xs) ∙ (ap (λ z. firsts xs ++ z) (without_firsts xs (firsts ys))
    ∙ sym (firsts-append xs ys)))

-- one number more
without_all_one : (n : ℕ) (xs : List ℕ) → without_all xs (n ∷ []) ≡ cond (has n xs) [] (n ∷ [])
without_all_one n [] = refl
without_all_one n (x ∷ xs) = ap (without x) (without_all_one n xs) ∙ grind (arith, eqb_tells x n, eqb_tells n x)

pub firsts_one_more : (n : ℕ) (xs : List ℕ) → firsts (xs ++ n ∷ []) ≡ firsts xs ++ cond (has n xs) [] (n ∷ [])
firsts_one_more n xs = firsts-append xs (n ∷ []) ∙ ap (λ z. firsts xs ++ z) (without_all_one n xs)
