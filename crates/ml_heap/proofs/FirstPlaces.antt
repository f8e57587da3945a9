-- The numbers of a list by their first places, when the list grows at its end.
use Rattle.std.specs.Prelude.{◌≡◌, ◌≢◌, ℕ, ◌+◌, true, false, Bool, ◌||◌, ◌==◌, cond, List, [], ◌∷◌, ◌++◌, length}
use Rattle.std.proofs.Common.{inl, inr, refl, sym, ap, ◌∙◌, arith, length-append}
use Rattle.std.proofs.lemmas.Bool.Decides.{eqb_tells}
use Rattle.ml_term.specs.Tree.{has, firsts, without, place_in}
use Rattle.ml_term.proofs.DistinctCounts.{In, has_append}
use Rattle.ml_term.proofs.RenamedTerms.{in_firsts}

without_append : (n : ℕ) (xs ys : List ℕ) → without n (xs ++ ys) ≡ without n xs ++ without n ys
without_append n [] ys = refl
without_append n (x ∷ xs) ys = either (x == n) (without_append n xs ys)
  where
    either : (b : Bool) → without n (xs ++ ys) ≡ without n xs ++ without n ys
        → cond b (without n (xs ++ ys)) (x ∷ without n (xs ++ ys)) ≡ cond b (without n xs) (x ∷ without n xs) ++ without n ys
    either true e = e
    either false e = ap (λ zs. x ∷ zs) e

-- what is added goes last
pub added : (xs ys : List ℕ) → (zs : List ℕ) × (firsts (xs ++ ys) ≡ firsts xs ++ zs)
added [] ys = (firsts ys, refl)
added (x ∷ xs) ys =
    let a = added xs ys in
    (without x a.0, ap (λ zs. x ∷ zs) (ap (without x) a.1 ∙ without_append x (firsts xs) a.0))

place_before : (xs zs : List ℕ) (n : ℕ) → In n xs → place_in (xs ++ zs) n ≡ place_in xs n
place_before [] zs n i = absurd (cc i)
place_before (x ∷ xs) zs n i = elim (eqb_tells x n) [
  | inl q ↦ rw q.0 refl
  | inr q ↦ rw q.0 (ap (λ k. 1 + k) (place_before xs zs n (rw q.0 at i)))
]

pub place_stays : (xs ys : List ℕ) (n : ℕ) → In n xs → place_in (firsts (xs ++ ys)) n ≡ place_in (firsts xs) n
place_stays xs ys n i = let a = added xs ys in ap (λ zs. place_in zs n) a.1 ∙ place_before (firsts xs) a.0 n (in_firsts n xs i)

pub in_one : (n k : ℕ) → In k (n ∷ []) → n ≡ k
in_one n k i = grind (arith, eqb_tells n k)

-- a number that is new
pub new_last : (xs : List ℕ) (n : ℕ) → has n xs ≡ false → firsts (xs ++ n ∷ []) ≡ firsts xs ++ n ∷ []
new_last [] n h = refl
new_last (x ∷ xs) n h = elim (eqb_tells x n) [
  | inl q ↦ absurd (cc (rw q.0 at h))
  | inr q ↦
      ap (λ zs. x ∷ zs) (ap (without x) (new_last xs n (rw q.0 at h))
      ∙ (without_append x (firsts xs) (n ∷ []) ∙ ap (λ zs. without x (firsts xs) ++ zs) (kept q.1)))
]
  where
    kept : (x ≢ n) → without x (n ∷ []) ≡ n ∷ []
    kept d = elim (eqb_tells n x) [ inl p ↦ absurd (d (sym p.1)) | inr p ↦ rw p.0 refl ]

pub as_many_and_one : (xs : List ℕ) (n : ℕ) → length (xs ++ n ∷ []) ≡ length xs + 1
as_many_and_one xs n = length-append xs (n ∷ [])

place_at_end : (xs : List ℕ) (n : ℕ) → has n xs ≡ false → place_in (xs ++ n ∷ []) n ≡ length xs
place_at_end [] n h = elim (eqb_tells n n) [ inl q ↦ rw q.0 refl | inr q ↦ absurd (q.1 refl) ]
place_at_end (x ∷ xs) n h = elim (eqb_tells x n) [
  | inl q ↦ absurd (cc (rw q.0 at h))
  | inr q ↦ rw q.0 (omega (arith, place_at_end xs n (rw q.0 at h)))
]

not_in_firsts : (n : ℕ) (xs : List ℕ) → has n xs ≡ false → has n (firsts xs) ≡ false
not_in_firsts n xs h = none (has n (firsts xs)) refl
  where
    left_out : (k m : ℕ) (ms : List ℕ) → In k (without m ms) → In k ms
    left_out k m [] i = i
    left_out k m (x ∷ ms) i = grind (arith, eqb_tells x m, eqb_tells x k, left_out k m ms)

    in_list : (k : ℕ) (ms : List ℕ) → In k (firsts ms) → In k ms
    in_list k [] i = i
    in_list k (m ∷ ms) i = elim (eqb_tells m k) [ inl q ↦ rw q.0 refl | inr q ↦ rw q.0 (in_list k ms (left_out k m (firsts ms) (rw q.0 at i))) ]

    none : (b : Bool) → has n (firsts xs) ≡ b → b ≡ false
    none true e = absurd (cc (in_list n xs e, h))
    none false e = refl

pub new_place : (xs : List ℕ) (n : ℕ) → has n xs ≡ false → place_in (firsts (xs ++ n ∷ [])) n ≡ length (firsts xs)
new_place xs n h = ap (λ zs. place_in zs n) (new_last xs n h) ∙ place_at_end (firsts xs) n (not_in_firsts n xs h)

-- a number that was there
pub known_adds_none : (xs : List ℕ) (n : ℕ) → has n xs ≡ true → firsts (xs ++ n ∷ []) ≡ firsts xs
known_adds_none [] n h = absurd (cc h)
known_adds_none (x ∷ xs) n h = elim (eqb_tells x n) [
  | inl q ↦ ap (λ zs. x ∷ zs) (first q.1 (λ i. known_adds_none xs n i) (has n xs) refl)
  | inr q ↦ ap (λ zs. x ∷ without x zs) (known_adds_none xs n (rw q.0 at h))
]
  where
    first : x ≡ n → (has n xs ≡ true → firsts (xs ++ n ∷ []) ≡ firsts xs) → (b : Bool) → has n xs ≡ b →
        without x (firsts (xs ++ n ∷ [])) ≡ without x (firsts xs)
    first p k true e = ap (without x) (k e)
    first p k false e = ap (without x) (new_last xs n e)
        ∙ (without_append x (firsts xs) (n ∷ []) ∙ (ap (λ zs. without x (firsts xs) ++ zs) gone ∙ no_more (without x (firsts xs))))
      where
        gone : without x (n ∷ []) ≡ []
        gone = elim (eqb_tells n x) [ inl q ↦ rw q.0 refl | inr q ↦ absurd (q.1 (sym p)) ]

        no_more : (zs : List ℕ) → zs ++ [] ≡ zs
        no_more [] = refl
        no_more (z ∷ zs) = ap (λ ws. z ∷ ws) (no_more zs)
