-- Lines of bytes, one after another.
use Rattle.std.specs.Prelude.{◌≡◌, ℕ, ◌==◌, Bool, true, false, not, ◌&&◌, cond, List, [], ◌∷◌, ◌++◌}
use Rattle.std.proofs.Common.{refl, ap, ◌∙◌, arith}
use Rattle.ml_search.specs.Session.{line}
use Rattle.ml_search.specs.Printed.{onto_first, lines_of}
use Rattle.ml_search.specs.LawWords.{is_one_line}

pub first_holds : (a b : Bool) → (a && b) ≡ true → a ≡ true
first_holds true b h = refl
first_holds false b h = h

pub second_holds : (a b : Bool) → (a && b) ≡ true → b ≡ true
second_holds true b h = h
second_holds false b h = grind (arith, h)

is_no_feed : (b : Bool) → not b ≡ true → b ≡ false
is_no_feed true h = grind (arith, h)
is_no_feed false h = refl

-- a line is the first line, and what follows has the others
pub first_line : (t rest : List ℕ) → is_one_line t ≡ true → lines_of (line t ++ rest) ≡ t ∷ lines_of rest
first_line [] rest h = refl
first_line (b ∷ t) rest h =
    rw (is_no_feed (b == 10) (first_holds (not (b == 10)) (is_one_line t) h))
    (ap (onto_first b) (first_line t rest (second_holds (not (b == 10)) (is_one_line t) h)))

-- the lines of a beginning are a beginning of the lines
pub lines_of_beginning : (xs ys : List ℕ) → (zs : List (List ℕ)) × (lines_of (xs ++ ys) ≡ lines_of xs ++ zs)
lines_of_beginning [] ys = (lines_of ys, refl)
lines_of_beginning (b ∷ xs) ys = by (b == 10) (lines_of xs) (lines_of_beginning xs ys)
  where
    onto : (ls : List (List ℕ)) (zs : List (List ℕ)) → (us : List (List ℕ)) × (onto_first b (ls ++ zs) ≡ onto_first b ls ++ us)
    onto [] zs = (onto_first b zs, refl)
    onto (l ∷ ls) zs = (zs, refl)

    by : (c : Bool) (ls : List (List ℕ)) → (zs : List (List ℕ)) × (lines_of (xs ++ ys) ≡ ls ++ zs)
        → (us : List (List ℕ)) × (cond c ([] ∷ lines_of (xs ++ ys)) (onto_first b (lines_of (xs ++ ys))) ≡ cond c ([] ∷ ls) (onto_first b ls) ++ us)
    by true ls (zs, e) = (zs, ap (λ ms. [] ∷ ms) e)
    by false ls (zs, e) = let u = onto ls zs in (u.0, ap (onto_first b) e ∙ u.1)
