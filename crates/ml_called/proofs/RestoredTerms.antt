-- A term's outline, with the terms put back for its variables, is the term.
use Rattle.std.specs.Prelude.{◌≡◌, ℕ, ◌+◌, Bool, true, false, cond, ◌&&◌, List, [], ◌∷◌, ◌++◌, length, map}
use Rattle.std.proofs.Common.{refl, ap, sym, ◌∙◌, subst, arith}
use Rattle.ml_term.specs.Tree.{Tree, Trees, variable, integer, atom, compound, no_trees, tree, compound_2, trees_of, list_of, substitute}
use Rattle.ml_search.specs.TypeTests.{is_variable}
use Rattle.ml_search.specs.Bodies.{body_from, in_body, joins_bodies}
use Rattle.ml_called.specs.Called.{numbered}
use Rattle.ml_called.specs.Goals.{change_terms, keeps_variables, terms_in}
use Rattle.ml_called.specs.inside.Outlines.{parts, outline}
use Rattle.ml_called.proofs.ChangedTerms.{list_of_trees, body_changed}
use Rattle.ml_called.proofs.TermsOfBodies.{parts_joined, parts_goal, terms_are_parts}

trees_again : (ts : Trees) → trees_of (list_of ts) ≡ ts
trees_again no_trees = refl
trees_again (tree t ts) = ap (tree t) (trees_again ts)

-- variables from a number on stand for some terms
abbrev pub Fits : (ℕ → Tree) → ℕ → List Tree → Type 0
Fits s n [] = Unit {0}
Fits s n (t ∷ ts) = (s n ≡ t) × Fits s (n + 1) ts

pub numbered_more : {A : Type 0} (n : ℕ) (ts us : List A) → numbered n (ts ++ us) ≡ numbered n ts ++ numbered (n + length ts) us
numbered_more n [] us = let e : n ≡ n + 0 = omega arith in ap (λ k. numbered k us) e
numbered_more n (t ∷ ts) us =
    let e : n + 1 + length ts ≡ n + length (t ∷ ts) = omega arith in
    ap (λ x. variable n ∷ x) (numbered_more (n + 1) ts us ∙ ap (λ k. numbered (n + 1) ts ++ numbered k us) e)

pub numbered_alike : {A B : Type 0} (f : A → B) (n : ℕ) (xs : List A) → numbered n (map f xs) ≡ numbered n xs
numbered_alike f n [] = refl
numbered_alike f n (x ∷ xs) = ap (λ ts. variable n ∷ ts) (numbered_alike f (n + 1) xs)

pub outline_joined : (n : ℕ) (f : List ℕ) (t u : Tree) → joins_bodies f ≡ true
    → outline n (compound_2 f t u) ≡ compound_2 f (outline n t) (outline (n + length (parts t)) u)
outline_joined n f t u j = ap (λ b. cond b (compound_2 f (outline n t) (outline (n + length (parts t)) u)) (compound_2 f (variable n) (variable (n + 1)))) j

outline_goal : (n : ℕ) (f : List ℕ) (t u : Tree) → joins_bodies f ≡ false → outline n (compound_2 f t u) ≡ compound_2 f (variable n) (variable (n + 1))
outline_goal n f t u j = ap (λ b. cond b (compound_2 f (outline n t) (outline (n + length (parts t)) u)) (compound_2 f (variable n) (variable (n + 1)))) j

two_outlined : (n : ℕ) (f : List ℕ) (t u : Tree) (b : Bool) → joins_bodies f ≡ b → parts (outline n t) ≡ numbered n (parts t)
    → parts (outline (n + length (parts t)) u) ≡ numbered (n + length (parts t)) (parts u)
    → parts (outline n (compound_2 f t u)) ≡ numbered n (parts (compound_2 f t u))
two_outlined n f t u true j first second =
    ap parts (outline_joined n f t u j)
    ∙ (parts_joined f (outline n t) (outline (n + length (parts t)) u) j
    ∙ (ap (λ x. x ++ parts (outline (n + length (parts t)) u)) first
    ∙ (ap (λ y. numbered n (parts t) ++ y) second
    ∙ (sym (numbered_more n (parts t) (parts u)) ∙ sym (ap (numbered n) (parts_joined f t u j))))))
two_outlined n f t u false j first second =
    ap parts (outline_goal n f t u j) ∙ (parts_goal f (variable n) (variable (n + 1)) j ∙ sym (ap (numbered n) (parts_goal f t u j)))

-- the terms of an outline are the variables
pub parts_of_outline : (n : ℕ) (t : Tree) → parts (outline n t) ≡ numbered n (parts t)
parts_of_outline n (variable k) = refl
parts_of_outline n (integer z) = refl
parts_of_outline n (atom f) = refl
parts_of_outline n (compound f no_trees) = refl
parts_of_outline n (compound f (tree t no_trees)) = refl
parts_of_outline n (compound f (tree t (tree u no_trees))) =
    two_outlined n f t u (joins_bodies f) refl (parts_of_outline n t) (parts_of_outline (n + length (parts t)) u)
parts_of_outline n (compound f (tree t (tree u (tree v ts)))) =
    ap (λ us. variable n ∷ variable (n + 1) ∷ variable (n + 1 + 1) ∷ us) (list_of_trees (numbered (n + 1 + 1 + 1) (list_of ts)))

pub terms_numbered : (t : Tree) → terms_in (body_from (outline 0 t)) ≡ numbered 0 (parts t)
terms_numbered t = terms_are_parts (outline 0 t) ∙ parts_of_outline 0 t

module _ (s : ℕ → Tree) where
  fits_front : (n : ℕ) (ts us : List Tree) → Fits s n (ts ++ us) → Fits s n ts
  fits_front n [] us h = tt
  fits_front n (t ∷ ts) us h = (h.0, fits_front (n + 1) ts us h.1)

  fits_back : (n : ℕ) (ts us : List Tree) → Fits s n (ts ++ us) → Fits s (n + length ts) us
  fits_back n [] us h = let e : n ≡ n + 0 = omega arith in subst (λ (k : ℕ). Fits s k us) e h
  fits_back n (t ∷ ts) us h =
      let e : n + 1 + length ts ≡ n + length (t ∷ ts) = omega arith in
      subst (λ (k : ℕ). Fits s k us) e (fits_back (n + 1) ts us h.1)

  all_restored : (n : ℕ) (ts : List Tree) → Fits s n ts → map (substitute s) (numbered n ts) ≡ ts
  all_restored n [] h = refl
  all_restored n (t ∷ ts) h = ap (λ x. x ∷ map (substitute s) (numbered (n + 1) ts)) h.0 ∙ ap (λ us. t ∷ us) (all_restored (n + 1) ts h.1)

  is_restored : (n : ℕ) (f : List ℕ) (ts : Trees) → Fits s n (list_of ts)
      → compound f (trees_of (map (substitute s) (list_of (trees_of (numbered n (list_of ts)))))) ≡ compound f ts
  is_restored n f ts h =
      ap (λ us. compound f (trees_of (map (substitute s) us))) (list_of_trees (numbered n (list_of ts)))
      ∙ (ap (λ us. compound f (trees_of us)) (all_restored n (list_of ts) h) ∙ ap (compound f) (trees_again ts))

  abbrev Restored : ℕ → Tree → Type 0
  Restored n t = (change_terms (substitute s) (outline n t) ≡ t) × (keeps_variables (substitute s) (outline n t) ≡ true)

  two_fit : (n : ℕ) (f : List ℕ) (t u : Tree) → joins_bodies f ≡ true → Fits s n (parts (compound_2 f t u)) →
      Fits s n (parts t) × Fits s (n + length (parts t)) (parts u)
  two_fit n f t u j h =
      let both : Fits s n (parts t ++ parts u) = subst (λ (us : List Tree). Fits s n us) (parts_joined f t u j) h in
      (fits_front n (parts t) (parts u) both, fits_back n (parts t) (parts u) both)

  change_joined : (f : List ℕ) (t u : Tree) → joins_bodies f ≡ true
      → change_terms (substitute s) (compound_2 f t u) ≡ compound_2 f (change_terms (substitute s) t) (change_terms (substitute s) u)
  change_joined f t u j =
      ap (λ b. cond b (compound_2 f (change_terms (substitute s) t) (change_terms (substitute s) u)) (compound_2 f (substitute s t) (substitute s u))) j

  change_goal : (f : List ℕ) (t u : Tree) → joins_bodies f ≡ false
      → change_terms (substitute s) (compound_2 f t u) ≡ compound_2 f (substitute s t) (substitute s u)
  change_goal f t u j =
      ap (λ b. cond b (compound_2 f (change_terms (substitute s) t) (change_terms (substitute s) u)) (compound_2 f (substitute s t) (substitute s u))) j

  keeps_two : (f : List ℕ) (t u : Tree) → keeps_variables (substitute s) t ≡ true → keeps_variables (substitute s) u ≡ true
      → keeps_variables (substitute s) (compound_2 f t u) ≡ true
  keeps_two f t u d e = either (joins_bodies f) (keeps_variables (substitute s) t) (keeps_variables (substitute s) u) d e
    where
      either : (b x y : Bool) → x ≡ true → y ≡ true → cond b (x && y) true ≡ true
      either false x y d e = refl
      either true true y d e = e
      either true false y d e = d

  keeps_goal : (f : List ℕ) (t u : Tree) → joins_bodies f ≡ false → keeps_variables (substitute s) (compound_2 f t u) ≡ true
  keeps_goal f t u j = ap (λ b. cond b (keeps_variables (substitute s) t && keeps_variables (substitute s) u) true) j

  two_restored : (n : ℕ) (f : List ℕ) (t u : Tree) (b : Bool) → joins_bodies f ≡ b → Fits s n (parts (compound_2 f t u))
      → (Fits s n (parts t) → Restored n t) → (Fits s (n + length (parts t)) (parts u) → Restored (n + length (parts t)) u)
      → Restored n (compound_2 f t u)
  two_restored n f t u true j h first second =
      let fit = two_fit n f t u j h in
      let m = n + length (parts t) in
      let a = first fit.0 in
      let b = second fit.1 in
      let e = outline_joined n f t u j in (
        ap (change_terms (substitute s)) e
            ∙ (change_joined f (outline n t) (outline m u) j
            ∙ (ap (λ x. compound_2 f x (change_terms (substitute s) (outline m u))) a.0 ∙ ap (λ y. compound_2 f t y) b.0)),
        ap (keeps_variables (substitute s)) e ∙ keeps_two f (outline n t) (outline m u) a.1 b.1,
      )
  two_restored n f t u false j h first second =
      let e = outline_goal n f t u j in
      let fit : Fits s n (t ∷ u ∷ []) = subst (λ (us : List Tree). Fits s n us) (parts_goal f t u j) h in (
        ap (change_terms (substitute s)) e
            ∙ (change_goal f (variable n) (variable (n + 1)) j
            ∙ (ap (λ x. compound_2 f x (s (n + 1))) fit.0 ∙ ap (λ y. compound_2 f t y) fit.1.0)),
        ap (keeps_variables (substitute s)) e ∙ keeps_goal f (variable n) (variable (n + 1)) j,
      )

  pub restored : (n : ℕ) (t : Tree) → Fits s n (parts t) → Restored n t
  restored n (variable k) h = (h.0, ap is_variable h.0)
  restored n (integer z) h = (refl, refl)
  restored n (atom f) h = (refl, refl)
  restored n (compound f no_trees) h = (refl, refl)
  restored n (compound f (tree t no_trees)) h = (is_restored n f (tree t no_trees) h, refl)
  restored n (compound f (tree t (tree u no_trees))) h =
      two_restored n f t u (joins_bodies f) refl h (restored n t) (restored (n + length (parts t)) u)
  restored n (compound f (tree t (tree u (tree v ts)))) h = (is_restored n f (tree t (tree u (tree v ts))) h, refl)

  -- the body of the outline, with the terms for its variables, is the body of the term
  pub body_restored : (t : Tree) → Fits s 0 (parts t) → body_from t ≡ in_body (substitute s) (body_from (outline 0 t))
  body_restored t h =
      let r = restored 0 t h in
      sym (ap body_from r.0) ∙ body_changed (substitute s) (outline 0 t) r.1
