-- Arguments of two compounds that are put on a stack, the last first.
use Rattle.std.specs.Prelude.{◌≡◌, ℕ, zero, suc, ◌+◌, ◌<◌, Bool, true, ◌&&◌, nat_le, slice_get, Some, List, [], ◌∷◌, ◌++◌, drop, length}
use Rattle.std.specs.List.{list_all, zip}
use Rattle.std.proofs.Common.{refl, sym, ap, ◌∙◌, arith, get_or}
use Rattle.std.proofs.lemmas.Bool.{and_parts, and_from}
use Rattle.ml_term.specs.Seen.{seen, all_seen}
use Rattle.ml_term.specs.Tree.{Tree, trees_of}
use Rattle.ml_term.specs.Valid.{is_valid, are_valid}
use Rattle.ml_term.specs.Unify.{Equation}
use Rattle.ml_term.specs.declared.term.Term.{Term}
use Rattle.ml_term.proofs.NumberedArguments.{argument_is_valid}
use Rattle.ml_search.specs.declared.unification.pair.Pair.{Pair}
use Rattle.ml_search.specs.declared.unification.pair.Arguments.{Arguments}
use Rattle.ml_search.specs.inside.Unifying.{are_sound_arguments, are_sound_pairs, equation_of, equations_of, is_sound, tree_of}
use Rattle.ml_search.proofs.Unifying.OneBindingMore.{last_first}

at_place : {A : Type 0} (xs : List A) (i j : ℕ) (x : A) → slice_get xs i ≡ Some x → j ≡ i + 1 → drop i xs ≡ x ∷ drop j xs
at_place [] i j x e next = absurd (cc e)
at_place (y ∷ xs) zero j x e next = let next' : j ≡ suc zero = next in rw next' (ap (λ z. z ∷ xs) (cc e))
at_place (y ∷ xs) (suc i) zero x e next = absurd (omega (arith, next))
at_place (y ∷ xs) (suc i) (suc j) x e next = at_place xs i j x e (omega (arith, next))

pub pushed : (ts us : List Tree) (i j : ℕ) (p : Pair) (ps ps' : List Pair) (es : List Equation) → ps' ≡ ps ++ p ∷ [] → j ≡ i + 1 →
    slice_get ts i ≡ Some (tree_of p.left) → slice_get us i ≡ Some (tree_of p.right)
    → equations_of ps ≡ zip (drop j ts) (drop j us) ++ es → equations_of ps' ≡ zip (drop i ts) (drop i us) ++ es
pushed ts us i j p ps ps' es more next left right others =
    ap equations_of more
    ∙ last_first [] ps p
    ∙ ap (λ xs. equation_of p ∷ xs) others
    ∙ ap (λ xs. zip xs (tree_of p.right ∷ drop j us) ++ es) (sym (at_place ts i j (tree_of p.left) left next))
    ∙ ap (λ xs. zip (drop i ts) xs ++ es) (sym (at_place us i j (tree_of p.right) right next))

all_more : {A : Type 0} (test : A → Bool) (xs : List A) (x : A) → list_all test xs ≡ true → test x ≡ true → list_all test (xs ++ x ∷ []) ≡ true
all_more test [] x h e = and_from _ _ e refl
all_more test (y ∷ xs) x h e = let parts = and_parts (test y) (list_all test xs) h in and_from _ _ parts.0 (all_more test xs x parts.1 e)

pub sound_more : (most : ℕ) (ps ps' : List Pair) (p : Pair) → ps' ≡ ps ++ p ∷ [] → are_sound_pairs most ps ≡ true →
    (is_sound most p.left && is_sound most p.right) ≡ true → are_sound_pairs most ps' ≡ true
sound_more most ps ps' p more h e = ap (are_sound_pairs most) more ∙ all_more (λ p. is_sound most p.left && is_sound most p.right) ps p h e

pub sound_argument : (most : ℕ) (ts : Arguments) (i : ℕ) (d : Term) → are_sound_arguments most ts ≡ true → i < length ts.terms.now →
    (nat_le ts.base most && is_valid (seen (get_or ts.terms.now i d))) ≡ true
sound_argument most ts i d h low =
    let parts = and_parts (nat_le ts.base most) (are_valid (trees_of (all_seen ts.terms.now))) h in
    and_from _ _ parts.0 (argument_is_valid seen i ts.terms.now d low parts.1)
