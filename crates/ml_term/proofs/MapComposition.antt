-- One map after another: what it has for a variable, and that the grouping doesn't matter.
use Rattle.std.specs.Prelude.{◌≡◌, ℕ, true, false, Bool, ◌==◌, cond, List, [], ◌∷◌, ◌++◌}
use Rattle.std.proofs.Common.{refl, sym, ◌∙◌, append_assoc}
use Rattle.ml_term.specs.Tree.{Tree, variable, substitute}
use Rattle.ml_term.specs.Unify.{Equation, Map, value_of, apply}
use Rattle.ml_term.specs.Unifiers.{equations_under, terms_under, compose}
use Rattle.ml_term.proofs.Substitutions.{twice, alike, as_it_is}

tested : (b : Bool) (s : ℕ → Tree) (t u v : Tree) → u ≡ substitute s v → cond b (substitute s t) u ≡ substitute s (cond b t v)
tested true s t u v e = refl
tested false s t u v e = e

-- what a map and another after it have for a variable
pub value_of_followed : (m n : Map) (k : ℕ) → value_of (compose m n) k ≡ apply n (value_of m k)
value_of_followed [] n k = refl
value_of_followed (b ∷ m) n k = tested (b.0 == k) (value_of n) b.1 (value_of (compose m n) k) (value_of m k) (value_of_followed m n k)

pub applied_followed : (m n : Map) (t : Tree) → apply (compose m n) t ≡ apply n (apply m t)
applied_followed m n t = alike (value_of (compose m n)) (λ k. apply n (value_of m k)) t (λ k i. value_of_followed m n k)
    ∙ sym (twice (value_of n) (value_of m) t)

pub applied_empty : (t : Tree) → apply [] t ≡ t
applied_empty t = alike (value_of []) variable t (λ k i. refl) ∙ as_it_is t

pub followed_by_empty : (m : Map) → compose m [] ≡ m
followed_by_empty [] = refl
followed_by_empty (b ∷ m) = rw (applied_empty b.1, followed_by_empty m) refl

terms_followed : (m n o : Map) → terms_under (compose n o) m ≡ terms_under o (terms_under n m)
terms_followed [] n o = refl
terms_followed (b ∷ m) n o = rw (applied_followed n o b.1, terms_followed m n o) refl

followed_parts : (m n o : Map) → terms_under o (m ++ n) ≡ terms_under o m ++ terms_under o n
followed_parts [] n o = refl
followed_parts (b ∷ m) n o = rw (followed_parts m n o) refl

pub followed_grouped : (m n o : Map) → compose (compose m n) o ≡ compose m (compose n o)
followed_grouped m n o = rw (followed_parts (terms_under n m) n o, terms_followed m n o, append_assoc) refl

pub under_followed : (m n : Map) (es : List Equation) → equations_under (compose m n) es ≡ equations_under n (equations_under m es)
under_followed m n [] = refl
under_followed m n (e ∷ es) = rw (applied_followed m n e.0, applied_followed m n e.1, under_followed m n es) refl

pub under_append : (m : Map) (es fs : List Equation) → equations_under m (es ++ fs) ≡ equations_under m es ++ equations_under m fs
under_append m [] fs = refl
under_append m (e ∷ es) fs = rw (under_append m es fs) refl

pub under_empty : (es : List Equation) → equations_under [] es ≡ es
under_empty [] = refl
under_empty (e ∷ es) = rw (applied_empty e.0, applied_empty e.1, under_empty es) refl
