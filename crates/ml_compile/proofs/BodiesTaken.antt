-- What body a term is, by the test whether it is `,`, `;` or `->` of two arguments.
use Rattle.std.proofs.Common.{◌≡◌, Bool, true, false, cond, List, ℕ, [], ◌∷◌, refl, ap, sym, ◌∙◌, codes}
use Rattle.std.specs.Str.{bytes_eq}
use Rattle.ml_term.specs.Tree.{Tree, variable, integer, atom, compound, compound_2, no_trees, tree, trees_of}
use Rattle.ml_search.specs.Bodies.{Body, true_goal, fail_goal, cut, conjunction, disjunction, if_then, if_then_else, call, once, not_provable, findall, catch, throw, predication, disjunction_of, body_from, body_from_atom}
use Rattle.ml_compile.proofs.TermParts.{list_of_trees}
use Rattle.ml_compile.specs.Spells.{called_body}
use Rattle.ml_compile.specs.inside.Appended.{is_pair}

pub conjunction_from : (t a b : Tree) → t ≡ compound_2 (codes ",") a b → body_from t ≡ conjunction (body_from a) (body_from b)
conjunction_from t a b e = ap body_from e

pub disjunction_from : (t a b : Tree) → t ≡ compound_2 (codes ";") a b → body_from t ≡ disjunction_of (body_from a) (body_from b)
disjunction_from t a b e = ap body_from e

pub if_then_from : (t a b : Tree) → t ≡ compound_2 (codes "->") a b → body_from t ≡ if_then (body_from a) (body_from b)
if_then_from t a b e = ap body_from e

-- a compound that is none of the three is called
pub called_from : (f : List ℕ) (ts : List Tree) → is_pair (codes ",") (compound f (trees_of ts)) ≡ false
    → is_pair (codes ";") (compound f (trees_of ts)) ≡ false → is_pair (codes "->") (compound f (trees_of ts)) ≡ false
    → body_from (compound f (trees_of ts)) ≡ called_body f ts
called_from f [] c d i = refl
called_from f (t ∷ []) c d i = refl
called_from f (t ∷ u ∷ []) c d i = rw (c, d, i) refl
called_from f (t ∷ u ∷ v ∷ []) c d i = refl
called_from f (t ∷ u ∷ v ∷ w ∷ ts) c d i = ap (λ us. predication f (t ∷ u ∷ v ∷ w ∷ us)) (list_of_trees ts)

-- the same of what is seen as that compound
pub called_so : (t : Tree) (f : List ℕ) (ts : List Tree) → t ≡ compound f (trees_of ts) → is_pair (codes ",") t ≡ false → is_pair (codes ";") t ≡ false
    → is_pair (codes "->") t ≡ false → body_from t ≡ called_body f ts
called_so t f ts is c d i =
    ap body_from is
    ∙ called_from f ts (ap (is_pair (codes ",")) (sym is) ∙ c) (ap (is_pair (codes ";")) (sym is) ∙ d) (ap (is_pair (codes "->")) (sym is) ∙ i)

-- an atom, by the tests whether it is `true`, `fail` or `!`
module _ (f : List ℕ) where
  pub atom_true : bytes_eq f (codes "true") ≡ true → body_from_atom f ≡ true_goal
  atom_true h = rw h refl

  pub atom_fail : bytes_eq f (codes "true") ≡ false → bytes_eq f (codes "fail") ≡ true → body_from_atom f ≡ fail_goal
  atom_fail h k = rw (h, k) refl

  pub atom_cut : bytes_eq f (codes "true") ≡ false → bytes_eq f (codes "fail") ≡ false → bytes_eq f (codes "!") ≡ true → body_from_atom f ≡ cut
  atom_cut h k l = rw (h, k, l) refl

  pub atom_called : bytes_eq f (codes "true") ≡ false → bytes_eq f (codes "fail") ≡ false → bytes_eq f (codes "!") ≡ false
      → body_from_atom f ≡ predication f []
  atom_called h k l = rw (h, k, l) refl

-- a test of names that are given otherwise
pub test_so : (f f' g g' : List ℕ) (r b : Bool) → f' ≡ f → g' ≡ g → r ≡ bytes_eq f' g' → r ≡ b → bytes_eq f g ≡ b
test_so f f' g g' r b e d t h = ap (λ k. bytes_eq k g) (sym e) ∙ ap (bytes_eq f') (sym d) ∙ sym t ∙ h

-- whether a body is a condition without an alternative
abbrev is_condition : Body → Bool
is_condition (if_then c t) = true
is_condition b = false

one_of_two : (b : Bool) (x y : Body) → is_condition x ≡ false → is_condition y ≡ false → is_condition (cond b x y) ≡ false
one_of_two true x y h k = h
one_of_two false x y h k = k

disjunction_is_none : (a b : Body) → is_condition (disjunction_of a b) ≡ false
disjunction_is_none (if_then c t) b = refl
disjunction_is_none true_goal b = refl
disjunction_is_none fail_goal b = refl
disjunction_is_none cut b = refl
disjunction_is_none (conjunction c d) b = refl
disjunction_is_none (disjunction c d) b = refl
disjunction_is_none (if_then_else c d e) b = refl
disjunction_is_none (call t) b = refl
disjunction_is_none (once t) b = refl
disjunction_is_none (not_provable t) b = refl
disjunction_is_none (findall t u v) b = refl
disjunction_is_none (catch t u v) b = refl
disjunction_is_none (throw t) b = refl
disjunction_is_none (predication f ts) b = refl

no_condition : (t : Tree) → is_pair (codes "->") t ≡ false → is_condition (body_from t) ≡ false
no_condition (variable n) h = refl
no_condition (integer z) h = refl
no_condition (atom f) h =
    one_of_two (bytes_eq f (codes "true")) true_goal _ refl
    (one_of_two (bytes_eq f (codes "fail")) fail_goal _ refl (one_of_two (bytes_eq f (codes "!")) cut (predication f []) refl refl))
no_condition (compound f no_trees) h = refl
no_condition (compound f (tree t no_trees)) h =
    one_of_two (bytes_eq f (codes "call")) (call t) _ refl
    (one_of_two (bytes_eq f (codes "once")) (once t) _ refl
    (one_of_two (bytes_eq f (codes "\\+")) (not_provable t) _ refl
    (one_of_two (bytes_eq f (codes "throw")) (throw t) (predication f (t ∷ [])) refl refl)))
no_condition (compound f (tree t (tree u no_trees))) h =
    rw h
    (one_of_two (bytes_eq f (codes ",")) (conjunction (body_from t) (body_from u)) _ refl
    (one_of_two (bytes_eq f (codes ";")) (disjunction_of (body_from t) (body_from u)) (predication f (t ∷ u ∷ []))
    (disjunction_is_none (body_from t) (body_from u)) refl))
no_condition (compound f (tree t (tree u (tree v no_trees)))) h =
    one_of_two (bytes_eq f (codes "findall")) (findall t u v) _ refl
    (one_of_two (bytes_eq f (codes "catch")) (catch t u v) (predication f (t ∷ u ∷ v ∷ [])) refl refl)
no_condition (compound f (tree t (tree u (tree v (tree w ts))))) h = refl

without_condition : (a b : Body) → is_condition a ≡ false → disjunction_of a b ≡ disjunction a b
without_condition (if_then c t) b h = absurd (cc h)
without_condition true_goal b h = refl
without_condition fail_goal b h = refl
without_condition cut b h = refl
without_condition (conjunction c d) b h = refl
without_condition (disjunction c d) b h = refl
without_condition (if_then_else c d e) b h = refl
without_condition (call t) b h = refl
without_condition (once t) b h = refl
without_condition (not_provable t) b h = refl
without_condition (findall t u v) b h = refl
without_condition (catch t u v) b h = refl
without_condition (throw t) b h = refl
without_condition (predication f ts) b h = refl

-- a disjunction whose left operand is no `->` of two arguments
pub plain_disjunction : (t : Tree) (b : Body) → is_pair (codes "->") t ≡ false → disjunction_of (body_from t) b ≡ disjunction (body_from t) b
plain_disjunction t b h = without_condition (body_from t) b (no_condition t h)
