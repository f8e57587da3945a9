-- The terms in a body: after they change, and in a term that is taken as a body.
use Rattle.std.specs.Prelude.{◌≡◌, ℕ, Bool, true, false, cond, ◌||◌, List, [], ◌∷◌, ◌++◌, map}
use Rattle.std.proofs.Common.{refl, ap, sym, ◌∙◌, codes}
use Rattle.std.proofs.lemmas.List.{map-append}
use Rattle.std.specs.Str.{bytes_eq}
use Rattle.ml_term.specs.Tree.{Tree, variable, integer, atom, compound, no_trees, tree, compound_2}
use Rattle.ml_search.specs.Bodies.{Body, true_goal, fail_goal, cut, conjunction, disjunction, if_then, if_then_else, call, once, not_provable, findall, catch}
use Rattle.ml_search.specs.Bodies.{throw, predication, disjunction_of, body_from, joins_bodies, in_body}
use Rattle.ml_called.specs.Goals.{terms_in}
use Rattle.ml_called.specs.inside.Outlines.{parts}

module _ (s : Tree → Tree) where
  joined : (ts us ts' us' : List Tree) → ts' ≡ map s ts → us' ≡ map s us → ts' ++ us' ≡ map s (ts ++ us)
  joined ts us ts' us' d e = ap (λ x. x ++ us') d ∙ (ap (λ y. map s ts ++ y) e ∙ sym (map-append s ts us))

  pub terms_changed : (b : Body) → terms_in (in_body s b) ≡ map s (terms_in b)
  terms_changed true_goal = refl
  terms_changed fail_goal = refl
  terms_changed cut = refl
  terms_changed (conjunction a b) = joined (terms_in a) (terms_in b) _ _ (terms_changed a) (terms_changed b)
  terms_changed (disjunction a b) = joined (terms_in a) (terms_in b) _ _ (terms_changed a) (terms_changed b)
  terms_changed (if_then a b) = joined (terms_in a) (terms_in b) _ _ (terms_changed a) (terms_changed b)
  terms_changed (if_then_else a b c) =
      joined (terms_in a ++ terms_in b) (terms_in c) _ _ (joined (terms_in a) (terms_in b) _ _ (terms_changed a) (terms_changed b)) (terms_changed c)
  terms_changed (call t) = refl
  terms_changed (once t) = refl
  terms_changed (not_provable t) = refl
  terms_changed (findall t u v) = refl
  terms_changed (catch t u v) = refl
  terms_changed (throw t) = refl
  terms_changed (predication f ts) = refl

terms_of_atom : (b c d : Bool) (f : List ℕ) → terms_in (cond b true_goal (cond c fail_goal (cond d cut (predication f [])))) ≡ []
terms_of_atom true c d f = refl
terms_of_atom false true d f = refl
terms_of_atom false false true f = refl
terms_of_atom false false false f = refl

terms_of_one : (b c d e : Bool) (f : List ℕ) (t : Tree)
    → terms_in (cond b (call t) (cond c (once t) (cond d (not_provable t) (cond e (throw t) (predication f (t ∷ [])))))) ≡ t ∷ []
terms_of_one true c d e f t = refl
terms_of_one false true d e f t = refl
terms_of_one false false true e f t = refl
terms_of_one false false false true f t = refl
terms_of_one false false false false f t = refl

terms_of_three : (b c : Bool) (f : List ℕ) (t u v : Tree)
    → terms_in (cond b (findall t u v) (cond c (catch t u v) (predication f (t ∷ u ∷ v ∷ [])))) ≡ t ∷ u ∷ v ∷ []
terms_of_three true c f t u v = refl
terms_of_three false true f t u v = refl
terms_of_three false false f t u v = refl

terms_of_disjunction : (a b : Body) → terms_in (disjunction_of a b) ≡ terms_in a ++ terms_in b
terms_of_disjunction true_goal e = refl
terms_of_disjunction fail_goal e = refl
terms_of_disjunction cut e = refl
terms_of_disjunction (conjunction a b) e = refl
terms_of_disjunction (disjunction a b) e = refl
terms_of_disjunction (if_then c t) e = refl
terms_of_disjunction (if_then_else c t x) e = refl
terms_of_disjunction (call t) e = refl
terms_of_disjunction (once t) e = refl
terms_of_disjunction (not_provable t) e = refl
terms_of_disjunction (findall t u v) e = refl
terms_of_disjunction (catch t u v) e = refl
terms_of_disjunction (throw t) e = refl
terms_of_disjunction (predication f ts) e = refl

abbrev choice : Bool → Bool → Bool → Body → Body → Body → Body
choice b c d x y z = cond b (conjunction x y) (cond c (disjunction_of x y) (cond d (if_then x y) z))

terms_of_joined : (b c d : Bool) → (b || c || d) ≡ true → (x y z : Body) → terms_in (choice b c d x y z) ≡ terms_in x ++ terms_in y
terms_of_joined true c d j x y z = refl
terms_of_joined false true d j x y z = terms_of_disjunction x y
terms_of_joined false false true j x y z = refl
terms_of_joined false false false j x y z = absurd (cc j)

terms_of_goal : (b c d : Bool) → (b || c || d) ≡ false → (x y z : Body) → terms_in (choice b c d x y z) ≡ terms_in z
terms_of_goal true c d j x y z = absurd (cc j)
terms_of_goal false true d j x y z = absurd (cc j)
terms_of_goal false false true j x y z = absurd (cc j)
terms_of_goal false false false j x y z = refl

pub parts_joined : (f : List ℕ) (t u : Tree) → joins_bodies f ≡ true → parts (compound_2 f t u) ≡ parts t ++ parts u
parts_joined f t u j = ap (λ b. cond b (parts t ++ parts u) (t ∷ u ∷ [])) j

pub parts_goal : (f : List ℕ) (t u : Tree) → joins_bodies f ≡ false → parts (compound_2 f t u) ≡ t ∷ u ∷ []
parts_goal f t u j = ap (λ b. cond b (parts t ++ parts u) (t ∷ u ∷ [])) j

two_parts : (f : List ℕ) (t u : Tree) (b : Bool) → joins_bodies f ≡ b → terms_in (body_from t) ≡ parts t → terms_in (body_from u) ≡ parts u
    → terms_in (body_from (compound_2 f t u)) ≡ parts (compound_2 f t u)
two_parts f t u true j first second =
    terms_of_joined (bytes_eq f (codes ",")) (bytes_eq f (codes ";")) (bytes_eq f (codes "->")) j (body_from t) (body_from u) (predication f (t ∷ u ∷ []))
    ∙ (ap (λ x. x ++ terms_in (body_from u)) first ∙ (ap (λ y. parts t ++ y) second ∙ sym (parts_joined f t u j)))
two_parts f t u false j first second =
    terms_of_goal (bytes_eq f (codes ",")) (bytes_eq f (codes ";")) (bytes_eq f (codes "->")) j (body_from t) (body_from u) (predication f (t ∷ u ∷ []))
    ∙ sym (parts_goal f t u j)

-- the terms of a term that is taken as a body are those in the body
pub terms_are_parts : (t : Tree) → terms_in (body_from t) ≡ parts t
terms_are_parts (variable n) = refl
terms_are_parts (integer z) = refl
terms_are_parts (atom f) = terms_of_atom (bytes_eq f (codes "true")) (bytes_eq f (codes "fail")) (bytes_eq f (codes "!")) f
terms_are_parts (compound f no_trees) = refl
terms_are_parts (compound f (tree t no_trees)) =
    terms_of_one (bytes_eq f (codes "call")) (bytes_eq f (codes "once")) (bytes_eq f (codes "\\+")) (bytes_eq f (codes "throw")) f t
terms_are_parts (compound f (tree t (tree u no_trees))) = two_parts f t u (joins_bodies f) refl (terms_are_parts t) (terms_are_parts u)
terms_are_parts (compound f (tree t (tree u (tree v no_trees)))) = terms_of_three (bytes_eq f (codes "findall")) (bytes_eq f (codes "catch")) f t u v
terms_are_parts (compound f (tree t (tree u (tree v (tree w ts))))) = refl
