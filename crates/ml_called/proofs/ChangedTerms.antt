-- A term whose terms change is taken in as the changed body.
use Rattle.std.specs.Prelude.{◌≡◌, ℕ, Bool, true, false, cond, ◌&&◌, ◌||◌, List, [], ◌∷◌, map}
use Rattle.std.proofs.Common.{refl, ap, sym, ◌∙◌, codes}
use Rattle.std.proofs.lemmas.Bool.{and_parts}
use Rattle.std.specs.Str.{bytes_eq}
use Rattle.ml_term.specs.Tree.{Tree, variable, integer, atom, compound, no_trees, tree, compound_2, trees_of, list_of}
use Rattle.ml_search.specs.TypeTests.{is_variable}
use Rattle.ml_search.specs.Bodies.{Body, true_goal, fail_goal, cut, conjunction, disjunction, if_then, if_then_else, call, once, not_provable, findall, catch}
use Rattle.ml_search.specs.Bodies.{throw, predication, disjunction_of, body_from, body_from_2, joins_bodies, in_body, is_callable}
use Rattle.ml_called.specs.Goals.{change_terms, keeps_variables}

pub list_of_trees : (ts : List Tree) → list_of (trees_of ts) ≡ ts
list_of_trees [] = refl
list_of_trees (t ∷ ts) = ap (λ us. t ∷ us) (list_of_trees ts)

-- a variable as a body, and as a goal
variable_called : (u : Tree) → is_variable u ≡ true → body_from u ≡ call u
variable_called (variable n) v = refl
variable_called (integer z) v = absurd (cc v)
variable_called (atom f) v = absurd (cc v)
variable_called (compound f ts) v = absurd (cc v)

variable_callable : (u : Tree) → is_variable u ≡ true → is_callable u ≡ true
variable_callable (variable n) v = refl
variable_callable (integer z) v = absurd (cc v)
variable_callable (atom f) v = absurd (cc v)
variable_callable (compound f ts) v = absurd (cc v)

module _ (s : Tree → Tree) where
  -- choices between bodies
  atom_in : (b c d : Bool) (f : List ℕ)
      → cond b true_goal (cond c fail_goal (cond d cut (predication f []))) ≡ in_body s (cond b true_goal (cond c fail_goal (cond d cut (predication f []))))
  atom_in true c d f = refl
  atom_in false true d f = refl
  atom_in false false true f = refl
  atom_in false false false f = refl

  one_in : (b c d e : Bool) (f : List ℕ) (t : Tree)
      → cond b (call (s t)) (cond c (once (s t)) (cond d (not_provable (s t)) (cond e (throw (s t)) (predication f (s t ∷ [])))))
      ≡ in_body s (cond b (call t) (cond c (once t) (cond d (not_provable t) (cond e (throw t) (predication f (t ∷ []))))))
  one_in true c d e f t = refl
  one_in false true d e f t = refl
  one_in false false true e f t = refl
  one_in false false false true f t = refl
  one_in false false false false f t = refl

  three_in : (b c : Bool) (f : List ℕ) (t u v : Tree)
      → cond b (findall (s t) (s u) (s v)) (cond c (catch (s t) (s u) (s v)) (predication f (s t ∷ s u ∷ s v ∷ [])))
      ≡ in_body s (cond b (findall t u v) (cond c (catch t u v) (predication f (t ∷ u ∷ v ∷ []))))
  three_in true c f t u v = refl
  three_in false true f t u v = refl
  three_in false false f t u v = refl

  disjunction_in : (a b : Body) → disjunction_of (in_body s a) (in_body s b) ≡ in_body s (disjunction_of a b)
  disjunction_in true_goal e = refl
  disjunction_in fail_goal e = refl
  disjunction_in cut e = refl
  disjunction_in (conjunction a b) e = refl
  disjunction_in (disjunction a b) e = refl
  disjunction_in (if_then c t) e = refl
  disjunction_in (if_then_else c t x) e = refl
  disjunction_in (call t) e = refl
  disjunction_in (once t) e = refl
  disjunction_in (not_provable t) e = refl
  disjunction_in (findall t u v) e = refl
  disjunction_in (catch t u v) e = refl
  disjunction_in (throw t) e = refl
  disjunction_in (predication f ts) e = refl

  abbrev choice : Bool → Bool → Bool → Body → Body → Body → Body
  choice b c d x y z = cond b (conjunction x y) (cond c (disjunction_of x y) (cond d (if_then x y) z))

  joined_in : (b c d : Bool) → (b || c || d) ≡ true → (x y z w : Body) → choice b c d (in_body s x) (in_body s y) w ≡ in_body s (choice b c d x y z)
  joined_in true c d j x y z w = refl
  joined_in false true d j x y z w = disjunction_in x y
  joined_in false false true j x y z w = refl
  joined_in false false false j x y z w = absurd (cc j)

  not_joined : (b c d : Bool) → (b || c || d) ≡ false → (x y x' y' z : Body) → choice b c d x' y' (in_body s z) ≡ in_body s (choice b c d x y z)
  not_joined true c d j x y x' y' z = absurd (cc j)
  not_joined false true d j x y x' y' z = absurd (cc j)
  not_joined false false true j x y x' y' z = absurd (cc j)
  not_joined false false false j x y x' y' z = refl

  -- what a compound of two becomes
  changed_joined : (f : List ℕ) (t u : Tree) → joins_bodies f ≡ true → change_terms s (compound_2 f t u) ≡ compound_2 f (change_terms s t) (change_terms s u)
  changed_joined f t u j = ap (λ b. cond b (compound_2 f (change_terms s t) (change_terms s u)) (compound_2 f (s t) (s u))) j

  changed_goal : (f : List ℕ) (t u : Tree) → joins_bodies f ≡ false → change_terms s (compound_2 f t u) ≡ compound_2 f (s t) (s u)
  changed_goal f t u j = ap (λ b. cond b (compound_2 f (change_terms s t) (change_terms s u)) (compound_2 f (s t) (s u))) j

  kept_joined : (f : List ℕ) (t u : Tree) → joins_bodies f ≡ true → keeps_variables s (compound_2 f t u) ≡ true
      → (keeps_variables s t ≡ true) × (keeps_variables s u ≡ true)
  kept_joined f t u j k =
      and_parts (keeps_variables s t) (keeps_variables s u) (sym (ap (λ b. cond b (keeps_variables s t && keeps_variables s u) true) j) ∙ k)

  two_changed : (f : List ℕ) (t u : Tree) (b : Bool) → joins_bodies f ≡ b → keeps_variables s (compound_2 f t u) ≡ true
      → (keeps_variables s t ≡ true → body_from (change_terms s t) ≡ in_body s (body_from t))
      → (keeps_variables s u ≡ true → body_from (change_terms s u) ≡ in_body s (body_from u))
      → body_from (change_terms s (compound_2 f t u)) ≡ in_body s (body_from (compound_2 f t u))
  two_changed f t u true j k first second =
      let kept = kept_joined f t u j k in
      let goal = predication f (change_terms s t ∷ change_terms s u ∷ []) in
      ap body_from (changed_joined f t u j)
      ∙ (ap (λ x. body_from_2 f x (body_from (change_terms s u)) goal) (first kept.0)
      ∙ (ap (λ y. body_from_2 f (in_body s (body_from t)) y goal) (second kept.1)
      ∙ joined_in (bytes_eq f (codes ",")) (bytes_eq f (codes ";")) (bytes_eq f (codes "->")) j (body_from t) (body_from u) (predication f (t ∷ u ∷ [])) goal))
  two_changed f t u false j k first second =
      ap body_from (changed_goal f t u j)
      ∙ not_joined (bytes_eq f (codes ",")) (bytes_eq f (codes ";")) (bytes_eq f (codes "->")) j (body_from t) (body_from u) (body_from (s t))
      (body_from (s u)) (predication f (t ∷ u ∷ []))

  pub body_changed : (t : Tree) → keeps_variables s t ≡ true → body_from (change_terms s t) ≡ in_body s (body_from t)
  body_changed (variable n) k = variable_called (s (variable n)) k
  body_changed (integer z) k = refl
  body_changed (atom f) k = atom_in (bytes_eq f (codes "true")) (bytes_eq f (codes "fail")) (bytes_eq f (codes "!")) f
  body_changed (compound f no_trees) k = refl
  body_changed (compound f (tree t no_trees)) k =
      one_in (bytes_eq f (codes "call")) (bytes_eq f (codes "once")) (bytes_eq f (codes "\\+")) (bytes_eq f (codes "throw")) f t
  body_changed (compound f (tree t (tree u no_trees))) k =
      two_changed f t u (joins_bodies f) refl k (body_changed t) (body_changed u)
  body_changed (compound f (tree t (tree u (tree v no_trees)))) k = three_in (bytes_eq f (codes "findall")) (bytes_eq f (codes "catch")) f t u v
  body_changed (compound f (tree t (tree u (tree v (tree w ts))))) k = ap (λ us. predication f (s t ∷ s u ∷ s v ∷ s w ∷ us)) (list_of_trees (map s
      (list_of ts)))

  two_callable : (f : List ℕ) (t u : Tree) (b : Bool) → joins_bodies f ≡ b → keeps_variables s (compound_2 f t u) ≡ true
      → (keeps_variables s t ≡ true → is_callable (change_terms s t) ≡ is_callable t)
      → (keeps_variables s u ≡ true → is_callable (change_terms s u) ≡ is_callable u)
      → is_callable (change_terms s (compound_2 f t u)) ≡ is_callable (compound_2 f t u)
  two_callable f t u true j k first second =
      let kept = kept_joined f t u j k in
      ap is_callable (changed_joined f t u j)
      ∙ (ap (λ x. cond (joins_bodies f) (x && is_callable (change_terms s u)) true) (first kept.0)
      ∙ ap (λ y. cond (joins_bodies f) (is_callable t && y) true) (second kept.1))
  two_callable f t u false j k first second =
      ap is_callable (changed_goal f t u j)
      ∙ (ap (λ b. cond b (is_callable (s t) && is_callable (s u)) true) j ∙ sym (ap (λ b. cond b (is_callable t && is_callable u) true) j))

  pub callable_changed : (t : Tree) → keeps_variables s t ≡ true → is_callable (change_terms s t) ≡ is_callable t
  callable_changed (variable n) k = variable_callable (s (variable n)) k
  callable_changed (integer z) k = refl
  callable_changed (atom f) k = refl
  callable_changed (compound f no_trees) k = refl
  callable_changed (compound f (tree t no_trees)) k = refl
  callable_changed (compound f (tree t (tree u no_trees))) k = two_callable f t u (joins_bodies f) refl k (callable_changed t) (callable_changed u)
  callable_changed (compound f (tree t (tree u (tree v ts)))) k = refl
