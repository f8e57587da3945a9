-- The variables of a body are those of the term that it was taken from.
use Rattle.std.specs.Prelude.{◌≡◌, ℕ, Bool, true, false, ◌||◌, cond, List, [], ◌++◌, codes}
use Rattle.std.specs.List.{list_any}
use Rattle.std.specs.Str.{bytes_eq}
use Rattle.std.proofs.Common.{refl, sym, ◌∙◌}
use Rattle.ml_term.specs.Tree.{Tree, Trees, variable, integer, atom, compound, no_trees, tree, list_of, variables, variables_of, has, occurs}
use Rattle.ml_term.proofs.DistinctCounts.{has_append}
use Rattle.ml_search.specs.Bodies.{Body, true_goal, fail_goal, cut, conjunction, disjunction, if_then, if_then_else, call, once, not_provable, findall, catch}
use Rattle.ml_search.specs.Bodies.{throw, predication, body_from, body_from_atom, disjunction_of}
use Rattle.ml_search.specs.Program.{clause_term}
use Rattle.ml_stack.specs.Variables.{occurs_in}

-- what holds of one side or of the other
either_way : {h : Type 0} → (a b : Bool) → (a || b) ≡ true → (a ≡ true → h) → (b ≡ true → h) → h
either_way true b e l r = l refl
either_way false b e l r = r e

or_left_of : (a b : Bool) → a ≡ true → (a || b) ≡ true
or_left_of true b e = refl
or_left_of false b e = absurd (cc)

or_right_of : (a b : Bool) → b ≡ true → (a || b) ≡ true
or_right_of true b e = refl
or_right_of false b e = e

has_front : (n : ℕ) (xs ys : List ℕ) → has n xs ≡ true → has n (xs ++ ys) ≡ true
has_front n xs ys e = has_append n xs ys ∙ or_left_of (has n xs) (has n ys) e

has_back : (n : ℕ) (xs ys : List ℕ) → has n ys ≡ true → has n (xs ++ ys) ≡ true
has_back n xs ys e = has_append n xs ys ∙ or_right_of (has n xs) (has n ys) e

-- a variable of a list of terms stands in the terms as arguments
any_of : (n : ℕ) (ts : Trees) → list_any (occurs n) (list_of ts) ≡ true → has n (variables_of ts) ≡ true
any_of n no_trees e = e
any_of n (tree t ts) e =
    either_way (occurs n t) (list_any (occurs n) (list_of ts)) e (λ l. has_front n (variables t) (variables_of ts) l) (λ r. has_back n (variables t)
    (variables_of ts) (any_of n ts r))

of_both : (h : Body → Type 0) (b : Bool) (x y : Body) → h x → h y → h (cond b x y)
of_both h true x y l r = l
of_both h false x y l r = r

-- a variable of an alternative is one of its parts
of_disjunction : (n : ℕ) (a b : Body) → occurs_in n (disjunction_of a b) ≡ true → (occurs_in n a || occurs_in n b) ≡ true
of_disjunction n (if_then c t) b e = three (occurs_in n c) (occurs_in n t) (occurs_in n b) e
  where
    three : (x y z : Bool) → (x || (y || z)) ≡ true → ((x || y) || z) ≡ true
    three true y z e = refl
    three false y z e = e
of_disjunction n true_goal b e = e
of_disjunction n fail_goal b e = e
of_disjunction n cut b e = e
of_disjunction n (conjunction x y) b e = e
of_disjunction n (disjunction x y) b e = e
of_disjunction n (if_then_else x y z) b e = e
of_disjunction n (call t) b e = e
of_disjunction n (once t) b e = e
of_disjunction n (not_provable t) b e = e
of_disjunction n (findall t u v) b e = e
of_disjunction n (catch t u v) b e = e
of_disjunction n (throw t) b e = e
of_disjunction n (predication f ts) b e = e

no_variable : (n : ℕ) (f : List ℕ) → occurs_in n (body_from_atom f) ≡ false
no_variable n f =
    let h : Body → Type 0 = λ b. occurs_in n b ≡ false in
    of_both h (bytes_eq f (codes "true")) _ _ refl (of_both h (bytes_eq f (codes "fail")) _ _ refl (of_both h (bytes_eq f (codes "!")) _ _ refl refl))

-- a variable of the body is one of the term
pub body_variable : (n : ℕ) (t : Tree) → occurs_in n (body_from t) ≡ true → has n (variables t) ≡ true
body_variable n (variable m) e = e
body_variable n (integer z) e = absurd (cc)
body_variable n (atom f) e = absurd (differ (sym (no_variable n f) ∙ e))
  where
    differ : false ≡ true → ⊥
    differ e = cc
body_variable n (compound f no_trees) e = e
body_variable n (compound f (tree t no_trees)) e =
    let goal : Type 0 = has n (variables_of (tree t no_trees)) ≡ true in
    let h : Body → Type 0 = λ b. occurs_in n b ≡ true → goal in
    let one : occurs n t ≡ true → goal = λ o. has_front n (variables t) [] o in
    of_both h (bytes_eq f (codes "call")) _ _ one
    (of_both h (bytes_eq f (codes "once")) _ _ one
    (of_both h (bytes_eq f (codes "\\+")) _ _ one
    (of_both h (bytes_eq f (codes "throw")) _ _ one (any_of n (tree t no_trees))))) e
body_variable n (compound f (tree t (tree u no_trees))) e =
    let goal : Type 0 = has n (variables_of (tree t (tree u no_trees))) ≡ true in
    let h : Body → Type 0 = λ b. occurs_in n b ≡ true → goal in
    let first : occurs_in n (body_from t) ≡ true → goal = λ o. has_front n (variables t) _ (body_variable n t o) in
    let other : occurs_in n (body_from u) ≡ true → goal = λ o. has_back n (variables t) _ (has_front n (variables u) [] (body_variable n u o)) in
    of_both h (bytes_eq f (codes ",")) _ _ (λ o. either_way (occurs_in n (body_from t)) (occurs_in n (body_from u)) o first other)
    (of_both h (bytes_eq f (codes ";")) _ _
    (λ o. either_way (occurs_in n (body_from t)) (occurs_in n (body_from u)) (of_disjunction n (body_from t) (body_from u) o) first other)
    (of_both h (bytes_eq f (codes "->")) _ _ (λ o. either_way (occurs_in n (body_from t)) (occurs_in n (body_from u)) o first other)
    (any_of n (tree t (tree u no_trees))))) e
body_variable n (compound f (tree t (tree u (tree v no_trees)))) e =
    let goal : Type 0 = has n (variables_of (tree t (tree u (tree v no_trees)))) ≡ true in
    let h : Body → Type 0 = λ b. occurs_in n b ≡ true → goal in
    let some : (occurs n t || (occurs n u || occurs n v)) ≡ true → goal =
    λ o. either_way (occurs n t) (occurs n u || occurs n v) o (λ a. has_front n (variables t) _ a)
    (λ r. has_back n (variables t) _ (either_way (occurs n u) (occurs n v) r (λ b. has_front n (variables u) _ b) (λ c. has_back n (variables u) _
    (has_front n (variables v) [] c)))) in
    of_both h (bytes_eq f (codes "findall")) _ _ some (of_both h (bytes_eq f (codes "catch")) _ _ some (any_of n (tree t (tree u (tree v no_trees))))) e
body_variable n (compound f (tree t (tree u (tree v (tree w ts))))) e = any_of n (tree t (tree u (tree v (tree w ts)))) e

-- and so it is one of the clause
pub clause_variable : (n : ℕ) (head body : Tree) → occurs_in n (body_from body) ≡ true → has n (variables (clause_term head body)) ≡ true
clause_variable n head body e = has_back n (variables head) _ (has_front n (variables body) [] (body_variable n body e))
