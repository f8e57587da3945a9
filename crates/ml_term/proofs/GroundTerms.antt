-- Ground terms: no substitution changes them, and what unification with one gives.
use Rattle.std.specs.Prelude.{◌≡◌, ◌≢◌, ℕ, ◌+◌, true, false, Bool, ◌&&◌, ◌==◌, not, ◌↔◌, List, [], ◌∷◌, ◌++◌, map, length, Some, None, IsSome}
use Rattle.std.specs.List.{zip}
use Rattle.std.proofs.Common.{inl, inr, refl, sym, ap, ◌∙◌, subst, arith}
use Rattle.std.proofs.lemmas.Bool.Decides.{eqb_tells}
use Rattle.std.proofs.lemmas.Bool.{eq-eqb}
use Rattle.std.proofs.lemmas.Slice.Eq.{bytes_eq-Decides}
use Rattle.ml_term.specs.Tree.{Tree, Trees, variable, integer, atom, compound, compound_2, no_trees, tree, list_of, trees_of, arity, has, variables}
use Rattle.ml_term.specs.Tree.{variables_of, occurs, is_ground, substitute, substitute_in, rename, firsts, place_in}
use Rattle.ml_term.specs.Unify.{Equation, Map, step, decompose, eliminate, value_of, apply, binding, solve_equations, mgu, unifier}
use Rattle.ml_term.specs.Keys.{are_different}
use Rattle.ml_term.specs.Unifiers.{equations_under, compose, compose_result, solve_by_step, replaced_variables}
use Rattle.ml_term.specs.Instances.{StandsIn, StandsAmong, all_ground}
use Rattle.ml_term.proofs.DistinctCounts.{In, in_head}
use Rattle.ml_term.proofs.UnificationEnds.{in_either}
use Rattle.ml_term.proofs.Substitutions.{alike, alike_inside, as_it_is, goes}
use Rattle.ml_term.proofs.EqualEquations.{same}
use Rattle.ml_term.proofs.MostGeneralUnifiers.{not_in_false}
use Rattle.ml_term.proofs.UnificationRules.{solved_step, solved_none_left, solved_from}
use Rattle.ml_term.proofs.UnifierIsOne.{is_most_general, unified_exactly, not_replaced, some_or_none}
use Rattle.ml_term.proofs.KeyColumns.{and_first, and_second}

no_member : (ns : List ℕ) → (length ns == 0) ≡ true → (k : ℕ) → In k ns → ⊥
no_member [] h k i = cc i
no_member (n ∷ ns) h k i = elim (eqb_tells (length (n ∷ ns)) 0) [ inl q ↦ absurd (omega (arith, q.1)) | inr q ↦ cc (q.0, h) ]

pub no_variable : (t : Tree) → is_ground t ≡ true → (k : ℕ) → In k (variables t) → ⊥
no_variable t = no_member (variables t)

empty_list : (ns : List ℕ) → ((k : ℕ) → In k ns → ⊥) → (length ns == 0) ≡ true
empty_list [] h = refl
empty_list (n ∷ ns) h = absurd (h n (in_head n ns))

pub ground_without : (t : Tree) → ((k : ℕ) → In k (variables t) → ⊥) → is_ground t ≡ true
ground_without t = empty_list (variables t)

pub ground_stays : (s : ℕ → Tree) (t : Tree) → is_ground t ≡ true → substitute s t ≡ t
ground_stays s t g = alike s variable t (λ k i. absurd (no_variable t g k i)) ∙ as_it_is t

pub ground_renamed : (next : ℕ) (t : Tree) → is_ground t ≡ true → rename next t ≡ t
ground_renamed next t g = ground_stays (λ n. variable (next + place_in (firsts (variables t)) n)) t g

-- a term with a ground one
module _ (t u : Tree) (g : is_ground u ≡ true) where
  pub matched_exactly : IsSome (unifier t u) ↔ ((s : ℕ → Tree) × (substitute s t ≡ u))
  matched_exactly = (
    (λ h. let s = (unified_exactly ((t, u) ∷ [])).0 h in (s.0, s.1.0 ∙ ground_stays s.0 u g)),
    (λ h. (unified_exactly ((t, u) ∷ [])).1 (h.0, (h.1 ∙ sym (ground_stays h.0 u g), tt))),
  )

  module _ (m : Map) (e : unifier t u ≡ Some m) where
    pub gives_the_tuple : apply m t ≡ u
    gives_the_tuple = (is_most_general ((t, u) ∷ []) m e).unifies.0 ∙ ground_stays (value_of m) u g

    pub gives_ground : (n : ℕ) → In n (variables t) → is_ground (value_of m n) ≡ true
    gives_ground n i = ground_without (value_of m n) (λ k j. no_variable u g k (subst (λ z. In k (variables z)) gives_the_tuple (goes (value_of m) t n k i j)))

    pub gives_one : (s : ℕ → Tree) → substitute s t ≡ u → (n : ℕ) → In n (variables t) → s n ≡ value_of m n
    gives_one s q = alike_inside s (value_of m) t (q ∙ sym gives_the_tuple)

    pub leaves_others : (n : ℕ) → has n (variables t) ≡ false → value_of m n ≡ variable n
    leaves_others n h = not_replaced m n (not_in_false n (replaced_variables m) (has n (replaced_variables m)) refl (λ i.
        elim (in_either n (variables t ++ variables u) [] ((is_most_general ((t, u) ∷ []) m e).of_them n i)) [
          | inl j ↦ elim (in_either n (variables t) (variables u) j) [ inl k ↦ cc (h, k) | inr k ↦ no_variable u g n k ]
          | inr j ↦ cc j
        ]))

-- what a substitution puts in stands in the whole
stands_itself : (t : Tree) → StandsIn t t
stands_itself (variable n) = refl
stands_itself (integer z) = refl
stands_itself (atom f) = refl
stands_itself (compound f ts) = inl refl

mutual
  pub stands_inside : (s : ℕ → Tree) (n : ℕ) (t : Tree) → In n (variables t) → StandsIn (s n) (substitute s t)
  stands_inside s n (variable m) h = elim (eqb_tells m n)
      [ inl q ↦ subst (λ z. StandsIn (s z) (s m)) q.1 (stands_itself (s m)) | inr q ↦ absurd (grind (arith, q, h)) ]
  stands_inside s n (integer z) h = absurd (cc h)
  stands_inside s n (atom f) h = absurd (cc h)
  stands_inside s n (compound f ts) h = inr (stands_among s n ts h)

  pub stands_among : (s : ℕ → Tree) (n : ℕ) (ts : Trees) → In n (variables_of ts) → StandsAmong (s n) (substitute_in s ts)
  stands_among s n no_trees h = absurd (cc h)
  stands_among s n (tree t ts) h = elim (in_either n (variables t) (variables_of ts) h)
      [ inl i ↦ inl (stands_inside s n t i) | inr i ↦ inr (stands_among s n ts i) ]

pub value_stands : (t u : Tree) → is_ground u ≡ true → (m : Map) → unifier t u ≡ Some m → (n : ℕ) → In n (variables t) → StandsIn (value_of m n) u
value_stands t u g m e n i = subst (StandsIn (value_of m n)) (gives_the_tuple t u g m e) (stands_inside (value_of m) n t i)

-- one equation with ground sides, or with a variable and a ground term
pub unequal_ground : (t u : Tree) (es : List Equation) (m : Map) → is_ground t ≡ true → is_ground u ≡ true → t ≢ u → solve_equations ((t, u) ∷ es) m ≡ None
unequal_ground t u es m g h d =
    let none : mgu ((t, u) ∷ es) ≡ None = elim (some_or_none (mgu ((t, u) ∷ es))) [
      | inl o ↦ absurd (d (sym (ground_stays (value_of o.0) t g) ∙ ((is_most_general ((t, u) ∷ es) o.0 o.1).unifies.0 ∙ ground_stays (value_of o.0) u h)))
      | inr o ↦ o
    ] in
    solved_from ((t, u) ∷ es) m ∙ ap (compose_result m) none

takes_step : (n : ℕ) (u : Tree) → is_ground u ≡ true → step (variable n) u ≡ eliminate n u
takes_step n (variable k) g = absurd (cc g)
takes_step n (integer z) g = refl
takes_step n (atom f) g = refl
takes_step n (compound f us) g =
    let o : occurs n (compound f us) ≡ false = not_in_false n (variables_of us) (occurs n (compound f us)) refl (no_variable (compound f us) g n) in rw o refl

pub takes_ground : (n : ℕ) (u : Tree) (es : List Equation) (m : Map) → is_ground u ≡ true
    → solve_equations ((variable n, u) ∷ es) m ≡ solve_equations (equations_under (binding n u) es) (compose m (binding n u))
takes_ground n u es m g = solved_step (variable n, u) es m ∙ ap (λ x. solve_by_step x es m) (takes_step n u g)

-- compounds
pub arguments_solved : (f : List ℕ) (ts us : Trees) (es : List Equation) (m : Map) → arity ts ≡ arity us →
    solve_equations ((compound f ts, compound f us) ∷ es) m ≡ solve_equations (zip (list_of ts) (list_of us) ++ es) m
arguments_solved f ts us es m a =
    let q : step (compound f ts) (compound f us) ≡ decompose (zip (list_of ts) (list_of us)) =
    rw ((bytes_eq-Decides f f).1 refl, eq-eqb (arity ts) (arity us) a) refl in
    solved_step (compound f ts, compound f us) es m ∙ ap (λ x. solve_by_step x es m) q

-- a pattern of different variables takes the arguments of a ground tuple
abbrev taken : List ℕ → Trees → List Equation
taken ns us = zip (list_of (trees_of (map variable ns))) (list_of us)

apart_from : (n : ℕ) (u : Tree) (ns : List ℕ) (us : Trees) → has n ns ≡ false → all_ground us ≡ true → equations_under (binding n u) (taken ns us) ≡ taken ns us
apart_from n u [] us h g = refl
apart_from n u (k ∷ ns) no_trees h g = refl
apart_from n u (k ∷ ns) (tree v us) h g = elim (eqb_tells k n) [
  | inl q ↦ absurd (cc (rw q.0 at h))
  | inr q ↦ rw (
    other (λ e. q.1 (sym e)),
    ground_stays (value_of (binding n u)) v (and_first (is_ground v) (all_ground us) g),
    apart_from n u ns us (rw q.0 at h) (and_second (is_ground v) (all_ground us) g),
  ) refl
]
  where
    other : n ≢ k → value_of (binding n u) k ≡ variable k
    other d = elim (eqb_tells n k) [ inl q ↦ absurd (d q.1) | inr q ↦ rw q.0 refl ]

not_false : (b c : Bool) → (not b && c) ≡ true → b ≡ false
not_false true c h = absurd (cc h)
not_false false c h = refl

pub takes_all : (ns : List ℕ) (us : Trees) → are_different ns ≡ true → length ns ≡ arity us → all_ground us ≡ true →
    mgu (taken ns us) ≡ Some (zip ns (list_of us))
takes_all [] us d l g = solved_none_left []
takes_all (n ∷ ns) no_trees d l g = absurd (omega arith)
takes_all (n ∷ ns) (tree u us) d l g =
    let h : is_ground u ≡ true = and_first (is_ground u) (all_ground us) g in
    let k : all_ground us ≡ true = and_second (is_ground u) (all_ground us) g in
    let rest : mgu (taken ns us) ≡ Some (zip ns (list_of us)) = takes_all ns us (and_second (not (has n ns)) (are_different ns) d) (omega arith) k in
    takes_ground n u (taken ns us) [] h
    ∙ (ap (λ z. solve_equations z (binding n u)) (apart_from n u ns us (not_false (has n ns) (are_different ns) d) k)
    ∙ (solved_from (taken ns us) (binding n u)
    ∙ (ap (compose_result (binding n u)) rest
    ∙ ap (λ z. Some ((n, z) ∷ zip ns (list_of us))) (ground_stays (value_of (zip ns (list_of us))) u h))))

arity_of_list : (ns : List ℕ) → arity (trees_of (map variable ns)) ≡ length ns
arity_of_list [] = refl
arity_of_list (n ∷ ns) = omega (arith, arity_of_list ns)

nothing_after : (es : List Equation) → es ++ [] ≡ es
nothing_after [] = refl
nothing_after (e ∷ es) = rw (nothing_after es) refl

pub takes_tuple : (f : List ℕ) (ns : List ℕ) (us : Trees) → are_different ns ≡ true → length ns ≡ arity us → all_ground us ≡ true
    → unifier (compound f (trees_of (map variable ns))) (compound f us) ≡ Some (zip ns (list_of us))
takes_tuple f ns us d l g = arguments_solved f (trees_of (map variable ns)) us [] [] (arity_of_list ns ∙ l)
    ∙ (ap mgu (nothing_after (taken ns us)) ∙ takes_all ns us d l g)

-- one variable twice
twice_taken : (f : List ℕ) (n : ℕ) (u v : Tree) → is_ground u ≡ true → is_ground v ≡ true
    → unifier (compound_2 f (variable n) (variable n)) (compound_2 f u v) ≡ solve_equations ((u, v) ∷ []) (binding n u)
twice_taken f n u v g h =
    let itself : value_of (binding n u) n ≡ u = rw (eq-eqb n n refl) refl in
    arguments_solved f (tree (variable n) (tree (variable n) no_trees)) (tree u (tree v no_trees)) [] [] refl
    ∙ (takes_ground n u ((variable n, v) ∷ []) [] g ∙ rw (itself, ground_stays (value_of (binding n u)) v h) refl)

pub takes_twice : (f : List ℕ) (n : ℕ) (u : Tree) → is_ground u ≡ true →
    unifier (compound_2 f (variable n) (variable n)) (compound_2 f u u) ≡ Some (binding n u)
takes_twice f n u g = twice_taken f n u u g g ∙ (same u [] (binding n u) ∙ solved_none_left (binding n u))

pub takes_no_two : (f : List ℕ) (n : ℕ) (u v : Tree) → is_ground u ≡ true → is_ground v ≡ true → u ≢ v →
    unifier (compound_2 f (variable n) (variable n)) (compound_2 f u v) ≡ None
takes_no_two f n u v g h d = twice_taken f n u v g h ∙ unequal_ground u v [] (binding n u) g h d
