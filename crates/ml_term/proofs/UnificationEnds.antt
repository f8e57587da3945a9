-- Each turn of unification lowers the number of different variables, or keeps it and lowers the size.
use Rattle.std.specs.Prelude.{◌≡◌, ◌≢◌, ℕ, ◌+◌, ◌<◌, ◌≤◌, true, false, Bool, ◌||◌, ◌&&◌, ◌==◌, cond, nat_lt, ◌⊎◌, List, [], ◌∷◌, ◌++◌, map, Option, None}
use Rattle.std.proofs.Common.{inl, inr, refl, sym, ap, ◌∙◌, subst, arith}
use Rattle.std.proofs.lemmas.Bool.Decides.{eqb_tells}
use Rattle.std.specs.List.{flat_map, zip}
use Rattle.std.specs.Ordering.{int_eq}
use Rattle.std.specs.Str.{bytes_eq}
use Rattle.ml_term.specs.Tree.{Tree, Trees, variable, integer, atom, compound, no_trees, tree, has, variables, variables_of, nodes, nodes_of, list_of, arity}
use Rattle.ml_term.specs.Tree.{occurs, substitute_in}
use Rattle.ml_term.specs.Unify.{Equation, Map, Step, delete, decompose, eliminate, clash, step, value_of, apply, binding, UnifierState, replace_variable}
use Rattle.ml_term.specs.Unify.{after_step, turn_of, turn, variables_left, nodes_in, nodes_left, solve_equations}
use Rattle.ml_term.specs.Runs.{Next, now}
use Rattle.ml_term.specs.Falling.{Falls, HoldsAfter}
use Rattle.ml_term.proofs.Runs as R
use Rattle.ml_term.proofs.DistinctCounts.{In, has_append, distinct_within, distinct_below}

pub in_either : (k : ℕ) (xs ys : List ℕ) → In k (xs ++ ys) → In k xs ⊎ In k ys
in_either k xs ys h = go (has k xs) refl
  where
    go : (b : Bool) → has k xs ≡ b → In k xs ⊎ In k ys
    go true e = inl e
    go false e = inr (grind (arith, has_append k xs ys, h, e))

pub in_left : (k : ℕ) (xs ys : List ℕ) → In k xs → In k (xs ++ ys)
in_left k xs ys h = grind (arith, has_append k xs ys, h)

or_true : (b : Bool) → (b || true) ≡ true
or_true true = refl
or_true false = refl

pub in_right : (k : ℕ) (xs ys : List ℕ) → In k ys → In k (xs ++ ys)
in_right k xs ys h = has_append k xs ys ∙ (ap (λ b. has k xs || b) h ∙ or_true (has k xs))

-- what a replaced term has: variables of the term put in, and its own without the binding replaced
abbrev pub After : ℕ → ℕ → Tree → List ℕ → Type 0
After k n t ms = In k (variables t) ⊎ (In k ms × (k ≢ n))

after_left : (k n : ℕ) (t : Tree) (xs ys : List ℕ) → After k n t xs → After k n t (xs ++ ys)
after_left k n t xs ys (inl h) = inl h
after_left k n t xs ys (inr h) = inr (in_left k xs ys h.0, h.1)

after_right : (k n : ℕ) (t : Tree) (xs ys : List ℕ) → After k n t ys → After k n t (xs ++ ys)
after_right k n t xs ys (inl h) = inl h
after_right k n t xs ys (inr h) = inr (in_right k xs ys h.0, h.1)

variable_after : (k n m : ℕ) (t : Tree) (b : Bool) → (n == m) ≡ b → In k (variables (cond b t (variable m))) → After k n t (m ∷ [])
variable_after k n m t true e h = inl h
variable_after k n m t false e h = inr (h, λ p. grind (arith, eqb_tells m k, eqb_tells n m, h, e, p))

mutual
  pub variables_after : (k n : ℕ) (t u : Tree) → In k (variables (apply (binding n t) u)) → After k n t (variables u)
  variables_after k n t (variable m) h = variable_after k n m t (n == m) refl h
  variables_after k n t (integer z) h = cc
  variables_after k n t (atom f) h = cc
  variables_after k n t (compound f us) h = all_after k n t us h

  pub all_after : (k n : ℕ) (t : Tree) (us : Trees) → In k (variables_of (substitute_in (value_of (binding n t)) us)) → After k n t (variables_of us)
  all_after k n t no_trees h = cc
  all_after k n t (tree u us) h = elim (in_either k (variables (apply (binding n t) u)) (variables_of (substitute_in (value_of (binding n t)) us)) h) [
    | inl i ↦ after_left k n t (variables u) (variables_of us) (variables_after k n t u i)
    | inr i ↦ after_right k n t (variables u) (variables_of us) (all_after k n t us i)
  ]

abbrev pub equation_variables : Equation → List ℕ
equation_variables e = variables e.0 ++ variables e.1

abbrev pub equations_variables : List Equation → List ℕ
equations_variables es = flat_map (λ e. variables e.0 ++ variables e.1) es

equation_after : (k n : ℕ) (t u v : Tree) → In k (variables (apply (binding n t) u) ++ variables (apply (binding n t) v)) →
    After k n t (variables u ++ variables v)
equation_after k n t u v h = elim (in_either k (variables (apply (binding n t) u)) (variables (apply (binding n t) v)) h) [
  | inl i ↦ after_left k n t (variables u) (variables v) (variables_after k n t u i)
  | inr i ↦
      after_right k n t (variables u) (variables v) (variables_after k n t v i)
]

pub equations_after : (k n : ℕ) (t : Tree) (es : List Equation) →
    In k (equations_variables (map (λ e. (apply (binding n t) e.0, apply (binding n t) e.1)) es)) → After k n t (equations_variables es)
equations_after k n t [] h = cc
equations_after k n t (e ∷ es) h = elim (in_either k (variables (apply (binding n t) e.0) ++ variables (apply (binding n t) e.1))
    (equations_variables (map (λ e. (apply (binding n t) e.0, apply (binding n t) e.1)) es)) h) [
      | inl i ↦ after_left k n t (equation_variables e) (equations_variables es) (equation_after k n t e.0 e.1 i)
      | inr i ↦
          after_right k n t (equation_variables e) (equations_variables es) (equations_after k n t es i)
    ]

-- what a step may be: no larger, and with no new variables
abbrev pub Fits : List ℕ → ℕ → Step → Type 0
Fits ms size delete = Unit {0}
Fits ms size clash = Unit {0}
Fits ms size (decompose us) = (nodes_in us < size) × ((k : ℕ) → In k (equations_variables us) → In k ms)
Fits ms size (eliminate n t) = In n ms × ((k : ℕ) → In k (variables t) → In k ms × (k ≢ n))

cond_fits : (ms : List ℕ) (size : ℕ) (b c : Bool) (x y : Step) → b ≡ c → (c ≡ true → Fits ms size x) → (c ≡ false → Fits ms size y) → Fits ms size (cond b x y)
cond_fits ms size b true x y e h k = rw e (h refl)
cond_fits ms size b false x y e h k = rw e (k refl)

in_one : (n : ℕ) → In n (n ∷ [])
in_one n = grind (arith, eqb_tells n n)

pub in_one_only : (k n : ℕ) → In k (n ∷ []) → k ≡ n
in_one_only k n h = grind (arith, eqb_tells n k)

not_in : (n k : ℕ) (ms : List ℕ) → has n ms ≡ false → In k ms → k ≢ n
not_in n k ms f h e = cc

pairs_size : (ts us : Trees) → nodes_in (zip (list_of ts) (list_of us)) ≤ nodes_of ts + nodes_of us
pairs_size no_trees us = omega arith
pairs_size (tree t ts) no_trees = omega arith
pairs_size (tree t ts) (tree u us) = omega (arith, pairs_size ts us)

pairs_in : (k : ℕ) (ts us : Trees) → In k (equations_variables (zip (list_of ts) (list_of us))) → In k (variables_of ts) ⊎ In k (variables_of us)
pairs_in k no_trees us h = cc
pairs_in k (tree t ts) no_trees h = cc
pairs_in k (tree t ts) (tree u us) h = elim (in_either k (variables t ++ variables u) (equations_variables (zip (list_of ts) (list_of us))) h) [
  | inl i ↦ elim (in_either k (variables t) (variables u) i)
      [ inl j ↦ inl (in_left k (variables t) (variables_of ts) j) | inr j ↦ inr (in_left k (variables u) (variables_of us) j) ]
  | inr i ↦ elim (pairs_in k ts us i) [
    | inl j ↦ inl (in_right k (variables t) (variables_of ts) j)
    | inr j ↦
        inr (in_right k (variables u) (variables_of us) j)
  ]
]

split_fits : (ts us : Trees) → Fits (variables_of ts ++ variables_of us) ((1 + nodes_of ts) + (1 + nodes_of us)) (decompose (zip (list_of ts) (list_of us)))
split_fits ts us = (
  omega (arith, pairs_size ts us),
  λ k h.
      elim (pairs_in k ts us h) [ inl i ↦ in_left k (variables_of ts) (variables_of us) i | inr i ↦ in_right k (variables_of ts) (variables_of us) i ],
)

two_fit : (m n size : ℕ) → m ≢ n → Fits (m ∷ n ∷ []) size (eliminate n (variable m)) × Fits (m ∷ n ∷ []) size (eliminate m (variable n))
two_fit m n size d = (
  (in_right n (m ∷ []) (n ∷ []) (in_one n), λ k h. (in_left k (m ∷ []) (n ∷ []) h, λ e. d (sym (in_one_only k m h) ∙ e))),
  (in_left m (m ∷ []) (n ∷ []) (in_one m), λ k h. (in_right k (m ∷ []) (n ∷ []) h, λ e. d (sym e ∙ in_one_only k n h))),
)

two_variables_fit : (m n size : ℕ) → Fits (m ∷ n ∷ []) size (cond (m == n) delete (cond (nat_lt m n) (eliminate n (variable m)) (eliminate m (variable n))))
two_variables_fit m n size = elim (eqb_tells m n) [
  | inl e ↦ rw e.0 tt
  | inr e ↦
      rw e.0 (cond_fits (m ∷ n ∷ []) size (nat_lt m n) (nat_lt m n) _ _ refl (λ _. (two_fit m n size e.1).0) (λ _. (two_fit m n size e.1).1))
]

left_fits : (m size : ℕ) (t : Tree) → Fits (m ∷ variables t) size (cond (occurs m t) clash (eliminate m t))
left_fits m size t = cond_fits (m ∷ variables t) size (occurs m t) (occurs m t) clash (eliminate m t) refl (λ _. tt)
    (λ f. (in_left m (m ∷ []) (variables t) (in_one m), λ k h. (in_right k (m ∷ []) (variables t) h, not_in m k (variables t) f h)))

right_fits : (m size : ℕ) (t : Tree) → Fits (variables t ++ m ∷ []) size (cond (occurs m t) clash (eliminate m t))
right_fits m size t = cond_fits (variables t ++ m ∷ []) size (occurs m t) (occurs m t) clash (eliminate m t) refl (λ _. tt)
    (λ f. (in_right m (variables t) (m ∷ []) (in_one m), λ k h. (in_left k (variables t) (m ∷ []) h, not_in m k (variables t) f h)))

pub step_fits : (t u : Tree) → Fits (variables t ++ variables u) (nodes t + nodes u) (step t u)
step_fits (variable m) (variable n) = two_variables_fit m n 2
step_fits (variable m) u = left_fits m (1 + nodes u) u
step_fits t (variable n) = right_fits n (nodes t + 1) t
step_fits (integer y) (integer z) = cond_fits [] 2 (int_eq y z) (int_eq y z) delete clash refl (λ _. tt) (λ _. tt)
step_fits (atom f) (atom g) = cond_fits [] 2 (bytes_eq f g) (bytes_eq f g) delete clash refl (λ _. tt) (λ _. tt)
step_fits (compound f ts) (compound g us) = cond_fits (variables_of ts ++ variables_of us) (1 + nodes_of ts + (1 + nodes_of us))
    (bytes_eq f g && (arity ts == arity us)) (bytes_eq f g && (arity ts == arity us)) (decompose (zip (list_of ts) (list_of us))) clash refl
    (λ _. split_fits ts us) (λ _. tt)
step_fits t u = tt

abbrev pub none_left : Option Map → ℕ
none_left o = 0

abbrev pub FallsFrom : UnifierState → Next UnifierState (Option Map) → Type 0
FallsFrom = Falls variables_left nodes_left none_left

fall : (a b c d : ℕ) → a ≤ b → c < d → (a < b) ⊎ ((a ≡ b) × (c < d))
fall a b c d h k = grind arith

size_append : (us es : List Equation) → nodes_in (us ++ es) ≡ nodes_in us + nodes_in es
size_append [] es = omega arith
size_append (u ∷ us) es = omega (arith, size_append us es)

pub equations_either : (k : ℕ) (us es : List Equation) → In k (equations_variables (us ++ es)) → In k (equations_variables us) ⊎ In k (equations_variables es)
equations_either k [] es h = inr h
equations_either k (u ∷ us) es h = elim (in_either k (equation_variables u) (equations_variables (us ++ es)) h) [
  | inl i ↦ inl (in_left k (equation_variables u) (equations_variables us) i)
  | inr i ↦ elim (equations_either k us es i) [ inl j ↦ inl (in_right k (equation_variables u) (equations_variables us) j) | inr j ↦ inr j ]
]

nodes_pos : (t : Tree) → 1 ≤ nodes t
nodes_pos (compound f ts) = omega arith
nodes_pos _ = omega arith

after_falls : (e : Equation) (es : List Equation) (m : Map) (x : Step) → Fits (equation_variables e) (nodes e.0 + nodes e.1) x →
    FallsFrom (record { left = e ∷ es; map = m }) (after_step x es m)
after_falls e es m clash f = omega arith
after_falls e es m delete f =
    fall _ _ _ _ (distinct_within (equations_variables es) (equation_variables e ++ equations_variables es)
    (λ k i. in_right k (equation_variables e) (equations_variables es) i)) (omega (arith, nodes_pos e.0))
after_falls e es m (decompose us) f =
    fall _ _ _ _
    (distinct_within (equations_variables (us ++ es)) (equation_variables e ++ equations_variables es)
    (λ k i. elim (equations_either k us es i) [
      | inl j ↦ in_left k (equation_variables e) (equations_variables es) (f.1 k j)
      | inr j ↦
          in_right k (equation_variables e) (equations_variables es) j
    ]))
    (omega (arith, size_append us es, f.0))
after_falls e es m (eliminate n t) f =
    inl (distinct_below n (equations_variables (replace_variable n t es m).left) (equation_variables e ++ equations_variables es)
    (λ k i. elim (equations_after k n t es i) [
      | inl j ↦ (in_left k (equation_variables e) (equations_variables es) (f.1 k j).0, (f.1 k j).1)
      | inr j ↦
          (in_right k (equation_variables e) (equations_variables es) j.0, j.1)
    ])
    (in_left n (equation_variables e) (equations_variables es) f.0))

turn_of_falls : (es : List Equation) (m : Map) → FallsFrom (record { left = es; map = m }) (turn_of es m)
turn_of_falls [] m = omega arith
turn_of_falls (e ∷ es) m = after_falls e es m (step e.0 e.1) (step_fits e.0 e.1)

pub turn_falls : (s : UnifierState) → FallsFrom s (turn s)
turn_falls s = turn_of_falls s.left s.map

-- unification by its turns
pub solved_goes : (es us : List Equation) (m m' : Map) → turn (record { left = es; map = m }) ≡ now (inr (record { left = us; map = m' })) →
    solve_equations es m ≡ solve_equations us m'
unfolding solve_equations
solved_goes es us m m' e = R.run_goes turn variables_left nodes_left (λ s. None) none_left turn_falls _ _ e

pub solved_over : (es : List Equation) (m : Map) (r : Option Map) → turn (record { left = es; map = m }) ≡ now (inl r) → solve_equations es m ≡ r
unfolding solve_equations
solved_over es m r e = R.run_over turn variables_left nodes_left (λ s. None) none_left turn_falls _ _ e

-- how many turns are left, which falls at each turn
pub turns : UnifierState → ℕ
turns = R.turns turn variables_left nodes_left (λ s. None) none_left turn_falls

pub turns_fall : (s t : UnifierState) → turn s ≡ now (inr t) → turns t < turns s
unfolding turns
turns_fall = R.turns_fall turn variables_left nodes_left (λ s. None) none_left turn_falls

-- induction over the turns of unification
pub by_turns : (P : UnifierState → Option Map → Type 0) → ((s : UnifierState) (r : Option Map) → HoldsAfter P (turn s) r → P s r) →
    (es : List Equation) (m : Map) → P (record { left = es; map = m }) (solve_equations es m)
unfolding solve_equations
by_turns P keeps es m = R.by_turns turn variables_left nodes_left (λ s. None) none_left turn_falls P keeps (record { left = es; map = m })

pub next_falls : (s t : UnifierState) → turn s ≡ now (inr t) →
    (variables_left t < variables_left s) ⊎ ((variables_left t ≡ variables_left s) × (nodes_left t < nodes_left s))
next_falls s t e = subst (FallsFrom s) e (turn_falls s)
