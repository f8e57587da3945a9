-- A worklist of equations between cells: what its rules lead to, as trees of the heap.
use Rattle.std.specs.Prelude.{◌≡◌, ℕ, pos, true, List, [], ◌∷◌, ◌++◌, map, Option, Some, None}
use Rattle.std.specs.Option.{is_some}
use Rattle.std.proofs.Common.{refl, sym, ap, ◌∙◌, subst}
use Rattle.std.proofs.Math.ListN.{get_or-map}
use Rattle.ml_term.specs.Tree.{Tree, integer}
use Rattle.ml_term.specs.Unify.{Equation, Map, delete, decompose, eliminate, clash, step, apply, binding, solve_equations, mgu, unifier}
use Rattle.ml_term.specs.Unifiers.{equations_under, compose, compose_result, solve_by_step}
use Rattle.ml_term.proofs.MapComposition.{applied_followed, applied_empty, followed_by_empty}
use Rattle.ml_term.proofs.UnificationRules.{solved_step, solved_none_left, solved_from}
use Rattle.ml_term.proofs.EqualEquations.{same}
use Rattle.ml_heap.specs.Changes.{Changes, trees, stands_for, tree_in}
use Rattle.ml_heap.specs.inside.Equations.{stack_equations, equations_left, AreBelow, IsTurn, same_sides, sides_split, variable_replaced}

abbrev sides : Tree → Tree → Equation
sides t u = (t, u)

-- the pair that is put last is the first equation
pub one_more : (ts : List Tree) (es : List Equation) (ps : List (ℕ × ℕ)) (p : ℕ × ℕ) →
    stack_equations ts es (ps ++ p ∷ []) ≡ (tree_in ts p.0, tree_in ts p.1) ∷ stack_equations ts es ps
one_more ts es [] p = refl
one_more ts es (q ∷ ps) p = one_more ts ((tree_in ts q.0, tree_in ts q.1) ∷ es) ps p

-- a variable replaced in all trees is replaced in all equations
pub all_replaced : (m : Map) (ts : List Tree) (es : List Equation) (ps : List (ℕ × ℕ)) →
    stack_equations (map (apply m) ts) (equations_under m es) ps ≡ equations_under m (stack_equations ts es ps)
all_replaced m ts es [] = refl
all_replaced m ts es (p ∷ ps) =
    ap (λ e. stack_equations (map (apply m) ts) (e ∷ equations_under m es) ps)
    (two (get_or-map (apply m) ts p.0 (integer (pos 0))) (get_or-map (apply m) ts p.1 (integer (pos 0))))
    ∙ all_replaced m ts ((tree_in ts p.0, tree_in ts p.1) ∷ es) ps
  where
    two : {a b c d : Tree} → a ≡ b → c ≡ d → sides a c ≡ sides b d
    two e f = cc

unchanged : (ts : List Tree) → map (apply []) ts ≡ ts
unchanged [] = refl
unchanged (t ∷ ts) = rw (applied_empty t, unchanged ts) refl

twice_applied : (m n : Map) (ts : List Tree) → map (apply n) (map (apply m) ts) ≡ map (apply (compose m n)) ts
twice_applied m n [] = refl
twice_applied m n (t ∷ ts) = rw (applied_followed m n t, twice_applied m n ts) refl

-- trees and equations that others lead to: by a map that is applied to the trees, after which the equations are to be solved
pub record Lead (ts : List Tree) (es : List Equation) (ts' : List Tree) (es' : List Equation) : Type 0 where
  pub by : Map
  pub trees : ts' ≡ map (apply by) ts
  pub solves : (m : Map) → solve_equations es m ≡ solve_equations es' (compose m by)

-- what some equations have led to: a map, that was applied to the trees, and the equations that are left
pub record Reached (ts : List Tree) (es : List Equation) (ts' : List Tree) (es' : List Equation) : Type 0 where
  pub so_far : Map
  pub trees : ts' ≡ map (apply so_far) ts
  pub solves : mgu es ≡ solve_equations es' so_far

pub starts : (ts : List Tree) (es : List Equation) → Reached ts es ts es
starts ts es = record { so_far = []; trees = sym (unchanged ts); solves = refl }

pub goes_on : (ts : List Tree) (es : List Equation) (ts' : List Tree) (es' : List Equation) (ts'' : List Tree) (es'' : List Equation)
    → Reached ts es ts' es' → Lead ts' es' ts'' es'' → Reached ts es ts'' es''
goes_on ts es ts' es' ts'' es'' r l = record {
  so_far = compose r.so_far l.by;
  trees = l.trees ∙ (ap (map (apply l.by)) r.trees ∙ twice_applied r.so_far l.by ts);
  solves = r.solves ∙ l.solves r.so_far;
}

-- equations that are solved alike, with the trees as they were
pub alike_lead : (ts : List Tree) (es fs : List Equation) → ((m : Map) → solve_equations es m ≡ solve_equations fs m) → Lead ts es ts fs
alike_lead ts es fs h = record { by = []; trees = sym (unchanged ts); solves = λ m. h m ∙ ap (solve_equations fs) (sym (followed_by_empty m)) }

pub same_leads : (ts : List Tree) (t : Tree) (es : List Equation) → Lead ts ((t, t) ∷ es) ts es
same_leads ts t es = alike_lead ts ((t, t) ∷ es) es (same t es)

-- by what the rules say of the first equation
pub dropped_leads : (ts : List Tree) (e : Equation) (es : List Equation) → step e.0 e.1 ≡ delete → Lead ts (e ∷ es) ts es
dropped_leads ts e es s = alike_lead ts (e ∷ es) es (λ m. solved_step e es m ∙ ap (λ x. solve_by_step x es m) s)

pub split_leads : (ts : List Tree) (e : Equation) (es us : List Equation) → step e.0 e.1 ≡ decompose us → Lead ts (e ∷ es) ts (us ++ es)
split_leads ts e es us s = alike_lead ts (e ∷ es) (us ++ es) (λ m. solved_step e es m ∙ ap (λ x. solve_by_step x es m) s)

pub bound_leads : (ts : List Tree) (e : Equation) (es : List Equation) (n : ℕ) (t : Tree) → step e.0 e.1 ≡ eliminate n t
    → Lead ts (e ∷ es) (map (apply (binding n t)) ts) (equations_under (binding n t) es)
bound_leads ts e es n t s = record { by = binding n t; trees = refl; solves = λ m. solved_step e es m ∙ ap (λ x. solve_by_step x es m) s }

-- where a rule leads
pub turn_leads : (ts : List Tree) (t u : Tree) (es : List Equation) (ts' : List Tree) (es' : List Equation) → IsTurn ts t u es ts' es' →
    Lead ts ((t, u) ∷ es) ts' es'
turn_leads ts t u es ts' es' (same_sides e p q) = rw (p, q)
    (alike_lead ts ((t, u) ∷ es) es (subst (λ w. (m : Map) → solve_equations ((t, w) ∷ es) m ≡ solve_equations es m) e (same t es)))
turn_leads ts t u es ts' es' (sides_split us s p q) = rw (p, q) (split_leads ts (t, u) es us s)
turn_leads ts t u es ts' es' (variable_replaced n w s p q) = rw (p, q) (bound_leads ts (t, u) es n w s)

-- nothing is left: the map is the unifier
module _ (ts : List Tree) (es : List Equation) (ts' : List Tree) (r : Reached ts es ts' []) where
  found : mgu es ≡ Some r.so_far
  found = r.solves ∙ solved_none_left r.so_far

  pub is_found : is_some (mgu es) ≡ true
  is_found = ap is_some found

  pub by_the_unifier : (m : Map) → mgu es ≡ Some m → ts' ≡ map (apply m) ts
  by_the_unifier m e =
      let same : r.so_far ≡ m = cc (found, e) in
      r.trees ∙ ap (λ m. map (apply m) ts) same

-- a clash: there is none
module _ (ts : List Tree) (es : List Equation) (ts' : List Tree) (t u : Tree) (fs : List Equation) (s : step t u ≡ clash)
    (r : Reached ts es ts' ((t, u) ∷ fs)) where
  pub none_found : mgu es ≡ None
  none_found = r.solves ∙ (solved_step (t, u) fs r.so_far ∙ ap (λ x. solve_by_step x fs r.so_far) s)

  pub no_replacing : (ts'' : List Tree) (m : Map) → mgu es ≡ Some m → ts'' ≡ map (apply m) ts
  no_replacing ts'' m e = absurd (cc (none_found, e))

-- one rule, and then the unifier of what it leaves
module _ (ts : List Tree) (t u : Tree) (ts' : List Tree) (es' : List Equation) (l : Lead ts ((t, u) ∷ []) ts' es') where
  later : unifier t u ≡ compose_result l.by (mgu es')
  later = l.solves [] ∙ solved_from es' l.by

  pub found_later : is_some (unifier t u) ≡ is_some (mgu es')
  found_later = ap is_some later ∙ result (mgu es')
    where
      result : (r : Option Map) → is_some (compose_result l.by r) ≡ is_some r
      result None = refl
      result (Some n) = refl

  pub replaced_later : (ts'' : List Tree) (m : Map) → unifier t u ≡ Some m → ((n : Map) → mgu es' ≡ Some n → ts'' ≡ map (apply n) ts') → ts'' ≡ map (apply m) ts
  replaced_later ts'' m e h = result (mgu es') refl
    where
      result : (r : Option Map) → mgu es' ≡ r → ts'' ≡ map (apply m) ts
      result None q = absurd (cc (later, q, e))
      result (Some n) q =
          let same : m ≡ compose l.by n = cc (later, ap (compose_result l.by) q, e) in
          h n q ∙ (ap (map (apply n)) l.trees ∙ (twice_applied l.by n ts ∙ ap (λ m. map (apply m) ts) (sym same)))

-- the first rule with an empty worklist, where cells are read by other names
module _ (h : Changes) (a b q r : ℕ) (p : q ≡ a) (o : r ≡ b) where
  pub first_leads : (ps : List (ℕ × ℕ)) (ts' : List Tree) (es' : List Equation) → ps ≡ [] →
      IsTurn (trees h) (stands_for h q) (stands_for h r) (equations_left (trees h) ps) ts' es'
      → Lead (trees h) ((stands_for h a, stands_for h b) ∷ []) ts' es'
  first_leads ps ts' es' n d =
      turn_leads (trees h) (stands_for h a) (stands_for h b) [] ts' es'
      (subst (λ zs. IsTurn (trees h) (stands_for h a) (stands_for h b) (equations_left (trees h) zs) ts' es') n
      (subst (λ y. IsTurn (trees h) (stands_for h a) (stands_for h y) (equations_left (trees h) ps) ts' es') o
      (subst (λ x. IsTurn (trees h) (stands_for h x) (stands_for h r) (equations_left (trees h) ps) ts' es') p d)))

  first_clashes : step (stands_for h q) (stands_for h r) ≡ clash → step (stands_for h a) (stands_for h b) ≡ clash
  first_clashes k = subst (λ y. step (stands_for h a) (stands_for h y) ≡ clash) o (subst (λ x. step (stands_for h x) (stands_for h r) ≡ clash) p k)

  module _ (k : step (stands_for h q) (stands_for h r) ≡ clash) where
    pub none_at_first : unifier (stands_for h a) (stands_for h b) ≡ None
    none_at_first =
        none_found (trees h) ((stands_for h a, stands_for h b) ∷ []) (trees h) (stands_for h a) (stands_for h b) []
        (first_clashes k) (starts (trees h) ((stands_for h a, stands_for h b) ∷ []))

    pub no_replacing_at_first : (ts'' : List Tree) (m : Map) → unifier (stands_for h a) (stands_for h b) ≡ Some m → ts'' ≡ map (apply m) (trees h)
    no_replacing_at_first ts'' m e = absurd (cc (none_at_first, e))
