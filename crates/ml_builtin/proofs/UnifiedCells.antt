-- What a unification of cells comes to in the words of the definition, also where cells were made before it.
use Rattle.std.specs.Prelude.{◌≡◌, ℕ, ◌<◌, Bool, true, false, not, List, [], ◌∷◌, map, length, Option, Some, None}
use Rattle.std.specs.Option.{is_some, is_none}
use Rattle.std.proofs.Common.{refl, sym, ap, ◌∙◌, subst, arith}
use Rattle.ml_term.specs.Tree.{Tree}
use Rattle.ml_term.specs.Unify.{Equation, Map, mgu, unifier, apply}
use Rattle.ml_term.specs.Unifiers.{compose_result, solve_after}
use Rattle.ml_term.proofs.UnificationRules.{solved_from, mgu_in_parts}
use Rattle.ml_heap.specs.Changes.{Changes, trees, cell_count, variable_count, stands_for, heap_of_mark, KeepsMarks, Grows, HasTree}
use Rattle.ml_heap.specs.Carries.{Carries}
use Rattle.ml_heap.proofs.HeapMarks.{all_undone}
use Rattle.ml_heap.proofs.CarriedTrees.{carries_stay, carries_unified, carries_grown, carries_go_on}
use Rattle.ml_search.specs.Builtins.{BuiltinResult, fails, binds, unify_result, test_result}
use Rattle.ml_builtin.specs.declared.outcome.Outcome.{Outcome}
use Rattle.ml_builtin.specs.declared.outcome.Outcome.TheVariants.{Failed, Succeeded, Raised}
use Rattle.ml_builtin.specs.Outcomes.{Agrees}

-- the result of a map, if there is one
abbrev pub of_map : Option Map → ℕ → BuiltinResult
of_map None next = fails
of_map (Some m) next = binds m next

pub by_map : (es : List Equation) (next : ℕ) → unify_result es next ≡ of_map (mgu es) next
by_map es next = by (mgu es) refl
  where
    by : (o : Option Map) → mgu es ≡ o → unify_result es next ≡ of_map (mgu es) next
    by None e = rw e refl
    by (Some m) e = rw e refl

pub agrees_by_map : (h h' : Changes) (es : List Equation) (next : ℕ) (o : Outcome) → Agrees h h' (of_map (mgu es) next) o → Agrees h h' (unify_result es next) o
agrees_by_map h h' es next o a = subst (λ r. Agrees h h' r o) (sym (by_map es next)) a

pub map_agrees : (h h' : Changes) (es : List Equation) (next : ℕ) (o : Outcome) → Agrees h h' (unify_result es next) o → Agrees h h' (of_map (mgu es) next) o
map_agrees h h' es next o a = subst (λ r. Agrees h h' r o) (by_map es next) a

-- one unification
module _ (h h' : Changes) (t u : Tree) (ok : Bool) (found : ok ≡ is_some (unifier t u)) where
  pub succeeded : ok ≡ true → ((m : Map) → unifier t u ≡ Some m → trees h' ≡ map (apply m) (trees h))
      → variable_count h' ≡ variable_count h → KeepsMarks h h' → Agrees h h' (unify_result ((t, u) ∷ []) (variable_count h)) Succeeded
  succeeded e replaced counted marks = agrees_by_map h h' ((t, u) ∷ []) (variable_count h) Succeeded (by (unifier t u) refl)
    where
      by : (o : Option Map) → unifier t u ≡ o → Agrees h h' (of_map (unifier t u) (variable_count h)) Succeeded
      by None k = absurd (cc (sym e ∙ (found ∙ ap is_some k)))
      by (Some m) k = subst (λ o. Agrees h h' (of_map o (variable_count h)) Succeeded) (sym k) (carries_unified h h' m (replaced m k) marks, counted)

  pub failed : ok ≡ false → unifier t u ≡ None
  failed e = by (unifier t u) refl
    where
      by : (o : Option Map) → unifier t u ≡ o → unifier t u ≡ None
      by None k = k
      by (Some m) k = absurd (cc (sym e ∙ (found ∙ ap is_some k)))

  pub failed_agrees : ok ≡ false → Agrees h h' (unify_result ((t, u) ∷ []) (variable_count h)) Failed
  failed_agrees e = agrees_by_map h h' ((t, u) ∷ []) (variable_count h) Failed
      (subst (λ o. Agrees h h' (of_map o (variable_count h)) Failed) (sym (failed e)) tt)

  -- where nothing stays bound
  pub no_unifier : ok ≡ false → h' ≡ h → Agrees h h' (test_result (is_none (unifier t u)) (variable_count h)) Succeeded
  no_unifier e s =
      subst (λ o. Agrees h h' (test_result (is_none o) (variable_count h)) Succeeded) (sym (failed e))
      (subst (λ g. Carries h g []) (sym s) (carries_stay h), ap variable_count s)

  pub some_unifier : ok ≡ true → Agrees h h' (test_result (is_none (unifier t u)) (variable_count h)) Failed
  some_unifier e = let k : true ≡ is_some (unifier t u) = sym e ∙ found in
      subst (λ b. Agrees h h' (test_result (not b) (variable_count h)) Failed) k tt

-- a heap that is undone to the mark of its beginning
pub undone : (h h' g : Changes) (m : ℕ) → KeepsMarks h h' → m ≡ length h → g ≡ heap_of_mark h' m → g ≡ h
undone h h' g m k e u = u ∙ (ap (heap_of_mark h') e ∙ ((k (length h) (omega arith)).1 ∙ all_undone h (length h) (omega arith)))

-- a unification after cells were made
pub after_growth : (h g h' : Changes) (es fs : List Equation) (n next : ℕ) (o : Outcome) → Grows h g → es ≡ fs → n ≡ next
    → Agrees g h' (unify_result es n) o → Agrees h h' (unify_result fs next) o
after_growth h g h' es fs n next o grown e k a =
    agrees_by_map h h' fs next o (by (mgu fs) o
    (subst (λ x. Agrees g h' (of_map (mgu fs) x) o) k (subst (λ x. Agrees g h' (of_map (mgu x) n) o) e (map_agrees g h' es n o a))))
  where
    by : (m : Option Map) (o : Outcome) → Agrees g h' (of_map m next) o → Agrees h h' (of_map m next) o
    by None Failed a = tt
    by None Succeeded a = absurd a
    by None (Raised t) a = absurd a
    by (Some m) Failed a = absurd a
    by (Some m) Succeeded a = (carries_go_on h g h' [] m (carries_grown h g grown) a.0, a.1)
    by (Some m) (Raised t) a = absurd a

-- a unification after another one
module _ (h g h' : Changes) (a b : Tree) (c d : ℕ) (ok : Bool) (found : ok ≡ is_some (unifier a b)) where
  abbrev first : Equation
  first = (a, b)

  abbrev second : Equation
  second = (stands_for h c, stands_for h d)

  abbrev both : List Equation
  both = first ∷ second ∷ []

  in_parts : mgu both ≡ solve_after (second ∷ []) (unifier a b)
  in_parts = mgu_in_parts (first ∷ []) (second ∷ [])

  pub both_failed : ok ≡ false → Agrees h g (unify_result both (variable_count h)) Failed
  both_failed e =
      agrees_by_map h g both (variable_count h) Failed
      (subst (λ o. Agrees h g (of_map o (variable_count h)) Failed) (sym (in_parts ∙ ap (solve_after (second ∷ [])) (failed h g a b ok found e))) tt)

  module _ (yes : ok ≡ true) (replaced : (m : Map) → unifier a b ≡ Some m → trees g ≡ map (apply m) (trees h))
      (counted : variable_count g ≡ variable_count h) (marks : KeepsMarks h g) (in_c : c < cell_count h) (in_d : d < cell_count h) where
    abbrev later : List Equation
    later = (stands_for g c, stands_for g d) ∷ []

    solved : (m : Map) → unifier a b ≡ Some m → mgu both ≡ compose_result m (mgu later)
    solved m k =
        let carried = carries_unified h g m (replaced m k) marks in
        in_parts
        ∙ (ap (solve_after (second ∷ [])) k
        ∙ (solved_from ((apply m (stands_for h c), apply m (stands_for h d)) ∷ []) m
        ∙ cc (carried.trees c in_c, carried.trees d in_d)))

    by : (m : Map) → Carries h g m → (s : Option Map) (o : Outcome) → Agrees g h' (of_map s (variable_count g)) o
        → Agrees h h' (of_map (compose_result m s) (variable_count h)) o
    by m k None Failed x = tt
    by m k None Succeeded x = absurd x
    by m k None (Raised t) x = absurd x
    by m k (Some n) Failed x = absurd x
    by m k (Some n) Succeeded x = (carries_go_on h g h' m n k x.0, x.1 ∙ counted)
    by m k (Some n) (Raised t) x = absurd x

    pub both_agree : (o : Outcome) → Agrees g h' (unify_result later (variable_count g)) o → Agrees h h' (unify_result both (variable_count h)) o
    both_agree o x = agrees_by_map h h' both (variable_count h) o (with (unifier a b) refl)
      where
        with : (s : Option Map) → unifier a b ≡ s → Agrees h h' (of_map (mgu both) (variable_count h)) o
        with None k = absurd (cc (sym yes ∙ (found ∙ ap is_some k)))
        with (Some m) k =
            subst (λ s. Agrees h h' (of_map s (variable_count h)) o) (sym (solved m k))
            (by m (carries_unified h g m (replaced m k) marks) (mgu later) o (map_agrees g h' later (variable_count g) o x))

-- a cell that was made is unified with an older one
pub made_then_unified : (h g h' : Changes) (a r : ℕ) (t : Tree) (n next : ℕ) (o : Outcome) → HasTree h g r t → a < cell_count h → n ≡ next
    → Agrees g h' (unify_result ((stands_for g a, stands_for g r) ∷ []) n) o → Agrees h h' (unify_result ((stands_for h a, t) ∷ []) next) o
made_then_unified h g h' a r t n next o made in_a k x =
    after_growth h g h' ((stands_for g a, stands_for g r) ∷ []) ((stands_for h a, t) ∷ []) n next o made.grown
    (cc (made.grown.others a in_a, made.stands)) k x

-- two cells that were made are unified with two older ones
pub both_made_then_unified : (h g h' : Changes) (a r b q : ℕ) (t u : Tree) (n next : ℕ) (o : Outcome) → Grows h g → a < cell_count h → b < cell_count h
    → stands_for g r ≡ t → stands_for g q ≡ u → n ≡ next
    → Agrees g h' (unify_result ((stands_for g a, stands_for g r) ∷ (stands_for g b, stands_for g q) ∷ []) n) o
    → Agrees h h' (unify_result ((stands_for h a, t) ∷ (stands_for h b, u) ∷ []) next) o
both_made_then_unified h g h' a r b q t u n next o grown in_a in_b e f k x =
    after_growth h g h' ((stands_for g a, stands_for g r) ∷ (stands_for g b, stands_for g q) ∷ [])
    ((stands_for h a, t) ∷ (stands_for h b, u) ∷ []) n next o grown
    (cc (grown.others a in_a, e, grown.others b in_b, f)) k x
