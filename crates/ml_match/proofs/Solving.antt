-- Equations solved one after another, while the heap carries its trees.
use Rattle.std.proofs.Common.{◌≡◌, true, false, List, [], ◌∷◌, Option, Some, None, refl, sym, ap, ◌∙◌}
use Rattle.std.specs.Option.{is_some}
use Rattle.ml_term.specs.Unify.{Equation, Map, mgu, unifier, solve_equations}
use Rattle.ml_term.specs.Unifiers.{equations_under, compose, compose_result, solve_after}
use Rattle.ml_term.proofs.MapComposition.{followed_grouped}
use Rattle.ml_term.proofs.UnificationRules.{solved_from, mgu_in_parts}
use Rattle.ml_heap.specs.Changes.{Changes}
use Rattle.ml_heap.specs.Carries.{Carries}
use Rattle.ml_heap.proofs.CarriedTrees.{carries_go_on}
use Rattle.ml_match.specs.inside.Matching.{IsSolving}

composed_twice : (m n : Map) (r : Option Map) → compose_result m (compose_result n r) ≡ compose_result (compose m n) r
composed_twice m n None = refl
composed_twice m n (Some o) = ap Some (sym (followed_grouped m n o))

after_none : (left : List Equation) (r : Option Map) → r ≡ None → solve_after left r ≡ None
after_none left None e = refl
after_none left (Some m) e = absurd (cc e)

after_some : (left : List Equation) (n : Map) (r : Option Map) → r ≡ Some n → solve_after left r ≡ solve_equations (equations_under n left) n
after_some left n None e = absurd (cc e)
after_some left n (Some m) e = let k : m ≡ n = cc e in rw k refl

-- the first of the equations that are left
pub first_solved : (e : Equation) (left : List Equation) (m n : Map) → unifier e.0 e.1 ≡ Some n
    → solve_equations (e ∷ left) m ≡ solve_equations (equations_under n left) (compose m n)
first_solved e left m n u =
    solved_from (e ∷ left) m
    ∙ (ap (compose_result m) (mgu_in_parts (e ∷ []) left ∙ (after_some left n (mgu (e ∷ [])) u ∙ solved_from (equations_under n left) n))
    ∙ (composed_twice m n (mgu (equations_under n left)) ∙ sym (solved_from (equations_under n left) (compose m n))))

pub first_unsolved : (e : Equation) (left : List Equation) (m : Map) → unifier e.0 e.1 ≡ None → solve_equations (e ∷ left) m ≡ None
first_unsolved e left m u = solved_from (e ∷ left) m ∙ ap (compose_result m) (mgu_in_parts (e ∷ []) left ∙ after_none left (mgu (e ∷ [])) u)

abbrev pub solving_on : (es : List Equation) (old h h' : Changes) (e : Equation) (left left' : List Equation) (n : Map) → IsSolving es old h (e ∷ left)
    → unifier e.0 e.1 ≡ Some n → Carries h h' n → left' ≡ equations_under n left → IsSolving es old h' left'
solving_on es old h h' e left left' n s u k l = record {
  map_so_far = compose s.map_so_far n;
  carried = carries_go_on old h h' s.map_so_far n s.carried k;
  solved = s.solved ∙ (first_solved e left s.map_so_far n u ∙ ap (λ fs. solve_equations fs (compose s.map_so_far n)) (sym l));
}

pub solving_fails : (es : List Equation) (old h : Changes) (e : Equation) (left : List Equation) → IsSolving es old h (e ∷ left) → unifier e.0 e.1 ≡ None
    → mgu es ≡ None
solving_fails es old h e left s u = s.solved ∙ first_unsolved e left s.map_so_far u

pub none_from : (r : Option Map) → false ≡ is_some r → r ≡ None
none_from None e = refl
none_from (Some m) e = absurd (cc e)

pub some_from : (r : Option Map) → true ≡ is_some r → (m : Map) × (r ≡ Some m)
some_from None e = absurd (cc e)
some_from (Some m) e = (m, refl)
