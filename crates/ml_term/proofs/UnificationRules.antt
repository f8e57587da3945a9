-- Unification by its rules, what it gives, and how it goes in parts.
use Rattle.std.specs.Prelude.{◌≡◌, ℕ, ◌+◌, List, [], ◌∷◌, ◌++◌, Option, Some, None}
use Rattle.std.proofs.Common.{inl, refl, sym, ap, ◌∙◌, arith, append_assoc}
use Rattle.ml_term.specs.Tree.{variable, nodes}
use Rattle.ml_term.specs.Unify.{Equation, Map, Step, delete, decompose, eliminate, clash, step, binding, UnifierState, after_step, turn_of, solve_equations}
use Rattle.ml_term.specs.Unifiers.{equations_under, compose, compose_result, solve_after, solve_by_step}
use Rattle.ml_term.specs.Falling.{HoldsAfter}
use Rattle.ml_term.proofs.UnificationEnds.{equation_variables, Fits, step_fits, in_one_only, by_turns, solved_goes, solved_over}
use Rattle.ml_term.proofs.UnificationSteps.{Says, step_says, unifies_each, unifies_append}
use Rattle.ml_term.proofs.MapComposition.{followed_by_empty, followed_grouped, under_followed, under_append, under_empty}
use Rattle.ml_term.proofs.MostGeneralUnifiers.{IsOlder, step_older, IsMostGeneral, Gives, with_dropped, with_split, with_bound}

-- the rules, one step at a time
by_step : (e : Equation) (es : List Equation) (m : Map) (x : Step) → step e.0 e.1 ≡ x → solve_equations (e ∷ es) m ≡ solve_by_step x es m
by_step e es m delete q = solved_goes (e ∷ es) es m m (ap (λ x. after_step x es m) q)
by_step e es m (decompose us) q = solved_goes (e ∷ es) (us ++ es) m m (ap (λ x. after_step x es m) q)
by_step e es m (eliminate n t) q = solved_goes (e ∷ es) (equations_under (binding n t) es) m (compose m (binding n t)) (ap (λ x. after_step x es m) q)
by_step e es m clash q = solved_over (e ∷ es) m None (ap (λ x. after_step x es m) q)

pub solved_step : (e : Equation) (es : List Equation) (m : Map) → solve_equations (e ∷ es) m ≡ solve_by_step (step e.0 e.1) es m
solved_step e es m = by_step e es m (step e.0 e.1) refl

pub solved_none_left : (m : Map) → solve_equations [] m ≡ Some m
solved_none_left m = solved_over [] m (Some m) refl

-- what the rules give
abbrev GivesFrom : UnifierState → Option Map → Type 0
GivesFrom s r = Gives s.left s.map r

step_gives : (e : Equation) (es : List Equation) (m : Map) (x : Step) (r : Option Map) → Says x e.0 e.1 →
    Fits (equation_variables e) (nodes e.0 + nodes e.1) x → IsOlder x
    → HoldsAfter GivesFrom (after_step x es m) r → Gives (e ∷ es) m r
step_gives e es m delete None h f o l = λ s u. l s u.1
step_gives e es m delete (Some v) h f o l = (l.0, (l.1.0, with_dropped e es l.0 h l.1.1))
step_gives e es m (decompose us) None h f o l = λ s u. l s (unifies_append s us es (h.1 s u.0) u.1)
step_gives e es m (decompose us) (Some v) h f o l = (l.0, (l.1.0, with_split e us es l.0 h f.1 l.1.1))
step_gives e es m (eliminate n t) None h f o l = λ s u. l s (unifies_each s n t es (h.2 s u.0) u.1)
step_gives e es m (eliminate n t) (Some v) h f o l = (
  compose (binding n t) l.0,
  (l.1.0 ∙ followed_grouped m (binding n t) l.0, with_bound e es n t l.0 h f o l.1.1),
)
step_gives e es m clash None h f o l = λ s u. h s u.0
step_gives e es m clash (Some v) h f o l = absurd (cc l)

nothing_to_do : (m : Map) → IsMostGeneral [] []
nothing_to_do m = record {
  unifies = tt;
  general = λ s h k. refl;
  of_them = λ k i. absurd (cc i);
  kept = λ j k i. inl (in_one_only k j i);
  gone = λ j k i. absurd (cc i);
  once = refl;
  older = λ j k q. omega (arith, same_variable j k q);
}
  where
    same_variable : (j k : ℕ) → variable j ≡ variable k → j ≡ k
    same_variable j k q = cc q

turn_gives : (es : List Equation) (m : Map) (r : Option Map) → HoldsAfter GivesFrom (turn_of es m) r → Gives es m r
turn_gives [] m None l = absurd (cc l)
turn_gives [] m (Some v) l = let q : m ≡ v = cc l in ([], (sym q ∙ sym (followed_by_empty m), nothing_to_do m))
turn_gives (e ∷ es) m r l = step_gives e es m (step e.0 e.1) r (step_says e.0 e.1) (step_fits e.0 e.1) (step_older e.0 e.1) l

-- what unification gives
pub solved_gives : (es : List Equation) (m : Map) → Gives es m (solve_equations es m)
solved_gives es m = by_turns GivesFrom (λ s r l. turn_gives s.left s.map r l) es m

-- a map that is there already doesn't matter: the result is put after it
abbrev PutAfter : Map → UnifierState → Option Map → Type 0
PutAfter m s r = solve_equations s.left (compose m s.map) ≡ compose_result m r

step_put_after : (m : Map) (e : Equation) (es : List Equation) (n : Map) (x : Step) (r : Option Map) → HoldsAfter (PutAfter m) (after_step x es n) r →
    solve_by_step x es (compose m n) ≡ compose_result m r
step_put_after m e es n delete r l = l
step_put_after m e es n (decompose us) r l = l
step_put_after m e es n (eliminate k t) r l = ap (solve_equations (equations_under (binding k t) es)) (followed_grouped m n (binding k t)) ∙ l
step_put_after m e es n clash r l = ap (compose_result m) l

turn_put_after : (m : Map) (es : List Equation) (n : Map) (r : Option Map) → HoldsAfter (PutAfter m) (turn_of es n) r →
    solve_equations es (compose m n) ≡ compose_result m r
turn_put_after m [] n r l = solved_none_left (compose m n) ∙ ap (compose_result m) l
turn_put_after m (e ∷ es) n r l = solved_step e es (compose m n) ∙ step_put_after m e es n (step e.0 e.1) r l

pub solved_followed : (m : Map) (es : List Equation) (n : Map) → solve_equations es (compose m n) ≡ compose_result m (solve_equations es n)
solved_followed m es n = by_turns (PutAfter m) (λ s r l. turn_put_after m s.left s.map r l) es n

pub solved_from : (es : List Equation) (m : Map) → solve_equations es m ≡ compose_result m (solve_equations es [])
solved_from es m = ap (solve_equations es) (sym (followed_by_empty m)) ∙ solved_followed m es []

-- some equations and then others under the map that came
abbrev InParts : List Equation → UnifierState → Option Map → Type 0
InParts fs s r = solve_equations (s.left ++ equations_under s.map fs) s.map ≡ solve_after fs r

step_in_parts : (fs es : List Equation) (m : Map) (x : Step) (r : Option Map) → HoldsAfter (InParts fs) (after_step x es m) r →
    solve_by_step x (es ++ equations_under m fs) m ≡ solve_after fs r
step_in_parts fs es m delete r l = l
step_in_parts fs es m (decompose us) r l = ap (λ z. solve_equations z m) (sym (append_assoc us es (equations_under m fs))) ∙ l
step_in_parts fs es m (eliminate n t) r l =
    ap (λ z. solve_equations z (compose m (binding n t)))
    (under_append (binding n t) es (equations_under m fs) ∙ ap (λ z. equations_under (binding n t) es ++ z) (sym (under_followed m (binding n t) fs))) ∙ l
step_in_parts fs es m clash r l = ap (solve_after fs) l

turn_in_parts : (fs es : List Equation) (m : Map) (r : Option Map) → HoldsAfter (InParts fs) (turn_of es m) r →
    solve_equations (es ++ equations_under m fs) m ≡ solve_after fs r
turn_in_parts fs [] m r l = ap (solve_after fs) l
turn_in_parts fs (e ∷ es) m r l = solved_step e (es ++ equations_under m fs) m ∙ step_in_parts fs es m (step e.0 e.1) r l

pub solved_in_parts : (es fs : List Equation) (m : Map) → solve_equations (es ++ equations_under m fs) m ≡ solve_after fs (solve_equations es m)
solved_in_parts es fs m = by_turns (InParts fs) (λ s r l. turn_in_parts fs s.left s.map r l) es m

pub mgu_in_parts : (es fs : List Equation) → solve_equations (es ++ fs) [] ≡ solve_after fs (solve_equations es [])
mgu_in_parts es fs = ap (λ z. solve_equations (es ++ z) []) (sym (under_empty fs)) ∙ solved_in_parts es fs []
