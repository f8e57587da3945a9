-- What unification gives: a most general unifier whose replaced variables are gone, or none where there is no unifier.
use Rattle.std.specs.Prelude.{◌≡◌, ◌≢◌, ℕ, ◌≤◌, ◌<◌, true, false, Bool, cond, nat_lt, ◌⊎◌, List, [], ◌∷◌, ◌++◌, Option, Some, None}
use Rattle.std.proofs.Common.{inl, inr, refl, sym, ap, ◌∙◌, subst, arith}
use Rattle.std.proofs.lemmas.Bool.{ltb-true, ltb-false}
use Rattle.std.proofs.lemmas.Bool.Decides.{eqb_tells}
use Rattle.ml_term.specs.Tree.{Tree, variable, integer, atom, compound, has, variables, substitute}
use Rattle.ml_term.specs.Unify.{Equation, Map, Step, delete, decompose, eliminate, clash, step, value_of, binding}
use Rattle.ml_term.specs.Keys.{are_different}
use Rattle.ml_term.specs.Unifiers.{Unifies, equations_under, compose, replaced_variables}
use Rattle.ml_term.proofs.DistinctCounts.{In}
use Rattle.ml_term.proofs.UnificationEnds.{in_left, in_right, equation_variables, equations_variables, equations_either, equations_after, Fits}
use Rattle.ml_term.proofs.Substitutions.{twice, alike, comes}
use Rattle.ml_term.proofs.UnificationSteps.{Says, unifies_append, unifies_front, unifies_back, unifies_each, unifies_before, says_of_itself, looked_up}
use Rattle.ml_term.proofs.MapComposition.{value_of_followed}

-- a step replaces no variable by a younger one
abbrev pub IsOlder : Step → Type 0
IsOlder (eliminate n t) = (j : ℕ) → t ≡ variable j → j < n
IsOlder _ = Unit {0}

cond_older : (b : Bool) (x y : Step) → (b ≡ true → IsOlder x) → (b ≡ false → IsOlder y) → IsOlder (cond b x y)
cond_older true x y h k = h refl
cond_older false x y h k = k refl

two_older : (m n : ℕ) → IsOlder (step (variable m) (variable n))
two_older m n = elim (eqb_tells m n) [
  | inl e ↦ rw e.0 tt
  | inr e ↦ rw e.0 (cond_older (nat_lt m n) (eliminate n (variable m)) (eliminate m (variable n))
      (λ l j q. let p : m ≡ j = cc q in omega (arith, ltb-true m n l, p))
      (λ l j q. let p : n ≡ j = cc q in omega (arith, ltb-false m n l, p, e.1)))
]

pub step_older : (t u : Tree) → IsOlder (step t u)
step_older (variable m) (variable n) = two_older m n
step_older (variable m) (integer z) = λ j q. absurd (cc q)
step_older (variable m) (atom f) = λ j q. absurd (cc q)
step_older (variable m) (compound f us) = cond_older (has m (variables (compound f us))) clash (eliminate m (compound f us)) (λ e. tt) (λ e j q. absurd (cc q))
step_older (integer z) (variable m) = λ j q. absurd (cc q)
step_older (atom f) (variable m) = λ j q. absurd (cc q)
step_older (compound f us) (variable m) = cond_older (has m (variables (compound f us))) clash (eliminate m (compound f us)) (λ e. tt) (λ e j q. absurd (cc q))
step_older (integer y) (integer z) = cond_older _ delete clash (λ e. tt) (λ e. tt)
step_older (atom f) (atom g) = cond_older _ delete clash (λ e. tt) (λ e. tt)
step_older (compound f ts) (compound g us) = cond_older _ (decompose _) clash (λ e. tt) (λ e. tt)
step_older (integer y) (atom g) = tt
step_older (integer y) (compound g us) = tt
step_older (atom f) (integer z) = tt
step_older (atom f) (compound g us) = tt
step_older (compound f ts) (integer z) = tt
step_older (compound f ts) (atom g) = tt

-- a most general unifier of some equations, with replaced variables gone, each replaced once, and none that the equations don't have
pub record IsMostGeneral (w : Map) (es : List Equation) : Type 0 where
  pub unifies : Unifies (value_of w) es
  pub general : (s : ℕ → Tree) → Unifies s es → (k : ℕ) → substitute s (value_of w k) ≡ s k
  pub of_them : (k : ℕ) → In k (replaced_variables w) → In k (equations_variables es)
  pub kept : (j k : ℕ) → In k (variables (value_of w j)) → (k ≡ j) ⊎ In k (equations_variables es)
  pub gone : (j k : ℕ) → In k (replaced_variables w) → In k (variables (value_of w j)) → ⊥
  pub once : are_different (replaced_variables w) ≡ true
  pub older : (j k : ℕ) → value_of w j ≡ variable k → k ≤ j

-- what a result says of the equations that it came from
abbrev pub Gives : List Equation → Map → Option Map → Type 0
Gives es m None = (s : ℕ → Tree) → Unifies s es → ⊥
Gives es m (Some v) = (w : Map) × ((v ≡ compose m w) × IsMostGeneral w es)

unifies_alike : (s r : ℕ → Tree) (es : List Equation) → ((k : ℕ) → s k ≡ r k) → Unifies r es → Unifies s es
unifies_alike s r [] h u = tt
unifies_alike s r (e ∷ es) h u = (alike s r e.0 (λ k i. h k) ∙ (u.0 ∙ sym (alike s r e.1 (λ k i. h k))), unifies_alike s r es h u.1)

pub with_dropped : (e : Equation) (es : List Equation) (w : Map) → Says delete e.0 e.1 → IsMostGeneral w es → IsMostGeneral w (e ∷ es)
with_dropped e es w h u = record {
  unifies = (h (value_of w), u.unifies);
  general = λ s k. u.general s k.1;
  of_them = λ k i. in_right k (equation_variables e) (equations_variables es) (u.of_them k i);
  kept = λ j k i. elim (u.kept j k i) [ inl q ↦ inl q | inr q ↦ inr (in_right k (equation_variables e) (equations_variables es) q) ];
  gone = u.gone;
  once = u.once;
  older = u.older;
}

pub with_split : (e : Equation) (us es : List Equation) (w : Map) → Says (decompose us) e.0 e.1 →
    ((k : ℕ) → In k (equations_variables us) → In k (equation_variables e)) → IsMostGeneral w (us ++ es)
    → IsMostGeneral w (e ∷ es)
with_split e us es w h f u =
    let at : (k : ℕ) → In k (equations_variables (us ++ es)) →
    In k (equation_variables e ++ equations_variables es) = λ k i. elim (equations_either k us es i) [
      | inl q ↦ in_left k (equation_variables e) (equations_variables es) (f k q)
      | inr q ↦ in_right k (equation_variables e) (equations_variables es) q
    ] in
    record {
      unifies = (h.0 (value_of w) (unifies_front (value_of w) us es u.unifies), unifies_back (value_of w) us es u.unifies);
      general = λ s k. u.general s (unifies_append s us es (h.1 s k.0) k.1);
      of_them = λ k i. at k (u.of_them k i);
      kept = λ j k i. elim (u.kept j k i) [ inl q ↦ inl q | inr q ↦ inr (at k q) ];
      gone = u.gone;
      once = u.once;
      older = u.older;
    }

pub from_variable : (s : ℕ → Tree) (t : Tree) (k : ℕ) → substitute s t ≡ variable k → (i : ℕ) × ((t ≡ variable i) × (s i ≡ variable k))
from_variable s (variable i) k e = (i, (refl, e))
from_variable s (integer z) k e = absurd (cc e)
from_variable s (atom f) k e = absurd (cc e)
from_variable s (compound f ts) k e = absurd (cc e)

-- a variable of what one binding has for a variable
bound_kept : (n : ℕ) (t : Tree) (j k : ℕ) → In k (variables (value_of (binding n t) j)) → (k ≡ j × (n ≢ j)) ⊎ (In k (variables t) × (n ≡ j))
bound_kept n t j k h = elim (eqb_tells n j) [
  | inl q ↦ inr (rw q.0 at h, q.1)
  | inr q ↦ inl (grind (arith, eqb_tells j k, rw q.0 at h), q.1)
]

pub not_in_false : (k : ℕ) (ms : List ℕ) (b : Bool) → has k ms ≡ b → (In k ms → ⊥) → b ≡ false
not_in_false k ms true e h = absurd (h e)
not_in_false k ms false e h = refl

member_of : (k n : ℕ) (ms : List ℕ) → In k (n ∷ ms) → (k ≡ n) ⊎ In k ms
member_of k n ms h = elim (eqb_tells n k) [ inl q ↦ inl (sym q.1) | inr q ↦ inr (grind (arith, q, h)) ]

module _ (e : Equation) (es : List Equation) (n : ℕ) (t : Tree) (w : Map) (says : Says (eliminate n t) e.0 e.1)
    (fits : Fits (equation_variables e) 0 (eliminate n t)) (is_older : IsOlder (eliminate n t))
    (u : IsMostGeneral w (equations_under (binding n t) es)) where
  came : (k : ℕ) → In k (equations_variables (equations_under (binding n t) es)) → In k (equation_variables e ++ equations_variables es) × (k ≢ n)
  came k i = elim (equations_after k n t es i) [
    | inl q ↦ (in_left k (equation_variables e) (equations_variables es) (fits.1 k q).0, (fits.1 k q).1)
    | inr q ↦ (in_right k (equation_variables e) (equations_variables es) q.0, q.1)
  ]

  bound_of_them : (k : ℕ) → In k (n ∷ replaced_variables w) → In k (equation_variables e ++ equations_variables es)
  bound_of_them k i = elim (member_of k n (replaced_variables w) i) [
    | inl q ↦ in_left k (equation_variables e) (equations_variables es) (subst (λ z. In z (equation_variables e)) (sym q) fits.0)
    | inr q ↦ (came k (u.of_them k q)).0
  ]

  -- where a variable of a term comes from that one replacement and then the others leave
  left_of : (j k : ℕ) → In k (variables (value_of (compose (binding n t) w) j)) →
      (k ≡ j × (n ≢ j)) ⊎ (In k (equation_variables e ++ equations_variables es) × (k ≢ n))
  left_of j k i =
      let c = comes (value_of w) k (value_of (binding n t) j) (subst (λ z. In k (variables z)) (value_of_followed (binding n t) w j) i) in
      elim (u.kept c.0 k c.1.1) [
        | inl q ↦ elim (bound_kept n t j k (subst (λ z. In z (variables (value_of (binding n t) j))) (sym q) c.1.0)) [
          | inl p ↦ inl p
          | inr p ↦ inr (in_left k (equation_variables e) (equations_variables es) (fits.1 k p.0).0, (fits.1 k p.0).1)
        ]
        | inr q ↦ inr (came k q)
      ]

  bound_gone : (j k : ℕ) → In k (n ∷ replaced_variables w) → In k (variables (value_of (compose (binding n t) w) j)) → ⊥
  bound_gone j k i h = elim (member_of k n (replaced_variables w) i) [
    | inl q ↦ elim (left_of j k h) [ inl p ↦ p.1 (sym q ∙ p.0) | inr p ↦ p.1 q ]
    | inr q ↦
        let c = comes (value_of w) k (value_of (binding n t) j) (subst (λ z. In k (variables z)) (value_of_followed (binding n t) w j) h) in
        u.gone c.0 k q c.1.1
  ]

  bound_once : are_different (n ∷ replaced_variables w) ≡ true
  bound_once =
      let f : has n (replaced_variables w) ≡ false = not_in_false n (replaced_variables w) (has n (replaced_variables w)) refl
      (λ i. (came n (u.of_them n i)).1 refl) in
      rw f u.once

  bound_older : (j k : ℕ) → value_of (compose (binding n t) w) j ≡ variable k → k ≤ j
  bound_older j k q =
      let p : substitute (value_of w) (value_of (binding n t) j) ≡ variable k = sym (value_of_followed (binding n t) w j) ∙ q in
      elim (eqb_tells n j) [
        | inl d ↦ let o = from_variable (value_of w) t k (rw d.0 at p) in omega (arith, u.older o.0 k o.1.1, is_older o.0 o.1.0, d.1)
        | inr d ↦ u.older j k (rw d.0 at p)
      ]

  pub with_bound : IsMostGeneral (compose (binding n t) w) (e ∷ es)
  with_bound = record {
    unifies = unifies_alike (value_of (compose (binding n t) w)) (λ k. substitute (value_of w) (value_of (binding n t) k)) (e ∷ es)
        (value_of_followed (binding n t) w) (
          says.1 (λ k. substitute (value_of w) (value_of (binding n t) k)) (says_of_itself (value_of w) n t says.0),
          unifies_before (value_of w) n t es u.unifies,
        );
    general = λ s h k.
        let q : s n ≡ substitute s t = says.2 s h.0 in
        ap (substitute s) (value_of_followed (binding n t) w k)
        ∙ (twice s (value_of w) (value_of (binding n t) k)
        ∙ (alike (λ i. substitute s (value_of w i)) s (value_of (binding n t) k) (λ i o. u.general s (unifies_each s n t es q h.1) i)
        ∙ looked_up s n k t q));
    of_them = bound_of_them;
    kept = λ j k i. elim (left_of j k i) [ inl p ↦ inl p.0 | inr p ↦ inr p.0 ];
    gone = bound_gone;
    once = bound_once;
    older = bound_older;
  }
