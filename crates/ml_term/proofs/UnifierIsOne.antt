-- The map of unification is one: it depends only on which substitutions make the equations' sides equal.
use Rattle.std.specs.Prelude.{◌≡◌, ℕ, ◌≤◌, false, ◌↔◌, ◌⊎◌, List, [], ◌∷◌, ◌++◌, Option, Some, None, IsSome}
use Rattle.std.specs.Option.{is_some}
use Rattle.std.proofs.Common.{inl, inr, refl, sym, ap, ◌∙◌, subst, arith}
use Rattle.std.proofs.lemmas.Bool.Decides.{eqb_tells}
use Rattle.ml_term.specs.Tree.{Tree, variable, has, variables, substitute}
use Rattle.ml_term.specs.Unify.{Equation, Map, value_of, apply, mgu, unifier}
use Rattle.ml_term.specs.Unifiers.{Unifies, HaveTheSameUnifiers, replaced_variables}
use Rattle.ml_term.proofs.DistinctCounts.{In}
use Rattle.ml_term.proofs.Substitutions.{twice, alike, as_it_is, comes}
use Rattle.ml_term.proofs.MostGeneralUnifiers.{IsMostGeneral, Gives, from_variable, not_in_false}
use Rattle.ml_term.proofs.UnificationRules.{solved_gives}

empty_first : (w : Map) → [] ++ w ≡ w
empty_first w = refl

given : (es : List Equation) (r : Option Map) → Gives es [] r → (m : Map) → r ≡ Some m → IsMostGeneral m es
given es None g m e = absurd (cc e)
given es (Some v) g m e = let q : g.0 ≡ m = sym g.1.0 ∙ cc e in subst (λ w. IsMostGeneral w es) q g.1.1

pub is_most_general : (es : List Equation) (m : Map) → mgu es ≡ Some m → IsMostGeneral m es
is_most_general es m e = given es (mgu es) (solved_gives es []) m e

none_given : (es : List Equation) (r : Option Map) → Gives es [] r → r ≡ None → (s : ℕ → Tree) → Unifies s es → ⊥
none_given es None g e = g
none_given es (Some v) g e = absurd (cc e)

pub no_unifier : (es : List Equation) → mgu es ≡ None → (s : ℕ → Tree) → Unifies s es → ⊥
no_unifier es = none_given es (mgu es) (solved_gives es [])

pub some_or_none : (r : Option Map) → ((m : Map) × (r ≡ Some m)) ⊎ (r ≡ None)
some_or_none None = inr refl
some_or_none (Some m) = inl (m, refl)

pub unifier_found : (es : List Equation) (s : ℕ → Tree) → Unifies s es → (m : Map) × (mgu es ≡ Some m)
unifier_found es s u = elim (some_or_none (mgu es)) [ inl h ↦ h | inr e ↦ absurd (no_unifier es e s u) ]

some_of : (r : Option Map) → IsSome r → (m : Map) × (r ≡ Some m)
some_of None h = absurd (cc h)
some_of (Some m) h = (m, refl)

pub unified_exactly : (es : List Equation) → IsSome (mgu es) ↔ ((s : ℕ → Tree) × Unifies s es)
unified_exactly es = (
  (λ h. let f = some_of (mgu es) h in (value_of f.0, (is_most_general es f.0 f.1).unifies)),
  (λ h. let f = unifier_found es h.0 h.1 in ap is_some f.1),
)

pub general_on_terms : (es : List Equation) (m : Map) (s : ℕ → Tree) → mgu es ≡ Some m → Unifies s es → (t : Tree) → substitute s (apply m t) ≡ substitute s t
general_on_terms es m s e u t = twice s (value_of m) t ∙ alike (λ k. substitute s (value_of m k)) s t (λ k i. (is_most_general es m e).general s u k)

pub idempotent : (es : List Equation) (m : Map) → mgu es ≡ Some m → (t : Tree) → apply m (apply m t) ≡ apply m t
idempotent es m e t = general_on_terms es m (value_of m) e (is_most_general es m e).unifies t

pub none_left_in_terms : (es : List Equation) (m : Map) (k : ℕ) (t : Tree) → mgu es ≡ Some m → In k (replaced_variables m) → In k (variables (apply m t)) → ⊥
none_left_in_terms es m k t e i h = let c = comes (value_of m) k t h in (is_most_general es m e).gone c.0 k i c.1.1

pub not_replaced : (m : Map) (k : ℕ) → has k (replaced_variables m) ≡ false → value_of m k ≡ variable k
not_replaced [] k h = refl
not_replaced (b ∷ m) k h = elim (eqb_tells b.0 k) [ inl q ↦ absurd (cc (rw q.0 at h)) | inr q ↦ rw q.0 (not_replaced m k (rw q.0 at h)) ]

pub left_as_it_is : (es : List Equation) (m : Map) → mgu es ≡ Some m → (j k : ℕ) → In k (variables (value_of m j)) → value_of m k ≡ variable k
left_as_it_is es m e j k i = not_replaced m k (not_in_false k (replaced_variables m) (has k (replaced_variables m)) refl
    (λ h. (is_most_general es m e).gone j k h i))

module _ (es fs : List Equation) (m n : Map) (e : mgu es ≡ Some m) (f : mgu fs ≡ Some n) (same : HaveTheSameUnifiers es fs) where
  absorbed : (k : ℕ) → substitute (value_of m) (value_of n k) ≡ value_of m k
  absorbed k = (is_most_general fs n f).general (value_of m) ((same (value_of m)).0 (is_most_general es m e).unifies) k

  absorbed_too : (k : ℕ) → substitute (value_of n) (value_of m k) ≡ value_of n k
  absorbed_too k = (is_most_general es m e).general (value_of n) ((same (value_of n)).1 (is_most_general fs n f).unifies) k

  -- a variable that the one leaves in its terms is left by the other too
  left_by_both : (j k : ℕ) → In k (variables (value_of m j)) → value_of n k ≡ variable k
  left_by_both j k i =
      let o = from_variable (value_of m) (value_of n k) k (absorbed k ∙ left_as_it_is es m e j k i) in
      let low : o.0 ≤ k = (is_most_general fs n f).older k o.0 o.1.0 in
      let high : k ≤ o.0 = (is_most_general es m e).older o.0 k o.1.1 in
      let q : o.0 ≡ k = omega arith in
      o.1.0 ∙ ap variable q

  pub one_map : (k : ℕ) → value_of m k ≡ value_of n k
  one_map k = sym (alike (value_of n) variable (value_of m k) (left_by_both k) ∙ as_it_is (value_of m k)) ∙ absorbed_too k

pub swapped : (t u : Tree) → HaveTheSameUnifiers ((t, u) ∷ []) ((u, t) ∷ [])
swapped t u s = ((λ h. (sym h.0, tt)), (λ h. (sym h.0, tt)))

pub both_found : (es fs : List Equation) → HaveTheSameUnifiers es fs → IsSome (mgu es) ↔ IsSome (mgu fs)
both_found es fs same = (
  (λ h. let s = (unified_exactly es).0 h in (unified_exactly fs).1 (s.0, (same s.0).0 s.1)),
  (λ h. let s = (unified_exactly fs).0 h in (unified_exactly es).1 (s.0, (same s.0).1 s.1)),
)

pub terms_unified_exactly : (t u : Tree) → IsSome (unifier t u) ↔ ((s : ℕ → Tree) × (substitute s t ≡ substitute s u))
terms_unified_exactly t u = (
  (λ h. let s = (unified_exactly ((t, u) ∷ [])).0 h in (s.0, s.1.0)),
  (λ h. (unified_exactly ((t, u) ∷ [])).1 (h.0, (h.1, tt))),
)
