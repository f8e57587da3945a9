-- The checks of `functor/3`.
use Rattle.std.specs.Prelude.{◌≡◌, ℕ, ◌+◌, ◌<◌, pos, Bool, true, false, ◌&&◌, ◌||◌, not, [], ◌∷◌, codes, Some, None}
use Rattle.std.proofs.Common.{refl, sym, subst}
use Rattle.ml_term.specs.Tree.{Tree, variable, integer, atom, compound}
use Rattle.ml_term.specs.declared.term.Term.{Term}
use Rattle.ml_heap.specs.Changes.{Changes}
use Rattle.ml_search.specs.Builtins.{unify_result, result_unless, functor, functor_fault, new_term, name_term}
use Rattle.ml_search.specs.Errors.{instantiation_error, type_error, domain_error, arity_error}
use Rattle.ml_search.specs.Program.{arity_of}
use Rattle.ml_search.specs.TypeTests.{is_variable, is_integer, is_atom, is_compound, is_negative, is_over, number_of}
use Rattle.ml_builtin.specs.declared.outcome.Outcome.{Outcome}
use Rattle.ml_builtin.specs.declared.outcome.Outcome.TheVariants.{Raised}
use Rattle.ml_builtin.specs.Outcomes.{Agrees}
use Rattle.ml_builtin.specs.inside.Faults.{IsFault}
use Rattle.ml_builtin.proofs.FaultChecks.{not_both, not_false, passed, raised_result, sound_result}
use Rattle.ml_builtin.proofs.NumberTests.{over_zero}

either_first : (a b : Bool) → (a || b) ≡ false → a ≡ false
either_first true b e = absurd (cc e)
either_first false b e = refl

must_be_atom : (n : Tree) → is_variable n ≡ false → is_compound n ≡ false → is_integer n ≡ false → is_atom n ≡ true
must_be_atom (variable k) x y z = absurd (cc x)
must_be_atom (integer k) x y z = absurd (cc z)
must_be_atom (atom f) x y z = refl
must_be_atom (compound f ts) x y z = absurd (cc y)

-- `functor/3`
module _ (n a : Tree) where
  module _ (unbound : (is_variable n || is_variable a) ≡ false) where
    module _ (number : is_integer a ≡ true) where
      module _ (name : is_compound n ≡ false) where
        module _ (low : is_negative a ≡ false) where
          module _ (high : is_over 255 a ≡ false) where
            pub functor_named_by_integer : (is_over 0 a && is_integer n) ≡ true → functor_fault n a ≡ Some (type_error (codes "atom") n)
            functor_named_by_integer e = rw (unbound, number, name, low, high, e) refl

            pub functor_has_none : (is_over 0 a && is_integer n) ≡ false → functor_fault n a ≡ None
            functor_has_none e = rw (unbound, number, name, low, high, e) refl

          pub functor_too_many : is_over 255 a ≡ true → functor_fault n a ≡ Some arity_error
          functor_too_many e = rw (unbound, number, name, low, e) refl

        pub functor_negative : is_negative a ≡ true → functor_fault n a ≡ Some (domain_error (codes "not_less_than_zero") a)
        functor_negative e = rw (unbound, number, name, e) refl

      pub functor_compound : is_compound n ≡ true → functor_fault n a ≡ Some (type_error (codes "atomic") n)
      functor_compound e = rw (unbound, number, e) refl

    pub functor_no_integer : is_integer a ≡ false → functor_fault n a ≡ Some (type_error (codes "integer") a)
    functor_no_integer e = rw (unbound, e) refl

  pub functor_unbound : (is_variable n || is_variable a) ≡ true → functor_fault n a ≡ Some instantiation_error
  functor_unbound e = rw e refl

  pub functor_sound : functor_fault n a ≡ None
      → (is_integer a ≡ true) × (is_negative a ≡ false) × (is_over 255 a ≡ false) × (0 < number_of a → is_atom n ≡ true)
  functor_sound e =
      let p = passed (is_variable n || is_variable a) instantiation_error _ e in
      let q = passed (not (is_integer a)) (type_error (codes "integer") a) _ p.1 in
      let r = passed (is_compound n) (type_error (codes "atomic") n) _ q.1 in
      let s = passed (is_negative a) (domain_error (codes "not_less_than_zero") a) _ r.1 in
      let t = passed (is_over 255 a) arity_error _ s.1 in
      let u = passed (is_over 0 a && is_integer n) (type_error (codes "atom") n) _ t.1 in (
        not_false (is_integer a) q.0,
        s.0,
        t.0,
        λ l. must_be_atom n (either_first (is_variable n) (is_variable a) p.0) r.0 (not_both (is_over 0 a) (is_integer n) u.0 (over_zero a l)),
      )

  pub functor_known : (t : Tree) (next : ℕ) → is_variable t ≡ false
      → functor t n a next ≡ unify_result ((n, name_term t) ∷ (a, integer (pos (arity_of t))) ∷ []) next
  functor_known t next e = rw e refl

  pub functor_new : (t : Tree) (next : ℕ) → is_variable t ≡ true
      → functor t n a next ≡ result_unless (functor_fault n a) (unify_result ((t, new_term n (number_of a) next) ∷ []) (next + number_of a))
  functor_new t next e = rw e refl

module _ (h h' : Changes) (t n a : Tree) (next : ℕ) where
  pub functor_told : (o : Outcome) → is_variable t ≡ false
      → Agrees h h' (unify_result ((n, name_term t) ∷ (a, integer (pos (arity_of t))) ∷ []) next) o → Agrees h h' (functor t n a next) o
  functor_told o e x = subst (λ r. Agrees h h' r o) (sym (functor_known n a t next e)) x

  pub functor_raised : (u : Term) → is_variable t ≡ true → IsFault (functor_fault n a) (Some u) → h' ≡ h → Agrees h h' (functor t n a next) (Raised u)
  functor_raised u e f k =
      subst (λ r. Agrees h h' r (Raised u)) (sym (functor_new n a t next e))
      (raised_result h h' (functor_fault n a) (unify_result ((t, new_term n (number_of a) next) ∷ []) (next + number_of a)) u f k)

  pub functor_made : (o : Outcome) → is_variable t ≡ true → IsFault (functor_fault n a) None
      → Agrees h h' (unify_result ((t, new_term n (number_of a) next) ∷ []) (next + number_of a)) o → Agrees h h' (functor t n a next) o
  functor_made o e f x =
      subst (λ r. Agrees h h' r o) (sym (functor_new n a t next e))
      (sound_result h h' (functor_fault n a) (unify_result ((t, new_term n (number_of a) next) ∷ []) (next + number_of a)) o f x)
