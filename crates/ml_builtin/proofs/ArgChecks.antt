-- The checks of `arg/3`, and the argument that it unifies.
use Rattle.std.specs.Prelude.{◌≡◌, ℕ, nat_le, Bool, true, false, ◌&&◌, ◌||◌, if◌then◌else◌, [], ◌∷◌, codes, Some, None}
use Rattle.std.proofs.Common.{refl, sym, subst}
use Rattle.ml_term.specs.Tree.{Tree}
use Rattle.ml_term.specs.Keys.{argument, arguments}
use Rattle.ml_term.specs.declared.term.Term.{Term}
use Rattle.ml_heap.specs.Changes.{Changes, stands_for}
use Rattle.ml_search.specs.Builtins.{fails, unify_result, arg, arg_fault}
use Rattle.ml_search.specs.Errors.{instantiation_error, type_error, domain_error}
use Rattle.ml_search.specs.Program.{arity_of}
use Rattle.ml_search.specs.TypeTests.{is_variable, is_integer, is_compound, is_negative, number_of}
use Rattle.ml_builtin.specs.declared.outcome.Outcome.{Outcome}
use Rattle.ml_builtin.specs.declared.outcome.Outcome.TheVariants.{Failed, Raised}
use Rattle.ml_builtin.specs.Outcomes.{Agrees}
use Rattle.ml_builtin.specs.inside.Faults.{IsFault}
use Rattle.ml_builtin.proofs.FaultChecks.{no_fault, raised_result, sound_result}

-- `arg/3`
module _ (n t : Tree) where
  module _ (unbound : (is_variable n || is_variable t) ≡ false) where
    module _ (number : is_integer n ≡ true) where
      module _ (whole : is_compound t ≡ true) where
        pub arg_negative : is_negative n ≡ true → arg_fault n t ≡ Some (domain_error (codes "not_less_than_zero") n)
        arg_negative e = rw (unbound, number, whole, e) refl

        pub arg_has_none : is_negative n ≡ false → arg_fault n t ≡ None
        arg_has_none e = rw (unbound, number, whole, e) refl

      pub arg_no_compound : is_compound t ≡ false → arg_fault n t ≡ Some (type_error (codes "compound") t)
      arg_no_compound e = rw (unbound, number, e) refl

    pub arg_no_integer : is_integer n ≡ false → arg_fault n t ≡ Some (type_error (codes "integer") n)
    arg_no_integer e = rw (unbound, e) refl

  pub arg_unbound : (is_variable n || is_variable t) ≡ true → arg_fault n t ≡ Some instantiation_error
  arg_unbound e = rw e refl

  abbrev names : Bool
  names = nat_le 1 (number_of n) && nat_le (number_of n) (arity_of t)

  pub arg_fails : (h h' : Changes) (a : Tree) (next : ℕ) → arg_fault n t ≡ None → names ≡ false → Agrees h h' (arg n t a next) Failed
  arg_fails h h' a next f e = sound_result h h' (arg_fault n t)
      (if names then unify_result ((a, argument (number_of n) (arguments t)) ∷ []) next else fails) Failed (no_fault (arg_fault n t) f)
      (subst (λ b. Agrees h h' (if b then unify_result ((a, argument (number_of n) (arguments t)) ∷ []) next else fails) Failed) (sym e) tt)

  pub arg_unifies : (h h' : Changes) (a : Tree) (next : ℕ) (o : Outcome) → arg_fault n t ≡ None → names ≡ true
      → Agrees h h' (unify_result ((a, argument (number_of n) (arguments t)) ∷ []) next) o → Agrees h h' (arg n t a next) o
  arg_unifies h h' a next o f e x = sound_result h h' (arg_fault n t)
      (if names then unify_result ((a, argument (number_of n) (arguments t)) ∷ []) next else fails) o (no_fault (arg_fault n t) f)
      (subst (λ b. Agrees h h' (if b then unify_result ((a, argument (number_of n) (arguments t)) ∷ []) next else fails) o) (sym e) x)

  pub arg_raised : (h h' : Changes) (a : Tree) (next : ℕ) (u : Term) → IsFault (arg_fault n t) (Some u) → h' ≡ h → Agrees h h' (arg n t a next) (Raised u)
  arg_raised h h' a next u f e =
      raised_result h h' (arg_fault n t) (if names then unify_result ((a, argument (number_of n) (arguments t)) ∷ []) next else fails) u f e

-- an argument's cell is unified
pub argument_unified : (h h' : Changes) (a r : ℕ) (t : Tree) (next : ℕ) (o : Outcome) → stands_for h r ≡ t
    → Agrees h h' (unify_result ((stands_for h a, stands_for h r) ∷ []) next) o → Agrees h h' (unify_result ((stands_for h a, t) ∷ []) next) o
argument_unified h h' a r t next o e x = subst (λ u. Agrees h h' (unify_result ((stands_for h a, u) ∷ []) next) o) e x
