-- Results of evaluations.
use Rattle.std.specs.Prelude.{◌≡◌, ℕ, ◌≤◌, ℤ, pos, negsuc, nat_lt, Bool, true, false, [], ◌∷◌}
use Rattle.std.specs.Ordering.{int_cmp}
use Rattle.std.specs.declared.cmp.Ordering.{Ordering}
use Rattle.std.proofs.Common.{refl, sym, ap, ◌∙◌, subst, arith}
use Rattle.std.proofs.lemmas.Bool.Decides.{nat_tests}
use Rattle.ml_term.specs.Tree.{Tree, integer}
use Rattle.ml_term.specs.Valid.{is_in_range}
use Rattle.ml_term.specs.declared.term.Term.{Term}
use Rattle.ml_heap.specs.Changes.{Changes, variable_count}
use Rattle.ml_search.specs.Builtins.{assign, compare_values, unify_result, test_result}
use Rattle.ml_search.specs.Evaluate.{Value, value, no_value}
use Rattle.ml_search.specs.TypeTests.{is_negative, is_over, number_of}
use Rattle.ml_builtin.specs.declared.arithmetic.Evaluated.TheVariants as evaluated
use Rattle.ml_builtin.specs.declared.outcome.Outcome.{Outcome}
use Rattle.ml_builtin.specs.declared.outcome.Outcome.TheVariants.{Raised}
use Rattle.ml_builtin.specs.Outcomes.{Agrees}
use Rattle.ml_builtin.specs.inside.Values.{IsEvaluated}

pub assign_raised : (h : Changes) (t : Tree) (v : Value) (u : Term) → IsEvaluated v (evaluated.Raised u) → Agrees h h (assign t v (variable_count h)) (Raised u)
assign_raised h t (value x) u e = absurd e
assign_raised h t (no_value f) u e = (refl, e.0, e.1)

pub assign_value : (h h' : Changes) (t : Tree) (v : Value) (y : ℤ) (next : ℕ) (o : Outcome) → IsEvaluated v (evaluated.Value y)
    → Agrees h h' (unify_result ((t, integer y) ∷ []) next) o → Agrees h h' (assign t v next) o
assign_value h h' t (value x) y next o e a = subst (λ z. Agrees h h' (unify_result ((t, integer z) ∷ []) next) o) (sym e.0) a
assign_value h h' t (no_value f) y next o e a = absurd e

pub in_range_of : (v : Value) (y : ℤ) → IsEvaluated v (evaluated.Value y) → is_in_range y ≡ true
in_range_of (value x) y e = e.1
in_range_of (no_value f) y e = absurd e

module _ (h : Changes) (p : Ordering → Bool) (v w : Value) where
  pub left_raised : (u : Term) → IsEvaluated v (evaluated.Raised u) → Agrees h h (compare_values p v w (variable_count h)) (Raised u)
  left_raised u e = by v e
    where
      by : (v : Value) → IsEvaluated v (evaluated.Raised u) → Agrees h h (compare_values p v w (variable_count h)) (Raised u)
      by (value x) e = absurd e
      by (no_value f) e = (refl, e.0, e.1)

  pub right_raised : (x : ℤ) (u : Term) → IsEvaluated v (evaluated.Value x) → IsEvaluated w (evaluated.Raised u)
      → Agrees h h (compare_values p v w (variable_count h)) (Raised u)
  right_raised x u e f = by v w e f
    where
      by : (v w : Value) → IsEvaluated v (evaluated.Value x) → IsEvaluated w (evaluated.Raised u) → Agrees h h (compare_values p v w (variable_count h))
          (Raised u)
      by (value a) (value b) e f = absurd f
      by (value a) (no_value g) e f = (refl, f.0, f.1)
      by (no_value g) w e f = absurd e

  pub both_valued : (x y : ℤ) (o : Outcome) → IsEvaluated v (evaluated.Value x) → IsEvaluated w (evaluated.Value y)
      → Agrees h h (test_result (p (int_cmp x y)) (variable_count h)) o → Agrees h h (compare_values p v w (variable_count h)) o
  both_valued x y o e f a = by v w e f
    where
      by : (v w : Value) → IsEvaluated v (evaluated.Value x) → IsEvaluated w (evaluated.Value y) → Agrees h h (compare_values p v w (variable_count h)) o
      by (value b) (value c) e f =
          subst (λ z. Agrees h h (test_result (p (int_cmp z c)) (variable_count h)) o) (sym e.0)
          (subst (λ z. Agrees h h (test_result (p (int_cmp x z)) (variable_count h)) o) (sym f.0) a)
      by (value b) (no_value g) e f = absurd f
      by (no_value g) w e f = absurd e

few : (k : ℕ) → nat_lt 255 k ≡ false → k ≤ 255
few k e = grind (arith, nat_tests)

-- a number from 0 to 255
pub small_number : (t : Tree) (z : ℤ) → t ≡ integer z → is_negative t ≡ false → is_over 255 t ≡ false → (k : ℕ) × ((z ≡ pos k) × (k ≤ 255) × (number_of t ≡ k))
small_number t (pos k) e low high = (k, (refl, few k (sym (ap (is_over 255) e) ∙ high), ap number_of e))
small_number t (negsuc k) e low high = absurd (cc (sym (ap is_negative e) ∙ low))
