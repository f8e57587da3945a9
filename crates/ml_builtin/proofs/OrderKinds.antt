-- The order of two terms by their types.
use Rattle.std.specs.Prelude.{◌≡◌, ℕ, ◌+◌, ◌<◌, ℤ, Bool, true, false, List}
use Rattle.std.specs.declared.cmp.Ordering.TheVariants.{Less, Equal, Greater}
use Rattle.std.specs.Ordering.{nat_cmp, int_cmp, is_ne}
use Rattle.std.specs.declared.cmp.Ordering.{Ordering}
use Rattle.std.specs.Cmp.Lexicographic.{slice_cmp}
use Rattle.std.proofs.Common.{refl, sym, ap, ◌∙◌, arith}
use Rattle.ml_term.specs.Tree.{Tree, Trees, variable, integer, atom, compound, nodes}
use Rattle.ml_term.specs.Order.{tree_cmp}
use Rattle.ml_term.proofs.TermSizes.{nodes_above_zero}
use Rattle.ml_heap.specs.Changes.{IsVariable, number}

is_numbered : (t : Tree) → IsVariable t → t ≡ variable (number t)
is_numbered (variable n) v = refl
is_numbered (integer z) v = absurd v
is_numbered (atom f) v = absurd v
is_numbered (compound f ts) v = absurd v

module _ (t : Tree) (v : IsVariable t) where
  pub two_variables : (u : Tree) → IsVariable u → tree_cmp t u ≡ nat_cmp (number t) (number u)
  two_variables u w = ap (λ x. tree_cmp x u) (is_numbered t v) ∙ ap (tree_cmp (variable (number t))) (is_numbered u w)

  pub before_integer : (u : Tree) (z : ℤ) → u ≡ integer z → tree_cmp t u ≡ Less
  before_integer u z e = ap (λ x. tree_cmp x u) (is_numbered t v) ∙ ap (tree_cmp (variable (number t))) e

  pub before_atom : (u : Tree) (f : List ℕ) → u ≡ atom f → tree_cmp t u ≡ Less
  before_atom u f e = ap (λ x. tree_cmp x u) (is_numbered t v) ∙ ap (tree_cmp (variable (number t))) e

  pub before_compound : (u : Tree) (f : List ℕ) (ts : Trees) → u ≡ compound f ts → tree_cmp t u ≡ Less
  before_compound u f ts e = ap (λ x. tree_cmp x u) (is_numbered t v) ∙ ap (tree_cmp (variable (number t))) e

  pub after_variable_integer : (z : ℤ) → tree_cmp (integer z) t ≡ Greater
  after_variable_integer z = ap (tree_cmp (integer z)) (is_numbered t v)

  pub after_variable_atom : (f : List ℕ) → tree_cmp (atom f) t ≡ Greater
  after_variable_atom f = ap (tree_cmp (atom f)) (is_numbered t v)

  pub after_variable_compound : (u : Tree) (f : List ℕ) (ts : Trees) → u ≡ compound f ts → tree_cmp u t ≡ Greater
  after_variable_compound u f ts e = ap (λ x. tree_cmp x t) e ∙ ap (tree_cmp (compound f ts)) (is_numbered t v)

pub two_integers : (y z : ℤ) (u : Tree) → u ≡ integer z → tree_cmp (integer y) u ≡ int_cmp y z
two_integers y z u e = ap (tree_cmp (integer y)) e

pub integer_before_atom : (y : ℤ) (u : Tree) (f : List ℕ) → u ≡ atom f → tree_cmp (integer y) u ≡ Less
integer_before_atom y u f e = ap (tree_cmp (integer y)) e

pub integer_before_compound : (y : ℤ) (u : Tree) (f : List ℕ) (ts : Trees) → u ≡ compound f ts → tree_cmp (integer y) u ≡ Less
integer_before_compound y u f ts e = ap (tree_cmp (integer y)) e

pub atom_after_integer : (f : List ℕ) (u : Tree) (z : ℤ) → u ≡ integer z → tree_cmp (atom f) u ≡ Greater
atom_after_integer f u z e = ap (tree_cmp (atom f)) e

pub two_atoms : (f g : List ℕ) (u : Tree) → u ≡ atom g → tree_cmp (atom f) u ≡ slice_cmp nat_cmp f g
two_atoms f g u e = ap (tree_cmp (atom f)) e

pub atom_before_compound : (f : List ℕ) (u : Tree) (g : List ℕ) (ts : Trees) → u ≡ compound g ts → tree_cmp (atom f) u ≡ Less
atom_before_compound f u g ts e = ap (tree_cmp (atom f)) e

pub compound_after_integer : (t u : Tree) (f : List ℕ) (ts : Trees) (z : ℤ) → t ≡ compound f ts → u ≡ integer z → tree_cmp t u ≡ Greater
compound_after_integer t u f ts z e k = ap (λ x. tree_cmp x u) e ∙ ap (tree_cmp (compound f ts)) k

pub compound_after_atom : (t u : Tree) (f : List ℕ) (ts : Trees) (g : List ℕ) → t ≡ compound f ts → u ≡ atom g → tree_cmp t u ≡ Greater
compound_after_atom t u f ts g e k = ap (λ x. tree_cmp x u) e ∙ ap (tree_cmp (compound f ts)) k

-- a term that is taken has a node
pub one_fewer : (n : ℕ) (t : Tree) → n < n + nodes t
one_fewer n t = omega (arith, nodes_above_zero t)

-- what the test of an order says
pub not_equal : (o : Ordering) (b : Bool) → b ≡ true → b ≡ is_ne o → o ≡ Equal → ⊥
not_equal o b e f k = cc (sym e ∙ (f ∙ ap is_ne k))

pub is_equal_order : (o : Ordering) (b : Bool) → b ≡ false → b ≡ is_ne o → o ≡ Equal
is_equal_order Less b e f = absurd (cc (sym e ∙ f))
is_equal_order Equal b e f = refl
is_equal_order Greater b e f = absurd (cc (sym e ∙ f))
