-- The equations that unification on a heap has left to solve, and what a rule does with the first.
-- The code keeps pairs of cells and binds one; here these are equations between trees, and a
-- variable is replaced in all of them.
use Rattle.std.specs.Prelude.{◌≡◌, ℕ, ◌<◌, List, [], ◌∷◌, ◌++◌, map}
use Rattle.ml_term.specs.Tree.{Tree}
use Rattle.ml_term.specs.Unify.{Equation, step, decompose, eliminate, apply, binding}
use Rattle.ml_term.specs.Unifiers.{equations_under}
use Rattle.ml_heap.specs.Changes.{tree_in}

-- the equations of some pairs of cells, the latest pair first, before others
abbrev pub stack_equations : List Tree → List Equation → List (ℕ × ℕ) → List Equation
stack_equations ts es [] = es
stack_equations ts es (p ∷ ps) = stack_equations ts ((tree_in ts p.0, tree_in ts p.1) ∷ es) ps

-- the equations that some pairs of cells have left, the latest pair first
abbrev pub equations_left : List Tree → List (ℕ × ℕ) → List Equation
equations_left ts ps = stack_equations ts [] ps

-- whether all pairs are of cells below a place
abbrev pub AreBelow : ℕ → List (ℕ × ℕ) → Type 0
AreBelow n [] = Unit {0}
AreBelow n (p ∷ ps) = (p.0 < n) × (p.1 < n) × AreBelow n ps

-- What a rule of unification does with the equation of two trees, where some trees are kept and
-- more equations wait: equal sides are dropped, a compound's equation gives those of its arguments,
-- and a variable is replaced in all trees and equations.
pub data IsTurn (ts : List Tree) (t u : Tree) (es : List Equation) (ts' : List Tree)
    (es' : List Equation) : Type 0 where
  same_sides : t ≡ u → ts' ≡ ts → es' ≡ es → IsTurn ts t u es ts' es'
  sides_split : (us : List Equation) → step t u ≡ decompose us → ts' ≡ ts → es' ≡ us ++ es →
      IsTurn ts t u es ts' es'
  variable_replaced : (n : ℕ) (w : Tree) → step t u ≡ eliminate n w →
      ts' ≡ map (apply (binding n w)) ts → es' ≡ equations_under (binding n w) es →
      IsTurn ts t u es ts' es'
