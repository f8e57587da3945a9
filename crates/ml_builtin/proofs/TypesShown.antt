-- What a look shows of a term's type.
use Rattle.std.specs.Prelude.{◌≡◌, ℕ, true, false, List, [], ◌∷◌, length}
use Rattle.std.proofs.Common.{refl, ap, ◌∙◌, arith}
use Rattle.ml_term.specs.Tree.{Tree, variable, integer, atom, compound, trees_of, arity}
use Rattle.ml_heap.specs.Changes.{IsVariable, arguments_of}
use Rattle.ml_search.specs.TypeTests.{is_variable, is_integer, is_atom, is_compound, is_negative, is_over}
use Rattle.ml_search.specs.ListTerms.{is_nil}
use Rattle.ml_search.specs.Program.{arity_of}

pub variable_is : (t : Tree) → IsVariable t → is_variable t ≡ true
variable_is (variable n) v = refl
variable_is (integer z) v = absurd v
variable_is (atom f) v = absurd v
variable_is (compound f ts) v = absurd v

-- a variable is nothing else
pub variable_is_no : (t : Tree) → IsVariable t
    → (is_integer t ≡ false) × (is_atom t ≡ false) × (is_compound t ≡ false) × (is_negative t ≡ false) × (is_nil t ≡ false) × (arity_of t ≡ 0)
variable_is_no (variable n) v = (refl, refl, refl, refl, refl, refl)
variable_is_no (integer z) v = absurd v
variable_is_no (atom f) v = absurd v
variable_is_no (compound f ts) v = absurd v

pub variable_is_not_over : (t : Tree) (n : ℕ) → IsVariable t → is_over n t ≡ false
variable_is_not_over (variable m) n v = refl
variable_is_not_over (integer z) n v = absurd v
variable_is_not_over (atom f) n v = absurd v
variable_is_not_over (compound f ts) n v = absurd v

arity_counts : (ts : List Tree) → arity (trees_of ts) ≡ length ts
arity_counts [] = refl
arity_counts (t ∷ ts) = omega (arith, arity_counts ts)

pub compound_arity : (t : Tree) (f : List ℕ) → t ≡ compound f (trees_of (arguments_of t)) → arity_of t ≡ length (arguments_of t)
compound_arity t f e = ap arity_of e ∙ arity_counts (arguments_of t)
