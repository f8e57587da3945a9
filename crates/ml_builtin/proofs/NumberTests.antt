-- Integers as numbers of arguments.
use Rattle.std.specs.Prelude.{◌≡◌, ℕ, ◌<◌, ◌≤◌, pos, negsuc, nat_lt, nat_le, Bool, true, false, ◌&&◌, not}
use Rattle.std.proofs.Common.{refl, sym, ap, ◌∙◌, arith}
use Rattle.std.proofs.lemmas.Bool.Decides.{nat_tests}
use Rattle.ml_term.specs.Tree.{Tree, variable, integer, atom, compound}
use Rattle.ml_search.specs.Program.{arity_of}
use Rattle.ml_search.specs.TypeTests.{is_integer, is_negative, is_over, number_of}

-- numbers
above_zero : (k : ℕ) → 0 < k → nat_lt 0 k ≡ true
above_zero k l = grind (arith, nat_tests)

one_at_least : (k : ℕ) → nat_le 1 k ≡ nat_lt 0 k
one_at_least k = grind (arith, nat_tests)

at_most : (k m : ℕ) → nat_le k m ≡ not (nat_lt m k)
at_most k m = grind (arith, nat_tests)

pub over_zero : (a : Tree) → 0 < number_of a → is_over 0 a ≡ true
over_zero (variable k) l = absurd (omega (arith, l))
over_zero (integer (pos k)) l = above_zero k l
over_zero (integer (negsuc k)) l = absurd (omega (arith, l))
over_zero (atom f) l = absurd (omega (arith, l))
over_zero (compound f ts) l = absurd (omega (arith, l))

from_one : (t : Tree) → nat_le 1 (number_of t) ≡ is_over 0 t
from_one (variable k) = one_at_least 0
from_one (integer (pos k)) = one_at_least k
from_one (integer (negsuc k)) = one_at_least 0
from_one (atom f) = one_at_least 0
from_one (compound f ts) = one_at_least 0

never_below : (m : ℕ) → nat_le 0 m ≡ true
never_below m = grind (arith, nat_tests)

up_to : (t : Tree) (m : ℕ) → nat_le (number_of t) m ≡ not (is_over m t)
up_to (variable k) m = never_below m
up_to (integer (pos k)) m = at_most k m
up_to (integer (negsuc k)) m = never_below m
up_to (atom f) m = never_below m
up_to (compound f ts) m = never_below m

pub names_one : (n t : Tree) (b c : Bool) → is_over 0 n ≡ b → is_over (arity_of t) n ≡ c → (nat_le 1 (number_of n) && nat_le (number_of n) (arity_of t)) ≡
    (b && not c)
names_one n t b c e k = cc (from_one n, up_to n (arity_of t), e, k)

-- what is over some number is an integer from 0 on
pub over_is : (m : ℕ) (t : Tree) → is_over m t ≡ true → (is_integer t ≡ true) × (is_negative t ≡ false) × (m < number_of t)
over_is m (variable k) e = absurd (cc e)
over_is m (integer (pos k)) e = (refl, refl, tested m k e)
  where
    tested : (m k : ℕ) → nat_lt m k ≡ true → m < k
    tested m k e = grind (arith, nat_tests)
over_is m (integer (negsuc k)) e = absurd (cc e)
over_is m (atom f) e = absurd (cc e)
over_is m (compound f ts) e = absurd (cc e)

not_over : (m k : ℕ) → nat_lt m k ≡ false → k ≤ m
not_over m k e = grind (arith, nat_tests)

pub at_most_that : (m : ℕ) (t : Tree) → is_over m t ≡ false → number_of t ≤ m
at_most_that m (variable k) e = omega arith
at_most_that m (integer (pos k)) e = not_over m k e
at_most_that m (integer (negsuc k)) e = omega arith
at_most_that m (atom f) e = omega arith
at_most_that m (compound f ts) e = omega arith

test_wider : (m n k : ℕ) → m ≤ n → nat_lt m k ≡ false → nat_lt n k ≡ false
test_wider m n k l e = grind (arith, nat_tests)

pub wider : (m n : ℕ) (t : Tree) → m ≤ n → is_over m t ≡ false → is_over n t ≡ false
wider m n (variable k) l e = refl
wider m n (integer (pos k)) l e = test_wider m n k l e
wider m n (integer (negsuc k)) l e = refl
wider m n (atom f) l e = refl
wider m n (compound f ts) l e = refl

-- the same by an arity that was told
pub over_arity : (n t : Tree) (m : ℕ) (b : Bool) → m ≡ arity_of t → is_over m n ≡ b → is_over (arity_of t) n ≡ b
over_arity n t m b e k = sym (ap (λ x. is_over x n) e) ∙ k

pub names_none : (n t : Tree) → is_over 0 n ≡ false → (nat_le 1 (number_of n) && nat_le (number_of n) (arity_of t)) ≡ false
names_none n t e = ap (λ b. b && nat_le (number_of n) (arity_of t)) (from_one n ∙ e)
