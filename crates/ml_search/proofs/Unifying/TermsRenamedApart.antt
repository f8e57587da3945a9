-- A term against another one whose variables are counted from a number on: they unify exactly where both have a common instance.
use Rattle.std.specs.Prelude.{◌≡◌, ℕ, nat_eq, ◌+◌, ◌-◌, ◌<◌, ◌≤◌, ◌^◌, Bool, true, false, cond, List, [], ◌∷◌, Option, Some, None}
use Rattle.std.specs.Prelude.{IsSome, MatchOption}
use Rattle.std.specs.Option.{is_some}
use Rattle.std.proofs.Common.{inl, inr, refl, sym, ap, ◌∙◌, arith}
use Rattle.std.proofs.lemmas.Bool.{and_parts, ltb-true}
use Rattle.std.proofs.lemmas.Bool.Decides.{eqb_tells}
use Rattle.ml_term.specs.Tree.{Tree, Trees, variable, integer, atom, compound, no_trees, tree, has, variables, variables_of, substitute}
use Rattle.ml_term.specs.Unify.{Map, unifier}
use Rattle.ml_term.specs.Valid.{is_valid, are_valid}
use Rattle.ml_term.specs.Instances.{HaveACommonInstance, AreApart}
use Rattle.ml_term.proofs.DistinctCounts.{In}
use Rattle.ml_term.proofs.MostGeneralUnifiers.{not_in_false}
use Rattle.ml_term.proofs.UnifierIsOne.{unified_exactly}
use Rattle.ml_term.proofs.Substitutions.{twice, alike, as_it_is, comes, goes, in_itself}
use Rattle.ml_term.proofs.UnificationEnds.{in_either, in_one_only}
use Rattle.ml_search.specs.Replay.{number_above, rename_apart}
use Rattle.ml_search.specs.Actions.{shift_variables}

pub fresh_from_zero : (t : Tree) → shift_variables 0 t ≡ t
fresh_from_zero t = alike (λ n. variable (0 + n)) variable t (λ n i. ap variable (omega arith)) ∙ as_it_is t

-- where the variables of a term whose variables are counted from k are
from_k : (k : ℕ) (u : Tree) (n : ℕ) → In n (variables (shift_variables k u)) → k ≤ n
from_k k u n h =
    let c = comes (λ i. variable (k + i)) n u h in
    let e : n ≡ k + c.0 = in_one_only n (k + c.0) c.1.1 in
    omega (arith, e)

in_fresh : (k : ℕ) (u : Tree) (n : ℕ) → In n (variables u) → In (k + n) (variables (shift_variables k u))
in_fresh k u n h = goes (λ i. variable (k + i)) u n (k + n) h (in_itself (k + n))

-- one substitution that does what one does for some variables, and another for those counted from k
abbrev joined : List ℕ → ℕ → (ℕ → Tree) → (ℕ → Tree) → ℕ → Tree
joined ms k s r n = cond (has n ms) (s n) (r (n - k))

joined_low : (ms : List ℕ) (k : ℕ) (s r : ℕ → Tree) (n : ℕ) → In n ms → joined ms k s r n ≡ s n
joined_low ms k s r n h = rw h refl

joined_high : (ms : List ℕ) (k : ℕ) (s r : ℕ → Tree) (n : ℕ) → has (k + n) ms ≡ false → joined ms k s r (k + n) ≡ r n
joined_high ms k s r n h = let e : k + n - k ≡ n = omega arith in rw (h, e) refl

module _ (k : ℕ) (t u : Tree) (a : AreApart t (shift_variables k u)) where
  pub instance_of : IsSome (unifier t (shift_variables k u)) → HaveACommonInstance t u
  instance_of h =
      let s = (unified_exactly ((t, shift_variables k u) ∷ [])).0 h in
      (s.0, ((λ n. s.0 (k + n)), s.1.0 ∙ twice s.0 (λ n. variable (k + n)) u))

  pub of_instance : HaveACommonInstance t u → IsSome (unifier t (shift_variables k u))
  of_instance h =
      let s = h.0 in
      let r = h.1.0 in
      let q = joined (variables t) k s r in
      let low : substitute q t ≡ substitute s t = alike q s t (λ n i. joined_low (variables t) k s r n i) in
      let high : substitute q (shift_variables k u) ≡ substitute r u =
      twice q (λ n. variable (k + n)) u ∙ alike (λ n. q (k + n)) r u (λ n i. joined_high (variables t) k s r n
      (not_in_false (k + n) (variables t) (has (k + n) (variables t)) refl (λ j. a (k + n) j (in_fresh k u n i)))) in
      (unified_exactly ((t, shift_variables k u) ∷ [])).1 (q, (low ∙ (h.1.1 ∙ sym high), tt))

mutual
  valid_below : (t : Tree) (n : ℕ) → is_valid t ≡ true → In n (variables t) → n < 2 ^ 32
  valid_below (variable m) n h i = let e : n ≡ m = in_one_only n m i in omega (arith, ltb-true m (2 ^ 32) h, e)
  valid_below (integer z) n h i = absurd (cc i)
  valid_below (atom f) n h i = absurd (cc i)
  valid_below (compound f ts) n h i = all_below ts n (and_parts _ _ h).1 i

  all_below : (ts : Trees) (n : ℕ) → are_valid ts ≡ true → In n (variables_of ts) → n < 2 ^ 32
  all_below no_trees n h i = absurd (cc i)
  all_below (tree t ts) n h i =
      let parts = and_parts _ _ h in
      elim (in_either n (variables t) (variables_of ts) i) [ inl j ↦ valid_below t n parts.0 j | inr j ↦ all_below ts n parts.1 j ]

pub apart_behind_all : (t u : Tree) → is_valid t ≡ true → AreApart t (shift_variables 4294967296 u)
apart_behind_all t u h = λ n i j. omega (arith, valid_below t n h i, from_k 4294967296 u n j)

below_above : (n : ℕ) (ms : List ℕ) → In n ms → n < number_above ms
below_above n [] i = absurd (cc i)
below_above n (m ∷ ms) i = elim (eqb_tells m n) [
  | inl q ↦ omega (arith, q.1)
  | inr q ↦ omega (arith, below_above n ms (rest q.0 i))
]
  where
    rest : nat_eq m n ≡ false → In n (m ∷ ms) → In n ms
    rest e j = rw e at j

pub apart_from_pattern : (t u : Tree) → AreApart t (rename_apart t u)
apart_from_pattern t u = λ n i j. omega (arith, below_above n (variables t) i, from_k (number_above (variables t)) u n j)

-- tests that say the same are the same
pub same_tests : (b c : Bool) → (b ≡ true → c ≡ true) → (c ≡ true → b ≡ true) → b ≡ c
same_tests true c f g = sym (f refl)
same_tests false true f g = g refl
same_tests false false f g = refl

-- a result that says whether there is a unifier
pub found_is : {X : Type 0} (o : Option X) (u : Option Map) (f : X → Map) → MatchOption o (u ≡ None) (λ x. u ≡ Some (f x)) → is_some o ≡ is_some u
found_is None u f h = sym (ap is_some h)
found_is (Some x) u f h = sym (ap is_some h)
