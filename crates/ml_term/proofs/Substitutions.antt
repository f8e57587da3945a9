-- Substitutions: one after another, alike on a term's variables, and what variables they leave.
use Rattle.std.specs.Prelude.{◌≡◌, ℕ, ◌+◌, ◌≤◌, List, [], ◌∷◌}
use Rattle.std.proofs.Common.{inl, inr, refl, sym, ap, arith}
use Rattle.std.proofs.lemmas.Bool.Decides.{eqb_tells}
use Rattle.ml_term.specs.Tree.{Tree, Trees, variable, integer, atom, compound, no_trees, tree, variables, variables_of, nodes, nodes_of, arity, substitute}
use Rattle.ml_term.specs.Tree.{substitute_in}
use Rattle.ml_term.proofs.DistinctCounts.{In}
use Rattle.ml_term.proofs.UnificationEnds.{in_either, in_left, in_right}

pub in_itself : (n : ℕ) → In n (n ∷ [])
in_itself n = grind (arith, eqb_tells n n)

mutual
  -- one substitution after another is one substitution
  pub twice : (s r : ℕ → Tree) (t : Tree) → substitute s (substitute r t) ≡ substitute (λ n. substitute s (r n)) t
  twice s r (variable n) = refl
  twice s r (integer z) = refl
  twice s r (atom f) = refl
  twice s r (compound f ts) = ap (compound f) (twice_in s r ts)

  pub twice_in : (s r : ℕ → Tree) (ts : Trees) → substitute_in s (substitute_in r ts) ≡ substitute_in (λ n. substitute s (r n)) ts
  twice_in s r no_trees = refl
  twice_in s r (tree t ts) = rw (twice s r t, twice_in s r ts) refl

mutual
  -- substitutions that are alike on a term's variables are alike on the term
  pub alike : (s r : ℕ → Tree) (t : Tree) → ((n : ℕ) → In n (variables t) → s n ≡ r n) → substitute s t ≡ substitute r t
  alike s r (variable n) h = h n (in_itself n)
  alike s r (integer z) h = refl
  alike s r (atom f) h = refl
  alike s r (compound f ts) h = ap (compound f) (alike_in s r ts h)

  pub alike_in : (s r : ℕ → Tree) (ts : Trees) → ((n : ℕ) → In n (variables_of ts) → s n ≡ r n) → substitute_in s ts ≡ substitute_in r ts
  alike_in s r no_trees h = refl
  alike_in s r (tree t ts) h =
      rw (alike s r t (λ n i. h n (in_left n (variables t) (variables_of ts) i)), alike_in s r ts (λ n i. h n (in_right n (variables t) (variables_of ts) i)))
      refl

mutual
  -- and the other way round: where they are alike on a term, they are alike on its variables
  pub alike_inside : (s r : ℕ → Tree) (t : Tree) → substitute s t ≡ substitute r t → (n : ℕ) → In n (variables t) → s n ≡ r n
  alike_inside s r (variable m) e n h = elim (eqb_tells m n) [ inl q ↦ rw (sym q.1) e | inr q ↦ absurd (grind (arith, q, h)) ]
  alike_inside s r (integer z) e n h = absurd (cc h)
  alike_inside s r (atom f) e n h = absurd (cc h)
  alike_inside s r (compound f ts) e n h = alike_inside_of s r ts (cc e) n h

  pub alike_inside_of : (s r : ℕ → Tree) (ts : Trees) → substitute_in s ts ≡ substitute_in r ts → (n : ℕ) → In n (variables_of ts) → s n ≡ r n
  alike_inside_of s r no_trees e n h = absurd (cc h)
  alike_inside_of s r (tree t ts) e n h = elim (in_either n (variables t) (variables_of ts) h)
      [ inl i ↦ alike_inside s r t (cc e) n i | inr i ↦ alike_inside_of s r ts (cc e) n i ]

mutual
  pub as_it_is : (t : Tree) → substitute variable t ≡ t
  as_it_is (variable n) = refl
  as_it_is (integer z) = refl
  as_it_is (atom f) = refl
  as_it_is (compound f ts) = ap (compound f) (all_as_they_are ts)

  pub all_as_they_are : (ts : Trees) → substitute_in variable ts ≡ ts
  all_as_they_are no_trees = refl
  all_as_they_are (tree t ts) = rw (as_it_is t, all_as_they_are ts) refl

mutual
  -- what stands for a variable of a term is no larger than the whole
  pub inside : (s : ℕ → Tree) (n : ℕ) (t : Tree) → In n (variables t) → nodes (s n) ≤ nodes (substitute s t)
  inside s n (variable m) h = elim (eqb_tells m n) [ inl e ↦ rw e.1 (omega arith) | inr e ↦ absurd (grind (arith, e, h)) ]
  inside s n (integer z) h = absurd (cc h)
  inside s n (atom f) h = absurd (cc h)
  inside s n (compound f ts) h = omega (arith, inside_of s n ts h)

  pub inside_of : (s : ℕ → Tree) (n : ℕ) (ts : Trees) → In n (variables_of ts) → nodes (s n) ≤ nodes_of (substitute_in s ts)
  inside_of s n no_trees h = absurd (cc h)
  inside_of s n (tree t ts) h = elim (in_either n (variables t) (variables_of ts) h)
      [ inl i ↦ omega (arith, inside s n t i) | inr i ↦ omega (arith, inside_of s n ts i) ]

-- a variable of a term and a variable of what stands for it
abbrev pub Comes : (ℕ → Tree) → ℕ → List ℕ → Type 0
Comes s k ms = (j : ℕ) × (In j ms × In k (variables (s j)))

mutual
  -- each variable that stands in a term afterwards comes from one that stood there before
  pub comes : (s : ℕ → Tree) (k : ℕ) (t : Tree) → In k (variables (substitute s t)) → Comes s k (variables t)
  comes s k (variable n) h = (n, (in_itself n, h))
  comes s k (integer z) h = absurd (cc h)
  comes s k (atom f) h = absurd (cc h)
  comes s k (compound f ts) h = comes_of s k ts h

  pub comes_of : (s : ℕ → Tree) (k : ℕ) (ts : Trees) → In k (variables_of (substitute_in s ts)) → Comes s k (variables_of ts)
  comes_of s k no_trees h = absurd (cc h)
  comes_of s k (tree t ts) h = elim (in_either k (variables (substitute s t)) (variables_of (substitute_in s ts)) h) [
    | inl i ↦ let c = comes s k t i in (c.0, (in_left c.0 (variables t) (variables_of ts) c.1.0, c.1.1))
    | inr i ↦ let c = comes_of s k ts i in (c.0, (in_right c.0 (variables t) (variables_of ts) c.1.0, c.1.1))
  ]

mutual
  -- and the other way round
  pub goes : (s : ℕ → Tree) (t : Tree) (j k : ℕ) → In j (variables t) → In k (variables (s j)) → In k (variables (substitute s t))
  goes s (variable n) j k h i = elim (eqb_tells n j) [ inl q ↦ rw q.1 i | inr q ↦ absurd (grind (arith, q, h)) ]
  goes s (integer z) j k h i = absurd (cc h)
  goes s (atom f) j k h i = absurd (cc h)
  goes s (compound f ts) j k h i = goes_of s ts j k h i

  pub goes_of : (s : ℕ → Tree) (ts : Trees) (j k : ℕ) → In j (variables_of ts) → In k (variables (s j)) → In k (variables_of (substitute_in s ts))
  goes_of s no_trees j k h i = absurd (cc h)
  goes_of s (tree t ts) j k h i = elim (in_either j (variables t) (variables_of ts) h) [
    | inl p ↦ in_left k (variables (substitute s t)) (variables_of (substitute_in s ts)) (goes s t j k p i)
    | inr p ↦ in_right k (variables (substitute s t)) (variables_of (substitute_in s ts)) (goes_of s ts j k p i)
  ]

pub arity_kept : (s : ℕ → Tree) (ts : Trees) → arity (substitute_in s ts) ≡ arity ts
arity_kept s no_trees = refl
arity_kept s (tree t ts) = ap (λ n. 1 + n) (arity_kept s ts)
