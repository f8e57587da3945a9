-- Renamed terms: which variables they have, and that a term unifies with a renamed one exactly where both have a common instance.
use Rattle.std.specs.Prelude.{◌≡◌, ◌≢◌, ℕ, suc, ◌+◌, ◌-◌, ◌<◌, ◌≤◌, false, cond, List, [], ◌∷◌, length, IsSome}
use Rattle.std.proofs.Common.{inl, inr, refl, sym, ap, ◌∙◌, subst, arith, get_or}
use Rattle.std.proofs.lemmas.Bool.Decides.{eqb_tells}
use Rattle.ml_term.specs.Tree.{Tree, variable, has, variables, substitute, rename, firsts, without, place_in, width}
use Rattle.ml_term.specs.Unify.{unifier}
use Rattle.ml_term.specs.Instances.{HaveACommonInstance, AreApart}
use Rattle.ml_term.proofs.DistinctCounts.{In}
use Rattle.ml_term.proofs.Substitutions.{twice, alike, comes, goes, in_itself}
use Rattle.ml_term.proofs.MostGeneralUnifiers.{not_in_false}
use Rattle.ml_term.proofs.UnifierIsOne.{unified_exactly}

in_without : (k n : ℕ) (ms : List ℕ) → In k ms → k ≢ n → In k (without n ms)
in_without k n [] h d = h
in_without k n (m ∷ ms) h d = grind (arith, eqb_tells m n, eqb_tells m k, in_without k n ms)

pub in_firsts : (k : ℕ) (ms : List ℕ) → In k ms → In k (firsts ms)
in_firsts k [] h = h
in_firsts k (m ∷ ms) h = elim (eqb_tells m k) [
  | inl q ↦ rw q.0 refl
  | inr q ↦ rw q.0 (in_without k m (firsts ms) (in_firsts k ms (rw q.0 at h)) (λ e. q.1 (sym e)))
]

pub place_below : (ms : List ℕ) (n : ℕ) → In n ms → place_in ms n < length ms
place_below [] n h = absurd (cc h)
place_below (m ∷ ms) n h = elim (eqb_tells m n) [ inl q ↦ rw q.0 (omega arith) | inr q ↦ rw q.0 (omega (arith, place_below ms n (rw q.0 at h))) ]

pub at_its_place : (ms : List ℕ) (n : ℕ) → In n ms → get_or ms (place_in ms n) 0 ≡ n
at_its_place [] n h = absurd (cc h)
at_its_place (m ∷ ms) n h = elim (eqb_tells m n) [
  | inl q ↦ rw q.0 q.1
  | inr q ↦ rw q.0 (at_next (place_in ms n) ∙ at_its_place ms n (rw q.0 at h))
]
  where
    at_next : (i : ℕ) → get_or (m ∷ ms) (1 + i) 0 ≡ get_or ms i 0
    at_next i = let e : suc i ≡ 1 + i = omega arith in subst (λ z. get_or (m ∷ ms) z 0 ≡ get_or ms i 0) e refl

-- the number that a variable of a term gets
abbrev new_number : ℕ → Tree → ℕ → ℕ
new_number next t n = next + place_in (firsts (variables t)) n

pub renamed_range : (next : ℕ) (t : Tree) (n : ℕ) → In n (variables (rename next t)) → (next ≤ n) × (n < next + width t)
renamed_range next t n h =
    let c = comes (λ k. variable (new_number next t k)) n t h in
    let p : new_number next t c.0 ≡ n = only (new_number next t c.0) n c.1.1 in
    (omega (arith, p), omega (arith, p, place_below (firsts (variables t)) c.0 (in_firsts c.0 (variables t) c.1.0)))
  where
    only : (m k : ℕ) → In k (m ∷ []) → m ≡ k
    only m k h = grind (arith, eqb_tells m k)

pub in_renamed : (next : ℕ) (t : Tree) (n : ℕ) → In n (variables t) → In (new_number next t n) (variables (rename next t))
in_renamed next t n h = goes (λ k. variable (new_number next t k)) t n (new_number next t n) h (in_itself (new_number next t n))

pub instance_of_unified : (next : ℕ) (t u : Tree) → IsSome (unifier t (rename next u)) → HaveACommonInstance t u
instance_of_unified next t u h =
    let s = (unified_exactly ((t, rename next u) ∷ [])).0 h in
    (s.0, ((λ n. s.0 (new_number next u n)), s.1.0 ∙ twice s.0 (λ n. variable (new_number next u n)) u))

-- one substitution that does what one does for some variables, and another for renamed ones
abbrev joined : List ℕ → ℕ → Tree → (ℕ → Tree) → (ℕ → Tree) → ℕ → Tree
joined ms next u s r k = cond (has k ms) (s k) (r (get_or (firsts (variables u)) (k - next) 0))

joined_low : (ms : List ℕ) (next : ℕ) (u : Tree) (s r : ℕ → Tree) (k : ℕ) → In k ms → joined ms next u s r k ≡ s k
joined_low ms next u s r k h = rw h refl

joined_high : (ms : List ℕ) (next : ℕ) (u : Tree) (s r : ℕ → Tree) (n : ℕ) → In n (variables u) → has (new_number next u n) ms ≡ false →
    joined ms next u s r (new_number next u n) ≡ r n
joined_high ms next u s r n i h =
    let e : new_number next u n - next ≡ place_in (firsts (variables u)) n = omega arith in
    rw (h, e) (ap r (at_its_place (firsts (variables u)) n (in_firsts n (variables u) i)))

pub unified_of_instance : (next : ℕ) (t u : Tree) → AreApart t (rename next u) → HaveACommonInstance t u → IsSome (unifier t (rename next u))
unified_of_instance next t u a h =
    let s = h.0 in
    let r = h.1.0 in
    let q = joined (variables t) next u s r in
    let low : substitute q t ≡ substitute s t = alike q s t (λ k i. joined_low (variables t) next u s r k i) in
    let high : substitute q (rename next u) ≡ substitute r u =
    twice q (λ n. variable (new_number next u n)) u ∙ alike (λ n. q (new_number next u n)) r u (λ n i. joined_high (variables t) next u s r n i
    (not_in_false (new_number next u n) (variables t) (has (new_number next u n) (variables t)) refl
    (λ j. a (new_number next u n) j (in_renamed next u n i)))) in
    (unified_exactly ((t, rename next u) ∷ [])).1 (q, (low ∙ (h.1.1 ∙ sym high), tt))
