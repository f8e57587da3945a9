-- An item that is in no cursor of a pattern makes no branch, whatever numbers its variables get.
use Rattle.std.specs.Prelude.{◌≡◌, ℕ, ◌+◌, ◌-◌, ◌<◌, nat_lt, Bool, true, false, cond, List, [], ◌∷◌, Option, Some, None, is_some, IsSome}
use Rattle.std.proofs.Common.{inl, inr, refl, sym, ap, ◌∙◌, arith}
use Rattle.std.proofs.lemmas.Bool.{ltb-true, ltb-false}
use Rattle.std.proofs.lemmas.Bool.Decides.{eqb_tells}
use Rattle.ml_term.specs.Tree.{Tree, variable, variables, substitute}
use Rattle.ml_term.specs.Unify.{Map, unifier}
use Rattle.ml_term.proofs.DistinctCounts.{In}
use Rattle.ml_term.proofs.Substitutions.{twice, alike}
use Rattle.ml_term.proofs.UnifierIsOne.{terms_unified_exactly}
use Rattle.ml_search.specs.Actions.{shift_variables}
use Rattle.ml_search.specs.Replay.{number_above, rename_apart}

below_above : (n : ℕ) (ns : List ℕ) → In n ns → n < number_above ns
below_above n [] h = absurd (cc h)
below_above n (m ∷ ns) h = elim (eqb_tells m n) [ inl q ↦ omega (arith, q.1) | inr q ↦ omega (arith, below_above n ns (grind (arith, q, h))) ]

-- two ways to number a head: below a as they are, and from a on as those from n on
abbrev both : ℕ → ℕ → (ℕ → Tree) → ℕ → Tree
both a n s k = cond (nat_lt k a) (s k) (s (n + (k - a)))

lower_part : (a n k : ℕ) (s : ℕ → Tree) (b : Bool) → nat_lt k a ≡ b → k < a → cond b (s k) (s (n + (k - a))) ≡ s k
lower_part a n k s true e l = refl
lower_part a n k s false e l = absurd (omega (arith, ltb-false k a e))

upper_part : (a n v : ℕ) (s : ℕ → Tree) (b : Bool) → nat_lt (a + v) a ≡ b → cond b (s (a + v)) (s (n + (a + v - a))) ≡ s (n + v)
upper_part a n v s true e = absurd (omega (arith, ltb-true (a + v) a e))
upper_part a n v s false e = ap s (omega arith)

none_unless : (o : Option Map) → ((m : Map) → o ≡ Some m → ⊥) → o ≡ None
none_unless None h = refl
none_unless (Some m) h = absurd (h m refl)

not_some : (o : Option Map) → is_some o ≡ false → IsSome o → ⊥
not_some None e h = cc h
not_some (Some m) e h = cc e

some_is : (o : Option Map) (m : Map) → o ≡ Some m → IsSome o
some_is None m e = absurd (cc e)
some_is (Some n) m e = refl

pub misses : (p : Tree) (n : ℕ) (h : Tree) → is_some (unifier p (rename_apart p h)) ≡ false → unifier p (shift_variables n h) ≡ None
misses p n h e = none_unless (unifier p (shift_variables n h)) (λ m q.
    let u = (terms_unified_exactly p (shift_variables n h)).0 (some_is (unifier p (shift_variables n h)) m q) in
    let s = u.0 in
    let a = number_above (variables p) in
    let low : substitute (both a n s) p ≡ substitute s p =
    alike (both a n s) s p (λ k j. lower_part a n k s (nat_lt k a) refl (below_above k (variables p) j)) in
    let high : substitute (both a n s) (rename_apart p h) ≡ substitute s (shift_variables n h) =
    twice (both a n s) (λ v. variable (a + v)) h
    ∙ (alike (λ v. both a n s (a + v)) (λ v. s (n + v)) h (λ v j. upper_part a n v s (nat_lt (a + v) a) refl) ∙ sym (twice s (λ v. variable (n + v)) h)) in
    not_some (unifier p (rename_apart p h)) e ((terms_unified_exactly p (rename_apart p h)).1 (both a n s, low ∙ (u.1 ∙ sym high))))
