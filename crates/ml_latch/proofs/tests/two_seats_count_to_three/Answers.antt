use Rattle.std.proofs.Common.{rules, arith, ◌≡◌, ◌<◌, ◌≤◌, ℕ, zero, suc, List, [], ◌∷◌, Contains, refl, sym, subst}
use Rattle.ml_latch.proofs.tests.two_seats_count_to_three.Goals as goal

both : {N : Type 0} (kept : List (ℕ × List N)) (given : ℕ) (a b : List N) → kept ≡ (1, a) ∷ (2, b) ∷ [] → given ≡ 2 → (n : ℕ) → 0 < n → n ≤ given
    → (xs : List N) × Contains kept (n, xs)
both kept given a b is two zero some le = absurd (omega arith)
both {N} kept given a b is two (suc zero) some le = (a, subst (λ (l : List (ℕ × List N)). Contains l (1, a)) (sym is) (0, omega arith, refl))
both {N} kept given a b is two (suc (suc zero)) some le = (b, subst (λ (l : List (ℕ × List N)). Contains l (2, b)) (sym is) (1, omega arith, refl))
both kept given a b is two (suc (suc (suc n))) some le = absurd (omega arith)

pub close-count-requires-clause-all : goal.close-count-requires-clause-all
close-count-requires-clause-all g c =
    let given : c.join-2.new.into.given ≡ 2 = search rules in
    let kept : c.join-2.new.into.kept ≡ (1, c.join-one.result.0.own) ∷ (2, c.join-one.result.1.own) ∷ [] = search rules in
    both c.join-2.new.into.kept c.join-2.new.into.given c.join-one.result.0.own c.join-one.result.1.own kept given
