-- The least numbers that pass tests.
use Rattle.std.proofs.Common.{◌≡◌, ℕ, ◌≤◌, ◌⊎◌, Bool, true, false, refl, sym, ap, ◌∙◌, Some, None, inl, inr, arith}
use Rattle.std.specs.Prelude.{Option, ◌==◌, ◌||◌, min}
use Rattle.std.proofs.lemmas.Bool.Decides.{eqb_tells}
use Rattle.ml_locks.specs.Requests.{IsLeast}
use Rattle.ml_locks.specs.inside.Waiting.{older}

-- tests that answer alike have the same least number
pub least_alike : (p q : ℕ → Bool) (r : Option ℕ) → ((k : ℕ) → q k ≡ p k) → IsLeast p r → IsLeast q r
least_alike p q None e h = λ k. e k ∙ h k
least_alike p q (Some x) e h = (e x ∙ h.0, λ k t. h.1 k (sym (e k) ∙ t))

pub passes_either : (a b : Bool) → (a || b) ≡ true → (a ≡ true) ⊎ (b ≡ true)
passes_either true b e = inl refl
passes_either false b e = inr e

fails_both : (a b : Bool) → a ≡ false → b ≡ false → (a || b) ≡ false
fails_both true b e f = cc
fails_both false b e f = f

pub first_passes : (a b : Bool) → a ≡ true → (a || b) ≡ true
first_passes true b e = refl
first_passes false b e = cc

pub second_passes : (a b : Bool) → b ≡ true → (a || b) ≡ true
second_passes true b e = refl
second_passes false b e = e

pub never : {A : Type 0} (b : Bool) → b ≡ false → b ≡ true → A
never b e f = absurd (no b e f)
  where
    no : (b : Bool) → b ≡ false → b ≡ true → ⊥
    no true e f = cc
    no false e f = cc

-- the least of two is the least that passes either test
pub least_of_either : (p q : ℕ → Bool) (a b : Option ℕ) → IsLeast p a → IsLeast q b → IsLeast (λ k. p k || q k) (older a b)
least_of_either p q None None h i = λ k. fails_both (p k) (q k) (h k) (i k)
least_of_either p q None (Some y) h i =
    (second_passes (p y) (q y) i.0, λ k t. elim (passes_either (p k) (q k) t) [ inl e ↦ never (p k) (h k) e | inr e ↦ i.1 k e ])
least_of_either p q (Some x) None h i =
    (first_passes (p x) (q x) h.0, λ k t. elim (passes_either (p k) (q k) t) [ inl e ↦ h.1 k e | inr e ↦ never (q k) (i k) e ])
least_of_either p q (Some x) (Some y) h i = (
  passes (smaller x y),
  λ k t. elim (passes_either (p k) (q k) t) [
    | inl e ↦ below_first k
        (h.1 k e)
    | inr e ↦ below_second k (i.1 k e)
  ],
)
  where
    smaller : (x y : ℕ) → (min x y ≡ x) ⊎ (min x y ≡ y)
    smaller x y = grind arith

    passes : (min x y ≡ x) ⊎ (min x y ≡ y) → (p (min x y) || q (min x y)) ≡ true
    passes (inl e) = first_passes (p (min x y)) (q (min x y)) (ap p e ∙ h.0)
    passes (inr e) = second_passes (p (min x y)) (q (min x y)) (ap q e ∙ i.0)

    below_first : (k : ℕ) → x ≤ k → min x y ≤ k
    below_first k l = omega arith

    below_second : (k : ℕ) → y ≤ k → min x y ≤ k
    below_second k l = omega arith

-- one number
pub least_one : (x : ℕ) → IsLeast (λ k. x == k) (Some x)
least_one x = (itself (eqb_tells x x), λ k t. same k (eqb_tells x k) t)
  where
    itself : ((x == x) ≡ true) × (x ≡ x) ⊎ ((x == x) ≡ false) × (x ≡ x → ⊥) → (x == x) ≡ true
    itself (inl e) = e.0
    itself (inr n) = absurd (n.1 refl)

    same : (k : ℕ) → ((x == k) ≡ true) × (x ≡ k) ⊎ ((x == k) ≡ false) × (x ≡ k → ⊥) → (x == k) ≡ true → x ≤ k
    same k (inl e) t = omega (arith, e.1)
    same k (inr n) t = never (x == k) n.0 t
