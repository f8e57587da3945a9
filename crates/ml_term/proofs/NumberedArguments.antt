-- The arguments of a compound by their numbers.
use Rattle.std.specs.Prelude.{◌≡◌, ℕ, zero, suc, ◌-◌, ◌<◌, ◌≤◌, true, List, [], ◌∷◌, map, length, cond}
use Rattle.std.proofs.Common.{refl, sym, ap, ◌∙◌, arith, get_or}
use Rattle.std.proofs.lemmas.Bool.{and_parts, lt-leb}
use Rattle.ml_term.specs.Tree.{Tree, trees_of}
use Rattle.ml_term.specs.Keys.{argument}
use Rattle.ml_term.specs.Valid.{is_valid, are_valid}

module _ {A : Type 0} (f : A → Tree) where
  -- the argument with a number from 1 is the one at the place before it
  pub argument_is : (k : ℕ) (ts : List A) (d : A) → 1 ≤ k → k ≤ length ts → argument k (trees_of (map f ts)) ≡ f (get_or ts (k - 1) d)
  argument_is k [] d low high = absurd (omega arith)
  argument_is zero (t ∷ ts) d low high = absurd (omega arith)
  argument_is (suc zero) (t ∷ ts) d low high = refl
  argument_is (suc (suc k)) (t ∷ ts) d low high =
      let e : suc (suc k) - 1 ≡ suc k = omega arith in
      let g : suc k - 1 ≡ k = omega arith in
      ap (λ b. cond b (f t) (argument (suc (suc k) - 1) (trees_of (map f ts)))) (lt-leb (suc (suc k)) 1 (omega arith))
      ∙ ap (λ n. argument n (trees_of (map f ts))) e
      ∙ argument_is (suc k) ts d (omega arith) (omega arith)
      ∙ ap (λ n. f (get_or ts n d)) g
      ∙ sym (ap (λ n. f (get_or (t ∷ ts) n d)) e)

  -- each of some valid arguments is valid
  pub argument_is_valid : (i : ℕ) (ts : List A) (d : A) → i < length ts → are_valid (trees_of (map f ts)) ≡ true → is_valid (f (get_or ts i d)) ≡ true
  argument_is_valid i [] d below all = absurd (omega arith)
  argument_is_valid zero (t ∷ ts) d below all = (and_parts _ _ all).0
  argument_is_valid (suc i) (t ∷ ts) d below all = argument_is_valid i ts d (omega arith) (and_parts _ _ all).1
