-- The keys of a declaration that names none are keys.
use Rattle.std.specs.Prelude.{◌≡◌, ℕ, zero, suc, ◌+◌, ◌<◌, ◌≤◌, nat_le, true, false, ◌&&◌, [], ◌∷◌, ◌++◌, length, cond, min, IsTrue}
use Rattle.std.specs.List.{list_all}
use Rattle.std.proofs.Common.{arith, refl, ap, sym, ◌∙◌}
use Rattle.std.proofs.lemmas.Bool.{and_from, le-leb, ne_eqb, or_from, not_from_false, cond_both, leb-true, leb-false}
use Rattle.ml_term.specs.Tree.{has}
use Rattle.ml_term.specs.Keys.{are_different, are_keys, numbers_from, default_keys}

pub numbers_from-suc : (first n : ℕ) → numbers_from first (suc n) ≡ numbers_from first n ++ (first + n) ∷ []
numbers_from-suc first zero = let e : first ≡ first + 0 = omega arith in ap (λ k. k ∷ []) e
numbers_from-suc first (suc n) =
    let e : first + 1 + n ≡ first + suc n = omega arith in
    ap (λ ks. first ∷ ks) (numbers_from-suc (first + 1) n ∙ ap (λ k. numbers_from (first + 1) n ++ k ∷ []) e)

pub one_number_more : (n : ℕ) → numbers_from 1 n ++ (n + 1) ∷ [] ≡ numbers_from 1 (n + 1)
one_number_more n =
    let e : n + 1 ≡ suc n = omega arith in
    let f : n + 1 ≡ 1 + n = omega arith in
    ap (λ k. numbers_from 1 n ++ k ∷ []) f ∙ sym (numbers_from-suc 1 n) ∙ sym (ap (numbers_from 1) e)

pub length-numbers_from : (first n : ℕ) → length (numbers_from first n) ≡ n
length-numbers_from first zero = refl
length-numbers_from first (suc n) = omega (arith, length-numbers_from (first + 1) n)

pub in_range : (n first m : ℕ) → 1 ≤ first → first + m ≤ n + 1 → list_all (λ k. nat_le 1 k && nat_le k n) (numbers_from first m) ≡ true
in_range n first zero low high = refl
in_range n first (suc m) low high =
    and_from _ _ (and_from _ _ (le-leb 1 first low) (le-leb first n (omega arith))) (in_range n (first + 1) m (omega arith) (omega arith))

pub has_none_below : (k first m : ℕ) → k < first → has k (numbers_from first m) ≡ false
has_none_below k first zero below = refl
has_none_below k first (suc m) below = or_from _ _ (ne_eqb first k (λ e. omega (arith, e))) (has_none_below k (first + 1) m (omega arith))

pub all_different : (first m : ℕ) → are_different (numbers_from first m) ≡ true
all_different first zero = refl
all_different first (suc m) = and_from _ _ (not_from_false _ (has_none_below first (first + 1) m (omega arith))) (all_different (first + 1) m)

pub first_numbers_are_keys : (n m : ℕ) → 1 ≤ m → m ≤ 8 → m ≤ n → are_keys n (numbers_from 1 m) ≡ true
first_numbers_are_keys n m low high within =
    and_from _ _ (and_from _ _ (and_from _ _
    (le-leb 1 (length (numbers_from 1 m)) (omega (arith, length-numbers_from 1 m)))
    (le-leb (length (numbers_from 1 m)) 8 (omega (arith, length-numbers_from 1 m))))
    (in_range n 1 m (omega arith) (omega arith)))
    (all_different 1 m)

pub default_is_min : (n : ℕ) → cond (nat_le n 8) n 8 ≡ min n 8
default_is_min n = cond_both (nat_le n 8) n 8 (λ m. m ≡ min n 8) (λ e. omega (arith, leb-true n 8 e)) (λ e. omega (arith, leb-false n 8 e))

pub default_keys_of : (n m : ℕ) → m ≡ min n 8 → numbers_from 1 m ≡ default_keys n
default_keys_of n m e = ap (numbers_from 1) (e ∙ sym (default_is_min n))

pub default_keys_are_keys : (n m : ℕ) → m ≡ min n 8 → 1 ≤ n → IsTrue (are_keys n (numbers_from 1 m))
default_keys_are_keys n m e low = first_numbers_are_keys n m (omega arith) (omega arith) (omega arith)
