-- Orderings one after another, and the order of numbers by their digits.
use Rattle.std.specs.Prelude.{◌≡◌, ◌≢◌, ℕ, ◌+◌, ◌*◌, ◌<◌, ◌≤◌, ◌⊎◌, List, [], ◌∷◌, ◌++◌, length}
use Rattle.std.specs.declared.cmp.Ordering.{Ordering}
use Rattle.std.specs.declared.cmp.Ordering.TheVariants.{Less, Equal, Greater}
use Rattle.std.specs.Ordering.{nat_cmp, ordering_then}
use Rattle.std.specs.Cmp.{nat_cmp_is}
use Rattle.std.specs.Cmp.Lexicographic.{slice_cmp}
use Rattle.std.proofs.Common.{refl, sym, ap, ◌∙◌, inl, inr, arith}
use Rattle.std.proofs.Math.Nat.{mul-le-mul_right}
use Rattle.std.proofs.lemmas.Bool.{cases_order}
use Rattle.std.proofs.lemmas.Cmp.{ranked}

pub decided_later : (o p q : Ordering) → ordering_then o p ≡ Equal → ordering_then o (ordering_then p q) ≡ q
decided_later Equal Equal q e = refl
decided_later Equal Less q e = cc
decided_later Equal Greater q e = cc
decided_later Less p q e = cc
decided_later Greater p q e = cc

pub decided_here : (o p q : Ordering) → ordering_then o p ≢ Equal → ordering_then o (ordering_then p q) ≡ ordering_then o p
decided_here Equal Equal q e = absurd (e refl)
decided_here Equal Less q e = refl
decided_here Equal Greater q e = refl
decided_here Less p q e = refl
decided_here Greater p q e = refl

-- three orderings one after another, in either grouping
pub regrouped : (o p q : Ordering) → ordering_then (ordering_then o p) q ≡ ordering_then o (ordering_then p q)
regrouped Less p q = refl
regrouped Equal p q = refl
regrouped Greater p q = refl

-- what an answer of `nat_cmp` says
pub equal_numbers : (x y : ℕ) → nat_cmp x y ≡ Equal → x ≡ y
equal_numbers x y e = ranked x y Equal (sym e)

pub less : (x y : ℕ) → x < y → nat_cmp x y ≡ Less
less x y below = sym (nat_cmp_is x y Less below)

pub same : (x y : ℕ) → x ≡ y → nat_cmp x y ≡ Equal
same x y e = sym (nat_cmp_is x y Equal e)

pub greater : (x y : ℕ) → y < x → nat_cmp x y ≡ Greater
greater x y above = sym (nat_cmp_is x y Greater above)

-- two numbers with one added to both
pub raised : (k r s : ℕ) → nat_cmp r s ≡ nat_cmp (k + r) (k + s)
raised k r s = by (cases_order r s)
  where
    by : (r ≡ s) ⊎ ((r < s) ⊎ (s < r)) → nat_cmp r s ≡ nat_cmp (k + r) (k + s)
    by (inl e) = same r s e ∙ sym (same (k + r) (k + s) (omega arith))
    by (inr (inl below)) = less r s below ∙ sym (less (k + r) (k + s) (omega arith))
    by (inr (inr above)) = greater r s above ∙ sym (greater (k + r) (k + s) (omega arith))

-- the high digits decide, and where they are the same the low ones do
pub digits_compare : (m d e r s : ℕ) → r < m → s < m → ordering_then (nat_cmp d e) (nat_cmp r s) ≡ nat_cmp (d * m + r) (e * m + s)
digits_compare m d e r s below_r below_s = by (cases_order d e)
  where
    by : (d ≡ e) ⊎ ((d < e) ⊎ (e < d)) → ordering_then (nat_cmp d e) (nat_cmp r s) ≡ nat_cmp (d * m + r) (e * m + s)
    by (inl q) = ap (λ o. ordering_then o (nat_cmp r s)) (same d e q) ∙ raised (d * m) r s ∙ ap (λ k. nat_cmp (d * m + r) (k * m + s)) q
    by (inr (inl below)) =
        let more : (d + 1) * m ≤ e * m = mul-le-mul_right m (omega arith) in
        ap (λ o. ordering_then o (nat_cmp r s)) (less d e below) ∙ sym (less (d * m + r) (e * m + s) (omega arith))
    by (inr (inr above)) =
        let more : (e + 1) * m ≤ d * m = mul-le-mul_right m (omega arith) in
        ap (λ o. ordering_then o (nat_cmp r s)) (greater d e above) ∙ sym (greater (d * m + r) (e * m + s) (omega arith))

-- lists of one length decide, and what follows them comes later
pub slice_cmp-append : {A : Type 0} (R : A → A → Ordering) (xs ys zs ws : List A) → length xs ≡ length ys
    → slice_cmp R (xs ++ zs) (ys ++ ws) ≡ ordering_then (slice_cmp R xs ys) (slice_cmp R zs ws)
slice_cmp-append R [] [] zs ws e = refl
slice_cmp-append R [] (y ∷ ys) zs ws e = absurd (omega (arith, e))
slice_cmp-append R (x ∷ xs) [] zs ws e = absurd (omega (arith, e))
slice_cmp-append R (x ∷ xs) (y ∷ ys) zs ws e =
    ap (ordering_then (R x y)) (slice_cmp-append R xs ys zs ws (omega (arith, e))) ∙ sym (regrouped (R x y) (slice_cmp R xs ys) (slice_cmp R zs ws))

-- an ordering that decides alone
pub decides_alone : (o p : Ordering) → o ≢ Equal → ordering_then o p ≡ o
decides_alone Less p n = refl
decides_alone Greater p n = refl
decides_alone Equal p n = absurd (n refl)
