-- The search for a key among the items of a region.
use Rattle.std.proofs.Common.{◌≡◌, ◌≢◌, inl, inr, ℕ, ◌+◌, ◌<◌, ◌≤◌, Bool, List, [], length, refl, sym, ap, subst, ◌∙◌, arith}
use Rattle.std.specs.Prelude.{Contains}
use Rattle.std.specs.declared.cmp.Ordering.{Ordering}
use Rattle.std.specs.declared.cmp.Ordering.TheVariants.{Less, Equal, Greater}
use Rattle.std.proofs.lemmas.Bool.{cases_lt}
use Rattle.std.proofs.lemmas.List.{get_or_default}
use Rattle.ml_bits.proofs.OrderLaws.{itself_cmp, same_from_cmp}
use Rattle.ml_term.specs.Keys.{key_cmp}
use Rattle.ml_region.specs.Prefixes.{bits_at, IsRising, IsPlaceFor}
use Rattle.ml_region.specs.inside.Stored.{IsFirstFrom}
use Rattle.ml_region.proofs.KeyOrder.{less_trans, less_from_greater}

-- what a search by halves knows of the first list that does not come before a key
pub record Narrowing (lists : List (List Bool)) (key : List Bool) (low high : ℕ) : Type 0 where
  pub some : low ≤ high
  pub within : high ≤ length lists
  pub below : (i : ℕ) → i < low → key_cmp (bits_at lists i) key ≡ Less
  pub from : (i : ℕ) → high ≤ i → i < length lists → key_cmp (bits_at lists i) key ≢ Less

pub narrowing_begins : (lists : List (List Bool)) (key : List Bool) (n : ℕ) → n ≡ length lists → Narrowing lists key 0 n
narrowing_begins lists key n e = record {
  some = omega arith;
  within = omega arith;
  below = λ i h. absurd (omega arith);
  from = λ i h g. absurd (omega arith);
}

pub narrowing_up : (lists : List (List Bool)) (key : List Bool) (low mid high : ℕ) → IsRising lists → mid < high → Narrowing lists key low high
    → key_cmp (bits_at lists mid) key ≡ Less → Narrowing lists key (mid + 1) high
narrowing_up lists key low mid high up m n at = record {
  some = omega arith;
  within = n.within;
  below = λ i h. elim (cases_lt i mid) [
    | inl l ↦ less_trans (bits_at lists i) (bits_at lists mid) key (up.rises i mid l (omega (arith, n.within))) at
    | inr l ↦ let e : i ≡ mid = omega arith in subst (λ j. key_cmp (bits_at lists j) key ≡ Less) (sym e) at
  ];
  from = n.from;
}

pub narrowing_down : (lists : List (List Bool)) (key : List Bool) (low mid high : ℕ) → IsRising lists → low ≤ mid → mid < high → Narrowing lists key low high
    → key_cmp (bits_at lists mid) key ≢ Less → Narrowing lists key low mid
narrowing_down lists key low mid high up l m n at = record {
  some = l;
  within = omega (arith, n.within);
  below = n.below;
  from = λ i h g. elim (cases_lt mid i) [
    | inl o ↦ λ e. at (less_trans (bits_at lists mid) (bits_at lists i) key (up.rises mid i o g) e)
    | inr o ↦ let e : i ≡ mid = omega arith in subst (λ j. key_cmp (bits_at lists j) key ≢ Less) (sym e) at
  ];
}

pub narrowed : (lists : List (List Bool)) (key : List Bool) (low high : ℕ) → high ≤ low → Narrowing lists key low high → IsFirstFrom lists key low
narrowed lists key low high h n =
    let e : high ≡ low = omega (arith, n.some) in
    record {
      within = omega (arith, n.within);
      below = n.below;
      from = λ i g l. n.from i (omega arith) l;
    }

-- a key that is not at the first place that does not come before it is nowhere
pub not_among : (lists : List (List Bool)) (key : List Bool) (j : ℕ) → IsRising lists → IsFirstFrom lists key j →
    (j < length lists → key_cmp (bits_at lists j) key ≢ Equal)
    → Contains lists key → ⊥
not_among lists key j up first other there =
    let k : ℕ = there.0 in
    let k_in : k < length lists = there.1 in
    let same : bits_at lists k ≡ key = get_or_default lists k [] key k_in ∙ there.2 in
    let equal : key_cmp (bits_at lists k) key ≡ Equal = ap (λ l. key_cmp l key) same ∙ itself_cmp key in
    elim (cases_lt k j) [
      | inl l ↦ let e : Less ≡ Equal = sym (first.below k l) ∙ equal in cc
      | inr l ↦ elim (cases_lt j k) [
        | inl m ↦ first.from j (omega arith) (omega arith) (subst (λ x. key_cmp (bits_at lists j) x ≡ Less) same (up.rises j k m k_in))
        | inr m ↦ let e : k ≡ j = omega arith in other (omega arith) (subst (λ x. key_cmp (bits_at lists x) key ≡ Equal) e equal)
      ]
    ]

greater_from : (o : Ordering) → o ≢ Less → o ≢ Equal → o ≡ Greater
greater_from Less a b = absurd (a refl)
greater_from Equal a b = absurd (b refl)
greater_from Greater a b = refl

-- a key that is nowhere belongs at that place
pub fits_first : (lists : List (List Bool)) (key : List Bool) (j : ℕ) → IsFirstFrom lists key j → ((i : ℕ) → i < length lists → bits_at lists i ≢ key) →
    IsPlaceFor lists key j
fits_first lists key j first new = record {
  within = first.within;
  below = first.below;
  above = λ i h g. less_from_greater (bits_at lists i) key
      (greater_from (key_cmp (bits_at lists i) key) (first.from i h g) (λ e. new i g (same_from_cmp (bits_at lists i) key e)));
}
