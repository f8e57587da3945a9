-- Regions stay well placed where the items of one of them change.
use Rattle.std.proofs.Common.{◌≡◌, ◌≢◌, inl, inr, ℕ, ◌<◌, ◌≤◌, Bool, List, [], length, set, sym, ap, subst, ◌∙◌, arith, Contains}
use Rattle.std.proofs.Math.ListN.{length-set}
use Rattle.std.proofs.lemmas.Bool.{cases_eq}
use Rattle.std.proofs.lemmas.List.{map-set, set-get_or, get_or-set_same, get_or-set_other}
use Rattle.ml_bits.specs.BitList.{Begins}
use Rattle.ml_region.specs.Prefixes.{bits_at, IsRising, IsOwner}
use Rattle.ml_region.specs.Regions.{Region, region_prefixes, empty_region, region_at, items_at, keys_of, keys_at, with_items, IsWellPlaced}
use Rattle.ml_region.specs.declared.item.Item.{Item}
use Rattle.ml_region.proofs.StoredRegions.{prefix_of_region}

pub with_items_prefixes : (regions : List Region) (i : ℕ) (items : List Item) → region_prefixes (with_items regions i items) ≡ region_prefixes regions
with_items_prefixes regions i items =
    map-set (λ (r : Region). r.prefix) regions i (record { prefix = (region_at regions i).prefix; items = items })
    ∙ ap (set (region_prefixes regions) i) (sym (prefix_of_region regions i))
    ∙ set-get_or (region_prefixes regions) i []

pub with_items_length : (regions : List Region) (i : ℕ) (items : List Item) → length (with_items regions i items) ≡ length regions
with_items_length regions i items = length-set regions i (record { prefix = (region_at regions i).prefix; items = items })

pub region_at_same : (regions : List Region) (i : ℕ) (items : List Item) → i < length regions
    → region_at (with_items regions i items) i ≡ record { prefix = (region_at regions i).prefix; items = items }
region_at_same regions i items h = get_or-set_same regions i (record { prefix = (region_at regions i).prefix; items = items }) empty_region h

pub region_at_other : (regions : List Region) (i k : ℕ) (items : List Item) → k ≢ i → region_at (with_items regions i items) k ≡ region_at regions k
region_at_other regions i k items d = get_or-set_other regions i k (record { prefix = (region_at regions i).prefix; items = items }) empty_region d

pub items_same : (regions : List Region) (i : ℕ) (items : List Item) → i < length regions → items_at (with_items regions i items) i ≡ items
items_same regions i items h = ap (λ (r : Region). r.items) (region_at_same regions i items h)

pub items_other : (regions : List Region) (i k : ℕ) (items : List Item) → k ≢ i → items_at (with_items regions i items) k ≡ items_at regions k
items_other regions i k items d = ap (λ (r : Region). r.items) (region_at_other regions i k items d)

-- what the items that come to a place must keep
pub record MayStand (regions : List Region) (i : ℕ) (items : List Item) : Type 0 where
  pub within : i < length regions
  pub ordered : IsRising (keys_of items)
  pub few : length items ≤ 31
  pub owned : (key : List Bool) → Contains (keys_of items) key → IsOwner (region_prefixes regions) key i
  pub inside : (key other : List Bool) → Contains (keys_of items) key → Contains (keys_of items) other → Begins key other → key ≡ other
  pub outside : (k : ℕ) (key other : List Bool) → k < length regions → k ≢ i → Contains (keys_of items) key → Contains (keys_at regions k) other
      → (Begins key other → key ≡ other) × (Begins other key → other ≡ key)

pub placed_with_items : (regions : List Region) (i : ℕ) (items : List Item) → IsWellPlaced regions → MayStand regions i items →
    IsWellPlaced (with_items regions i items)
placed_with_items regions i items placed may =
    let new : List Region = with_items regions i items in
    let long : length new ≡ length regions = with_items_length regions i items in
    let prefixes : region_prefixes new ≡ region_prefixes regions = with_items_prefixes regions i items in
    let here : keys_at new i ≡ keys_of items = ap keys_of (items_same regions i items may.within) in
    let there : (k : ℕ) → k ≢ i → keys_at new k ≡ keys_at regions k = λ k d. ap keys_of (items_other regions i k items d) in
    record {
      some = omega (arith, placed.some, long);
      root = sym (prefix_of_region new 0) ∙ ap (λ ps. bits_at ps 0) prefixes ∙ prefix_of_region regions 0 ∙ placed.root;
      rising = subst IsRising (sym prefixes) placed.rising;
      ordered = λ k h. elim (cases_eq k i) [
        | inl e ↦ subst (λ j. IsRising (keys_at new j)) (sym e) (subst IsRising (sym here) may.ordered)
        | inr d ↦ subst IsRising (sym (there k d)) (placed.ordered k (omega (arith, long)))
      ];
      few = λ k h. elim (cases_eq k i) [
        | inl e ↦ subst (λ j. length (items_at new j) ≤ 31) (sym e) (subst (λ xs. length xs ≤ 31) (sym (items_same regions i items may.within)) may.few)
        | inr d ↦ subst (λ xs. length xs ≤ 31) (sym (items_other regions i k items d)) (placed.few k (omega (arith, long)))
      ];
      owned = λ k key h c. subst (λ ps. IsOwner ps key k) (sym prefixes) (elim (cases_eq k i) [
        | inl e ↦
            let c' : Contains (keys_of items) key = subst (λ ks. Contains ks key) here (subst (λ j. Contains (keys_at new j) key) e c) in
            subst (IsOwner (region_prefixes regions) key) (sym e) (may.owned key c')
        | inr d ↦ placed.owned k key (omega (arith, long)) (subst (λ ks. Contains ks key) (there k d) c)
      ]);
      apart = λ k m key other h g c d b. elim (cases_eq k i) [
        | inl e ↦
            let c' : Contains (keys_of items) key = subst (λ ks. Contains ks key) here (subst (λ j. Contains (keys_at new j) key) e c) in
            elim (cases_eq m i) [
              | inl f ↦ may.inside key other c' (subst (λ ks. Contains ks other) here (subst (λ j. Contains (keys_at new j) other) f d)) b
              | inr f ↦ (may.outside m key other (omega (arith, long)) f c' (subst (λ ks. Contains ks other) (there m f) d)).0 b
            ]
        | inr e ↦
            let c' : Contains (keys_at regions k) key = subst (λ ks. Contains ks key) (there k e) c in
            elim (cases_eq m i) [
              | inl f ↦ (may.outside k other key (omega (arith, long)) e
                  (subst (λ ks. Contains ks other) here (subst (λ j. Contains (keys_at new j) other) f d)) c').1 b
              | inr f ↦ placed.apart k m key other (omega (arith, long)) (omega (arith, long)) c' (subst (λ ks. Contains ks other) (there m f) d) b
            ]
      ];
    }
