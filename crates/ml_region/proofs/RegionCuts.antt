-- Regions stay well placed where a region is cut.
use Rattle.std.proofs.Common.{◌≡◌, ◌≢◌, inl, inr, ℕ, ◌<◌, ◌≤◌, Bool, true, false, not, List, length, take, sym, ap, subst, ◌∙◌, arith}
use Rattle.std.specs.Prelude.{Contains}
use Rattle.std.specs.List.{insert}
use Rattle.std.proofs.lemmas.Bool.{cases_lt, cases_eq}
use Rattle.ml_bits.specs.BitList.{Begins}
use Rattle.ml_bits.proofs.OrderLaws.{begins_trans, begins_shorter}
use Rattle.ml_term.specs.Patterns.{begins}
use Rattle.ml_key.proofs.BitBeginnings.{begun, begins_so}
use Rattle.ml_region.specs.Prefixes.{bits_at, IsPlaceFor, IsOwner}
use Rattle.ml_region.specs.Regions.{Region, region_prefixes, region_at, items_at, keys_of, keys_at, with_items, IsWellPlaced}
use Rattle.ml_region.specs.Changes.{items_below, items_beside}
use Rattle.ml_region.specs.declared.item.Item.{Item}
use Rattle.ml_region.proofs.OwnerSearch.{one_place}
use Rattle.ml_region.proofs.StoredRegions.{prefix_of_region, region_prefixes_length}
use Rattle.ml_region.proofs.PlacedRegions.{placed_with_items, with_items_prefixes, with_items_length, items_same, items_other}
use Rattle.ml_region.proofs.RegionItems.{may_lessen}
use Rattle.ml_region.proofs.FilteredItems.{passing_keys, passing_rising, passing_length}
use Rattle.ml_region.proofs.InsertedRegions.{placed_insert}

-- a beginning of a key that a region owns, longer than the region's prefix
pub record IsCutting (regions : List Region) (i : ℕ) (key p : List Bool) : Type 0 where
  pub within : i < length regions
  pub there : Contains (keys_at regions i) key
  pub begins : Begins p key
  pub longer : length (region_at regions i).prefix < length p

own_length : (regions : List Region) (i : ℕ) → length (bits_at (region_prefixes regions) i) ≡ length (region_at regions i).prefix
own_length regions i = ap length (prefix_of_region regions i)

-- it is no prefix yet
pub cutting_is_new : (regions : List Region) (i m : ℕ) (key p : List Bool) → IsWellPlaced regions → IsCutting regions i key p → m < length regions
    → bits_at (region_prefixes regions) m ≢ p
cutting_is_new regions i m key p placed cut h e =
    let owner : IsOwner (region_prefixes regions) key i = placed.owned i key cut.within cut.there in
    let most : length (bits_at (region_prefixes regions) m) ≤ length (bits_at (region_prefixes regions) i) =
    owner.longest m (omega (arith, region_prefixes_length regions)) (subst (λ q. Begins q key) (sym e) cut.begins) in
    let same : length (bits_at (region_prefixes regions) m) ≡ length p = ap length e in
    let longer : length (region_at regions i).prefix < length p = cut.longer in
    omega (arith, own_length regions i)

not_shorter : (regions : List Region) (i m : ℕ) (key p other : List Bool) → IsWellPlaced regions → IsCutting regions i key p → m < length regions → m ≢ i
    → Contains (keys_at regions m) other → Begins p other → length (bits_at (region_prefixes regions) m) < length p → ⊥
not_shorter regions i m key p other placed cut h d there b l =
    let own : List Bool = bits_at (region_prefixes regions) i in
    let its : List Bool = bits_at (region_prefixes regions) m in
    let owner : IsOwner (region_prefixes regions) key i = placed.owned i key cut.within cut.there in
    let other_owner : IsOwner (region_prefixes regions) other m = placed.owned m other h there in
    let own_p : Begins own p = begins_shorter own p key owner.begins cut.begins (omega (arith, own_length regions i, cut.longer)) in
    let its_p : Begins its p = begins_shorter its p other other_owner.begins b (omega arith) in
    let most : length its ≤ length own = owner.longest m (omega (arith, region_prefixes_length regions)) (begins_trans its p key its_p cut.begins) in
    let least : length own ≤ length its = other_owner.longest i (omega (arith, region_prefixes_length regions, cut.within))
    (begins_trans own p other own_p b) in
    let long : length its ≡ length own = omega arith in
    let same : its ≡ own = sym its_p ∙ ap (λ n. take n p) long ∙ own_p in
    d (one_place (region_prefixes regions) m i placed.rising (omega (arith, region_prefixes_length regions))
    (omega (arith, region_prefixes_length regions, cut.within)) same)

-- what it begins in another region has a longer owner
others_longer : (regions : List Region) (i m : ℕ) (key p other : List Bool) → IsWellPlaced regions → IsCutting regions i key p → m < length regions → m ≢ i
    → Contains (keys_at regions m) other → Begins p other → length p ≤ length (bits_at (region_prefixes regions) m)
others_longer regions i m key p other placed cut h d there b =
    elim (cases_lt (length (bits_at (region_prefixes regions) m)) (length p)) [
      | inl l ↦ absurd (not_shorter regions i m key p other placed cut h d there b l)
      | inr l ↦ l
    ]

not_true : (b : Bool) → not b ≡ true → b ≡ true → ⊥
not_true true n t = let f : false ≡ true = n in cc
not_true false n t = let f : false ≡ true = t in cc

-- the regions where those items that begin with it are gone
pub placed_beside : (regions : List Region) (i : ℕ) (p : List Bool) → IsWellPlaced regions → i < length regions
    → IsWellPlaced (with_items regions i (items_beside p (items_at regions i)))
placed_beside regions i p placed h =
    let items : List Item = items_at regions i in
    placed_with_items regions i (items_beside p items) placed
    (may_lessen regions i (items_beside p items) placed h (passing_rising (λ k. not (begins p k)) items (placed.ordered i h))
    (omega (arith, placed.few i h, passing_length (λ k. not (begins p k)) items)) (λ k c. (passing_keys (λ k. not (begins p k)) items k c).0))

-- and they are a region of their own
pub placed_cut : (regions : List Region) (i c : ℕ) (key p : List Bool) → IsWellPlaced regions → IsCutting regions i key p →
    IsPlaceFor (region_prefixes regions) p c
    → IsWellPlaced (insert (with_items regions i (items_beside p (items_at regions i))) c (record { prefix = p; items = items_below p (items_at regions i) }))
placed_cut regions i c key p placed cut fits =
    let items : List Item = items_at regions i in
    let rest : List Region = with_items regions i (items_beside p items) in
    let h : i < length regions = cut.within in
    let prefixes : region_prefixes rest ≡ region_prefixes regions = with_items_prefixes regions i (items_beside p items) in
    let long : length rest ≡ length regions = with_items_length regions i (items_beside p items) in
    let below : (k : List Bool) → Contains (keys_of (items_below p items)) k →
    Contains (keys_of items) k × (begins p k ≡ true) = λ k d. passing_keys (begins p) items k d in
    let here : keys_at rest i ≡ keys_of (items_beside p items) = ap keys_of (items_same regions i (items_beside p items) h) in
    let there : (m : ℕ) → m ≢ i → keys_at rest m ≡ keys_at regions m = λ m d. ap keys_of (items_other regions i m (items_beside p items) d) in
    let was : (m : ℕ) (k : List Bool) → Contains (keys_at rest m) k → Contains (keys_at regions m) k = λ m k d. elim (cases_eq m i) [
      | inl e ↦
          let d' : Contains (keys_of (items_beside p items)) k = subst (λ ks. Contains ks k) here (subst (λ n. Contains (keys_at rest n) k) e d) in
          subst (λ n. Contains (keys_at regions n) k) (sym e) (passing_keys (λ k. not (begins p k)) items k d').0
      | inr n ↦ subst (λ ks. Contains ks k) (there m n) d
    ] in
    placed_insert rest c (record { prefix = p; items = items_below p items }) (placed_beside regions i p placed h) (record {
      fits = subst (λ ps. IsPlaceFor ps p c) (sym prefixes) fits;
      ordered = passing_rising (begins p) items (placed.ordered i h);
      few = omega (arith, placed.few i h, passing_length (begins p) items);
      begins = λ k d. begun p k (below k d).1;
      longest = λ k m d g b.
          let owner : IsOwner (region_prefixes regions) k i = placed.owned i k h (below k d).0 in
          let most : length (bits_at (region_prefixes regions) m) ≤ length (bits_at (region_prefixes regions) i) =
          owner.longest m (omega (arith, region_prefixes_length regions)) (subst (λ ps. Begins (bits_at ps m) k) prefixes b) in
          subst (λ ps. length (bits_at ps m) ≤ length p) (sym prefixes) (omega (arith, own_length regions i, cut.longer));
      others = λ m k g d b. elim (cases_eq m i) [
        | inl e ↦
            let d' : Contains (keys_of (items_beside p items)) k = subst (λ ks. Contains ks k) here (subst (λ n. Contains (keys_at rest n) k) e d) in
            absurd (not_true (begins p k) (passing_keys (λ k. not (begins p k)) items k d').1 (begins_so p k b))
        | inr n ↦
            subst (λ ps. length p ≤ length (bits_at ps m)) (sym prefixes)
            (others_longer regions i m key p k placed cut (omega arith) n (subst (λ ks. Contains ks k) (there m n) d) b)
      ];
      inside = λ k l d e b. placed.apart i i k l h h (below k d).0 (below l e).0 b;
      outside = λ m k l g d e. (placed.apart i m k l h (omega arith) (below k d).0 (was m l e), placed.apart m i l k (omega arith) h (was m l e) (below k d).0);
    })
