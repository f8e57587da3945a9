-- Where a thin region meets its parent and they are split again, the new prefix is that of no region.
use Rattle.std.proofs.Common.{◌≡◌, ℕ, ◌+◌, ◌-◌, ◌<◌, ◌≤◌, Bool, List, [], ◌++◌, length, take, refl, sym, ap, ◌∙◌, subst, inl, inr, arith, length-append}
use Rattle.std.specs.List.{filter}
use Rattle.std.proofs.lemmas.Bool.{cases_lt}
use Rattle.std.proofs.lemmas.List.{length-map, get_or_append_left, get_or-append_right}
use Rattle.std.proofs.lemmas.List.Elements.{filter-append}
use Rattle.ml_bits.specs.BitList.{Begins}
use Rattle.ml_bits.proofs.OrderLaws.{begins_shorter, begins_both}
use Rattle.ml_term.specs.Patterns.{begins}
use Rattle.ml_key.proofs.BitBeginnings.{begun}
use Rattle.ml_region.specs.Prefixes.{bits_at, IsOwner, IsParent}
use Rattle.ml_region.specs.Regions.{Region, IsWellPlaced, region_at, region_prefixes, keys_at, items_at}
use Rattle.ml_region.specs.declared.item.Item.{Item}
use Rattle.ml_split.specs.Splitting.{count_under, IsFair, IsSplit}
use Rattle.ml_split.proofs.KeyCounts.{none_pass}
use Rattle.ml_split.proofs.SplitWalk.{count_within, is_fair}
use Rattle.ml_split.proofs.RegionKeys.{rising_once, prefix_is, owned_at, parent_within, meeting_apart, meeting_begins}

long_as : (xs ys : List Bool) → xs ≡ ys → length xs ≡ length ys
long_as xs ys e = ap length e

-- a key of the parent begins with no prefix longer than the parent's that some region has
not_in_parent : (regions : List Region) → IsWellPlaced regions → (p q b : ℕ) → p < length regions → q < length regions → b < length (keys_at regions p)
    → length (region_at regions p).prefix < length (region_at regions q).prefix → Begins (region_at regions q).prefix (bits_at (keys_at regions p) b) → ⊥
not_in_parent regions well p q b h k l longer begin =
    let own : IsOwner (region_prefixes regions) (bits_at (keys_at regions p) b) p = owned_at regions well p b h l in
    let at_q = prefix_is regions q k in
    let at_p = prefix_is regions p h in
    let within : q < length (region_prefixes regions) = omega (arith, length-map regions (λ (r : Region). r.prefix)) in
    let most = own.longest q within (subst (λ x. Begins x (bits_at (keys_at regions p) b)) (sym at_q) begin) in
    omega (
      arith,
      most,
      long_as (bits_at (region_prefixes regions) q) (region_at regions q).prefix at_q,
      long_as (bits_at (region_prefixes regions) p) (region_at regions p).prefix at_p,
      longer,
    )

-- a key of a region begins with no other prefix longer than its parent's
not_in_child : (regions : List Region) → IsWellPlaced regions → (i p q a : ℕ) → i < length regions → q < length regions
    → IsParent (region_prefixes regions) (region_at regions i).prefix p → a < length (keys_at regions i)
    → length (region_at regions p).prefix < length (region_at regions q).prefix → Begins (region_at regions q).prefix (bits_at (keys_at regions i) a) → q ≡ i
not_in_child regions well i p q a h k parent l longer begin =
    let prefixes : List (List Bool) = region_prefixes regions in
    let key : List Bool = bits_at (keys_at regions i) a in
    let own : IsOwner prefixes key i = owned_at regions well i a h l in
    let at_q : bits_at prefixes q ≡ (region_at regions q).prefix = prefix_is regions q k in
    let at_i : bits_at prefixes i ≡ (region_at regions i).prefix = prefix_is regions i h in
    let at_p : bits_at prefixes p ≡ (region_at regions p).prefix = prefix_is regions p (parent_within regions i p parent) in
    let within : q < length prefixes = omega (arith, length-map regions (λ (r : Region). r.prefix)) in
    let begin_q : Begins (bits_at prefixes q) key = subst (λ x. Begins x key) (sym at_q) begin in
    let most : length (bits_at prefixes q) ≤ length (bits_at prefixes i) = own.longest q within begin_q in
    let above : Begins (bits_at prefixes q) (bits_at prefixes i) = begins_shorter (bits_at prefixes q) (bits_at prefixes i) key begin_q own.begins most in
    elim (cases_lt (length (bits_at prefixes q)) (length (bits_at prefixes i))) [
      | inl shorter ↦
          let above' : Begins (bits_at prefixes q) (region_at regions i).prefix = subst (Begins (bits_at prefixes q)) at_i above in
          let high : length (bits_at prefixes q) ≤ length (bits_at prefixes p) =
          parent.longest q within above' (omega (arith, shorter, long_as (bits_at prefixes i) (region_at regions i).prefix at_i)) in
          absurd (omega (
            arith,
            high,
            long_as (bits_at prefixes q) (region_at regions q).prefix at_q,
            long_as (bits_at prefixes p) (region_at regions p).prefix at_p,
            longer,
          ))
      | inr as_long ↦
          let below : Begins (bits_at prefixes i) (bits_at prefixes q) =
          begins_shorter (bits_at prefixes i) (bits_at prefixes q) key own.begins begin_q as_long in
          rising_once prefixes well.rising q i within own.within (begins_both (bits_at prefixes q) (bits_at prefixes i) above below)
    ]

-- no region has the new prefix, where the region is thin and the two are split
pub new_prefix : (regions : List Region) → IsWellPlaced regions → (i p : ℕ) → i < length regions →
    IsParent (region_prefixes regions) (region_at regions i).prefix p
    → length (items_at regions i) < 8 → 24 < length (keys_at regions i ++ keys_at regions p)
    → (new : List Bool) → IsFair (keys_at regions i ++ keys_at regions p) (region_at regions p).prefix new
    → (q : ℕ) → q < length regions → (region_at regions q).prefix ≡ new → ⊥
new_prefix regions well i p h parent thin many new fair q k e =
    let xs : List (List Bool) = keys_at regions i in
    let ys : List (List Bool) = keys_at regions p in
    let inside : p < length regions = parent_within regions i p parent in
    let longer : length (region_at regions p).prefix < length (region_at regions q).prefix = omega (arith, fair.longer, ap length e) in
    let begin : Begins (region_at regions q).prefix (bits_at (xs ++ ys) fair.place) =
    subst (λ x. Begins x (bits_at (xs ++ ys) fair.place)) (sym e) fair.begins_key in
    let same : q ≡ i =
    elim (cases_lt fair.place (length xs)) [
      | inl l ↦ not_in_child regions well i p q fair.place h k parent l longer
          (subst (Begins (region_at regions q).prefix) (get_or_append_left xs ys [] fair.place l) begin)
      | inr l ↦
          let there : fair.place - length xs < length ys = omega (arith, fair.place_within, length-append xs ys) in
          absurd (not_in_parent regions well p q (fair.place - length xs) inside k there longer
          (subst (Begins (region_at regions q).prefix) (get_or-append_right xs ys (length xs) fair.place [] refl l) begin))
    ] in
    let none : count_under new ys ≡ 0 =
    none_pass (begins new) [] ys (λ b l t. not_in_parent regions well p q b inside k l longer
    (subst (λ x. Begins x (bits_at ys b)) (sym e) (begun new (bits_at ys b) t))) in
    let few : count_under new xs ≤ length xs = count_within new xs in
    let parts : count_under new (xs ++ ys) ≡ count_under new xs + count_under new ys =
    ap length (filter-append (begins new) xs ys) ∙ length-append (filter (begins new) xs) (filter (begins new) ys) in
    omega (arith, fair.at_least, parts, none, few, many, thin, length-map (items_at regions i) (λ (x : Item). x.key.bits))

-- the split of a region and its parent is fair, however its prefix is read
pub meeting_fair : (regions : List Region) → IsWellPlaced regions → (i p : ℕ) → i < length regions →
    IsParent (region_prefixes regions) (region_at regions i).prefix p
    → 24 < length (keys_at regions i ++ keys_at regions p) → (prefix new same : List Bool) → prefix ≡ (region_at regions p).prefix → new ≡ same
    → IsSplit (keys_at regions i ++ keys_at regions p) prefix new → IsFair (keys_at regions i ++ keys_at regions p) (region_at regions p).prefix same
meeting_fair regions well i p h parent many prefix new same e f split =
    let keys : List (List Bool) = keys_at regions i ++ keys_at regions p in
    let there : IsSplit keys (region_at regions p).prefix same =
    subst (IsSplit keys (region_at regions p).prefix) f (subst (λ q. IsSplit keys q new) e split) in
    is_fair keys (region_at regions p).prefix same (omega arith) (meeting_apart regions well i p h parent) (meeting_begins regions well i p h parent) there

-- a key of the two is one of the region's or one of its parent's
pub first_key : (regions : List Region) (i p a bits : ℕ) → a < length (items_at regions i)
    → take bits (bits_at (keys_at regions i ++ keys_at regions p) a) ≡ take bits (bits_at (keys_at regions i) a)
first_key regions i p a bits h =
    ap (take bits) (get_or_append_left (keys_at regions i) (keys_at regions p) [] a
    (omega (arith, h, length-map (items_at regions i) (λ (x : Item). x.key.bits))))

pub second_key : (regions : List Region) (i p a own bits : ℕ) → own ≡ length (items_at regions i) → own ≤ a
    → take bits (bits_at (keys_at regions i ++ keys_at regions p) a) ≡ take bits (bits_at (keys_at regions p) (a - own))
second_key regions i p a own bits e h =
    ap (take bits) (get_or-append_right (keys_at regions i) (keys_at regions p) own a [] (length-map (items_at regions i) (λ (x : Item). x.key.bits) ∙ sym e) h)
