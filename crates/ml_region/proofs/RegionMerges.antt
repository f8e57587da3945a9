-- Regions stay well placed where one of them goes into its parent.
use Rattle.std.proofs.Common.{◌≡◌, ◌≢◌, ◌⊎◌, inl, inr, ℕ, ◌+◌, ◌<◌, ◌≤◌, Bool, List, length, take, sym, ap, subst, ◌∙◌, arith}
use Rattle.std.specs.Prelude.{Contains}
use Rattle.std.specs.List.{remove}
use Rattle.std.specs.declared.cmp.Ordering.TheVariants.{Less, Greater}
use Rattle.std.proofs.lemmas.Bool.{cases_lt, cases_eq}
use Rattle.std.proofs.lemmas.List.Edits.{length-remove, get_or-remove_below}
use Rattle.ml_bits.specs.BitList.{Begins}
use Rattle.ml_bits.proofs.OrderLaws.{extension_cmp, begins_trans, begins_shorter}
use Rattle.ml_term.specs.Keys.{key_cmp}
use Rattle.ml_region.specs.Prefixes.{bits_at, IsRising, IsOwner, IsParent}
use Rattle.ml_region.specs.Regions.{Region, region_prefixes, empty_region, region_at, keys_of, keys_at, with_items, IsWellPlaced}
use Rattle.ml_region.specs.declared.item.Item.{Item}
use Rattle.ml_region.proofs.KeyOrder.{greater_from_less}
use Rattle.ml_region.proofs.ListInsertions.{map_remove, in_remove, rising_remove}
use Rattle.ml_region.proofs.ListInsertions.InRemove.{stays, moves}
use Rattle.ml_region.proofs.OwnerSearch.{one_place}
use Rattle.ml_region.proofs.StoredRegions.{prefix_of_region, region_prefixes_length}
use Rattle.ml_region.proofs.PlacedRegions.{with_items_prefixes, with_items_length, region_at_same, region_at_other}

-- the items that a region and its parent have together
pub record IsMerging (regions : List Region) (i parent : ℕ) (items : List Item) : Type 0 where
  pub within : i < length regions
  pub is_parent : IsParent (region_prefixes regions) (region_at regions i).prefix parent
  pub ordered : IsRising (keys_of items)
  pub few : length items ≤ 31
  pub old : (key : List Bool) → Contains (keys_of items) key → Contains (keys_at regions parent) key ⊎ Contains (keys_at regions i) key

-- a parent stands in front
pub parent_before : (regions : List Region) (i parent : ℕ) → IsWellPlaced regions → i < length regions →
    IsParent (region_prefixes regions) (region_at regions i).prefix parent → parent < i
parent_before regions i parent placed h p =
    let own : List Bool = bits_at (region_prefixes regions) i in
    let its : List Bool = bits_at (region_prefixes regions) parent in
    let same : own ≡ (region_at regions i).prefix = prefix_of_region regions i in
    let begins : Begins its own = subst (Begins its) (sym same) p.begins in
    let shorter : length its < length own = subst (λ q. length its < length q) (sym same) p.shorter in
    let less : key_cmp its own ≡ Less = extension_cmp its own begins shorter in
    elim (cases_lt parent i) [
      | inl l ↦ l
      | inr l ↦ elim (cases_lt i parent) [
        | inl m ↦
            let other : key_cmp own its ≡ Less = placed.rising.rises i parent m p.within in
            let e : Less ≡ Greater = sym less ∙ greater_from_less own its other in cc
        | inr m ↦
            let e : i ≡ parent = omega arith in
            let f : length its ≡ length own = ap (λ k. length (bits_at (region_prefixes regions) k)) (sym e) in
            absurd (omega arith)
      ]
    ]

-- the regions after the merge, and where each of them stood
abbrev merged : List Region → ℕ → ℕ → List Item → List Region
merged regions i parent items = remove (with_items regions parent items) i

record Stood (regions : List Region) (i parent : ℕ) (items : List Item) (n : ℕ) : Type 0 where
  place : ℕ
  within : place < length regions
  other : place ≢ i
  region : region_at (merged regions i parent items) n ≡ region_at (with_items regions parent items) place

stood : (regions : List Region) (i parent : ℕ) (items : List Item) (n : ℕ) → i < length regions → n < length (merged regions i parent items) →
    Stood regions i parent items n
stood regions i parent items n h l =
    let mid : List Region = with_items regions parent items in
    let long : length mid ≡ length regions = with_items_length regions parent items in
    let less : length (remove mid i) + 1 ≡ length mid = length-remove mid i (omega arith) in
    elim (in_remove mid i empty_region n (omega arith)) [
      | stays a e ↦ record { place = n; within = omega arith; other = λ f. omega arith; region = e }
      | moves a e ↦ record { place = n + 1; within = omega arith; other = λ f. omega arith; region = e }
    ]

prefix_stood : (regions : List Region) (i parent : ℕ) (items : List Item) (n : ℕ) (s : Stood regions i parent items n)
    → bits_at (region_prefixes (merged regions i parent items)) n ≡ bits_at (region_prefixes regions) s.place
prefix_stood regions i parent items n s =
    prefix_of_region (merged regions i parent items) n ∙ ap (λ (r : Region). r.prefix) s.region
    ∙ sym (prefix_of_region (with_items regions parent items) s.place) ∙ ap (λ ps. bits_at ps s.place) (with_items_prefixes regions parent items)

-- where a key was
keys_stood : (regions : List Region) (i parent : ℕ) (items : List Item) (n : ℕ) (s : Stood regions i parent items n) (key : List Bool) →
    IsMerging regions i parent items
    → parent < length regions → Contains (keys_at (merged regions i parent items) n) key
    → Contains (keys_at regions s.place) key ⊎ ((s.place ≡ parent) × Contains (keys_at regions i) key)
keys_stood regions i parent items n s key may h there =
    let mid : List Region = with_items regions parent items in
    let at : Contains (keys_at mid s.place) key = subst (λ (r : Region). Contains (keys_of r.items) key) s.region there in
    elim (cases_eq s.place parent) [
      | inl e ↦
          let own : Contains (keys_of items) key =
          subst (λ (r : Region). Contains (keys_of r.items) key) (ap (region_at mid) e ∙ region_at_same regions parent items h) at in
          elim (may.old key own) [
            | inl o ↦ inl (subst (λ m. Contains (keys_at regions m) key) (sym e) o)
            | inr o ↦ inr (e, o)
          ]
      | inr d ↦ inl (subst (λ (r : Region). Contains (keys_of r.items) key) (region_at_other regions parent s.place items d) at)
    ]

longest_stood : (regions : List Region) (i parent : ℕ) (items : List Item) (key : List Bool) (bound : ℕ) → i < length regions
    → ((m : ℕ) → m < length regions → m ≢ i → Begins (bits_at (region_prefixes regions) m) key → length (bits_at (region_prefixes regions) m) ≤ bound)
    → (k : ℕ) → k < length (region_prefixes (merged regions i parent items)) → Begins (bits_at (region_prefixes (merged regions i parent items)) k) key
    → length (bits_at (region_prefixes (merged regions i parent items)) k) ≤ bound
longest_stood regions i parent items key bound h old k l b =
    let s : Stood regions i parent items k = stood regions i parent items k h (omega (arith, region_prefixes_length (merged regions i parent items))) in
    let e : bits_at (region_prefixes (merged regions i parent items)) k ≡ bits_at (region_prefixes regions) s.place = prefix_stood regions i parent items k s in
    subst (λ q. length q ≤ bound) (sym e) (old s.place s.within s.other (subst (λ q. Begins q key) e b))

-- the owner of a key that its region keeps
owner_kept : (regions : List Region) (i parent : ℕ) (items : List Item) (n : ℕ) (s : Stood regions i parent items n) (key : List Bool) → i < length regions
    → n < length (merged regions i parent items) → IsOwner (region_prefixes regions) key s.place →
    IsOwner (region_prefixes (merged regions i parent items)) key n
owner_kept regions i parent items n s key h l owner =
    let e : bits_at (region_prefixes (merged regions i parent items)) n ≡ bits_at (region_prefixes regions) s.place = prefix_stood regions i parent items n s in
    record {
      within = omega (arith, region_prefixes_length (merged regions i parent items));
      begins = subst (λ q. Begins q key) (sym e) owner.begins;
      longest = λ k g b. subst (λ q. length (bits_at (region_prefixes (merged regions i parent items)) k) ≤ length q) (sym e)
          (longest_stood regions i parent items key (length (bits_at (region_prefixes regions) s.place)) h
          (λ m f o d. owner.longest m (omega (arith, region_prefixes_length regions)) d) k g b);
    }

-- the parent is the longest prefix of a key once the region is gone
next_longest : (regions : List Region) (i parent m : ℕ) (key : List Bool) → IsWellPlaced regions → i < length regions →
    IsParent (region_prefixes regions) (region_at regions i).prefix parent
    → IsOwner (region_prefixes regions) key i → m < length regions → m ≢ i → Begins (bits_at (region_prefixes regions) m) key
    → length (bits_at (region_prefixes regions) m) ≤ length (bits_at (region_prefixes regions) parent)
next_longest regions i parent m key placed h p owner l d b =
    let own : List Bool = bits_at (region_prefixes regions) i in
    let its : List Bool = bits_at (region_prefixes regions) m in
    let m_in : m < length (region_prefixes regions) = omega (arith, region_prefixes_length regions) in
    let most : length its ≤ length own = owner.longest m m_in b in
    let front : Begins its own = begins_shorter its own key b owner.begins most in
    let same : own ≡ (region_at regions i).prefix = prefix_of_region regions i in
    elim (cases_lt (length its) (length own)) [
      | inl f ↦ p.longest m m_in (subst (Begins its) same front) (subst (λ q. length its < length q) same f)
      | inr f ↦
          let long : length its ≡ length own = omega arith in
          let equal : its ≡ own = sym b ∙ ap (λ n. take n key) long ∙ owner.begins in
          absurd (d (one_place (region_prefixes regions) m i placed.rising m_in owner.within equal))
    ]

owner_given : (regions : List Region) (i parent : ℕ) (items : List Item) (n : ℕ) (s : Stood regions i parent items n) (key : List Bool) → IsWellPlaced regions
    → IsMerging regions i parent items → n < length (merged regions i parent items) → s.place ≡ parent → Contains (keys_at regions i) key
    → IsOwner (region_prefixes (merged regions i parent items)) key n
owner_given regions i parent items n s key placed may l at there =
    let owner : IsOwner (region_prefixes regions) key i = placed.owned i key may.within there in
    let e : bits_at (region_prefixes (merged regions i parent items)) n ≡ bits_at (region_prefixes regions) parent =
    prefix_stood regions i parent items n s ∙ ap (bits_at (region_prefixes regions)) at in
    let front : Begins (bits_at (region_prefixes regions) parent) (bits_at (region_prefixes regions) i) =
    subst (Begins (bits_at (region_prefixes regions) parent)) (sym (prefix_of_region regions i)) may.is_parent.begins in
    record {
      within = omega (arith, region_prefixes_length (merged regions i parent items));
      begins = subst (λ q. Begins q key) (sym e) (begins_trans (bits_at (region_prefixes regions) parent)
          (bits_at (region_prefixes regions) i) key front owner.begins);
      longest = λ k g b. subst (λ q. length (bits_at (region_prefixes (merged regions i parent items)) k) ≤ length q) (sym e)
          (longest_stood regions i parent items key (length (bits_at (region_prefixes regions) parent)) may.within
          (λ m f o d. next_longest regions i parent m key placed may.within may.is_parent owner f o d) k g b);
    }

pub placed_merged : (regions : List Region) (i parent : ℕ) (items : List Item) → IsWellPlaced regions → IsMerging regions i parent items
    → IsWellPlaced (remove (with_items regions parent items) i)
placed_merged regions i parent items placed may =
    let mid : List Region = with_items regions parent items in
    let new : List Region = remove mid i in
    let h : i < length regions = may.within in
    let before : parent < i = parent_before regions i parent placed h may.is_parent in
    let p_in : parent < length regions = omega arith in
    let long : length mid ≡ length regions = with_items_length regions parent items in
    let less : length new + 1 ≡ length mid = length-remove mid i (omega arith) in
    let prefixes : region_prefixes new ≡ remove (region_prefixes regions) i =
    map_remove (λ (r : Region). r.prefix) mid i ∙ ap (λ ps. remove ps i) (with_items_prefixes regions parent items) in
    let region : (n : ℕ) (s : Stood regions i parent items n) →
    (s.place ≡ parent → region_at new n ≡ record { prefix = (region_at regions parent).prefix; items = items })
    × (s.place ≢ parent → region_at new n ≡ region_at regions s.place) =
    λ n s. (λ e. s.region ∙ ap (region_at mid) e ∙ region_at_same regions parent items p_in, λ d. s.region ∙ region_at_other regions parent s.place items d) in
    record {
      some = omega arith;
      root = ap (λ (r : Region). r.prefix) (get_or-remove_below mid i empty_region 0 (omega arith) (omega arith))
          ∙ sym (prefix_of_region mid 0) ∙ ap (λ ps. bits_at ps 0) (with_items_prefixes regions parent items) ∙ prefix_of_region regions 0 ∙ placed.root;
      rising = subst IsRising (sym prefixes) (rising_remove (region_prefixes regions) i placed.rising (omega (arith, region_prefixes_length regions)));
      ordered = λ n l.
          let s : Stood regions i parent items n = stood regions i parent items n h l in
          elim (cases_eq s.place parent) [
            | inl e ↦ subst (λ (r : Region). IsRising (keys_of r.items)) (sym ((region n s).0 e)) may.ordered
            | inr d ↦ subst (λ (r : Region). IsRising (keys_of r.items)) (sym ((region n s).1 d)) (placed.ordered s.place s.within)
          ];
      few = λ n l.
          let s : Stood regions i parent items n = stood regions i parent items n h l in
          elim (cases_eq s.place parent) [
            | inl e ↦ subst (λ (r : Region). length r.items ≤ 31) (sym ((region n s).0 e)) may.few
            | inr d ↦ subst (λ (r : Region). length r.items ≤ 31) (sym ((region n s).1 d)) (placed.few s.place s.within)
          ];
      owned = λ n key l there.
          let s : Stood regions i parent items n = stood regions i parent items n h l in
          elim (keys_stood regions i parent items n s key may p_in there) [
            | inl o ↦ owner_kept regions i parent items n s key h l (placed.owned s.place key s.within o)
            | inr o ↦ owner_given regions i parent items n s key placed may l o.0 o.1
          ];
      apart = λ n m key other l g there too b.
          let s : Stood regions i parent items n = stood regions i parent items n h l in
          let t : Stood regions i parent items m = stood regions i parent items m h g in
          elim (keys_stood regions i parent items n s key may p_in there) [
            | inl o ↦ elim (keys_stood regions i parent items m t other may p_in too) [
              | inl q ↦ placed.apart s.place t.place key other s.within t.within o q b
              | inr q ↦ placed.apart s.place i key other s.within h o q.1 b
            ]
            | inr o ↦ elim (keys_stood regions i parent items m t other may p_in too) [
              | inl q ↦ placed.apart i t.place key other h t.within o.1 q b
              | inr q ↦ placed.apart i i key other h h o.1 q.1 b
            ]
          ];
    }
