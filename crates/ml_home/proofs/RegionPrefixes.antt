-- The prefixes of regions that change.
use Rattle.std.proofs.Common.{◌≡◌, inl, inr, ℕ, suc, ◌+◌, ◌<◌, Bool, List, [], ◌∷◌, ◌++◌, length, get_or, refl, sym, ap, ◌∙◌, subst, arith}
use Rattle.std.specs.Prelude.{Contains}
use Rattle.std.specs.List.{insert, remove}
use Rattle.std.proofs.lemmas.Bool.{cases_lt}
use Rattle.std.proofs.lemmas.List.{get_or_default}
use Rattle.std.proofs.lemmas.List.Edits.{length-remove}
use Rattle.std.proofs.lemmas.List.Elements.{Contains-get_or, Contains-append_cases}
use Rattle.std.proofs.lemmas.List.Sorted.{Contains-permutation, IsPermutation-insert, IsPermutation-remove, IsPermutation-sym}
use Rattle.ml_region.specs.Changes.{IsCut, IsMarked, IsMerged, IsPut, IsTaken, items_beside}
use Rattle.ml_region.specs.Prefixes.{IsOwner, IsParent, IsPlaceFor, IsRising, bits_at}
use Rattle.ml_region.specs.Regions.{IsWellPlaced, Region, items_at, keys_at, region_at, region_prefixes, with_items}
use Rattle.ml_region.specs.declared.item.Id.{Id}
use Rattle.ml_region.specs.declared.item.Item.{Item}
use Rattle.ml_region.proofs.KeyOrder.{less_is_not_equal}
use Rattle.ml_region.proofs.ListInsertions.{contains_remove, in_remove, map_insert, map_remove, moves, stays}
use Rattle.ml_region.proofs.OwnerSearch.{one_place}
use Rattle.ml_region.proofs.PlacedRegions.{with_items_prefixes}
use Rattle.ml_region.proofs.StoredRegions.{prefix_of_region, region_prefixes_length}
use Rattle.ml_split.specs.RegionSplits.{IsNewTo, IsSettled, IsSplitFor, goes_in, splits_again}
use Rattle.ml_split.specs.Splitting.{IsFair}
use Rattle.ml_split.proofs.RegionKeys.{one_parent}
use Rattle.ml_home.specs.Homes.{Divides, HasCome, HasMoved, IsAbove, IsHome, went, parted}
use Rattle.ml_home.proofs.PrefixHomes.{above_at, contains_case, home_at, stays_behind, taken_above}

-- ---- one prefix more or less

contains_first : (x : List Bool) (xs : List (List Bool)) → Contains (x ∷ xs) x
contains_first x xs = (0, omega arith, refl)

contains_later : (x : List Bool) (xs : List (List Bool)) (p : List Bool) → Contains xs p → Contains (x ∷ xs) p
contains_later x xs p (k, l, e) = (suc k, omega (arith, l), e)

come_by_insert : (ps : List (List Bool)) (p : List Bool) (c : ℕ) → IsPlaceFor ps p c → HasCome ps (insert ps c p) p
come_by_insert ps p c fits =
    let moved = IsPermutation-insert ps c p in
    record {
      fresh = λ there.
          let at : bits_at ps there.0 ≡ p = get_or_default ps there.0 [] p there.1 ∙ there.2 in
          elim (cases_lt there.0 c) [
            | inl l ↦ less_is_not_equal (bits_at ps there.0) p (fits.below there.0 l) at
            | inr l ↦ less_is_not_equal p (bits_at ps there.0) (fits.above there.0 l there.1) (sym at)
          ];
      came = Contains-permutation (p ∷ ps) (insert ps c p) p moved (contains_first p ps);
      kept = λ q there. Contains-permutation (p ∷ ps) (insert ps c p) q moved (contains_later p ps q there);
      only = λ q there.
          contains_case p ps q (Contains-permutation (insert ps c p) (p ∷ ps) q (IsPermutation-sym (p ∷ ps) (insert ps c p) moved) there);
    }

come_by_remove : (ps : List (List Bool)) (i : ℕ) → IsRising ps → i < length ps → HasCome (remove ps i) ps (bits_at ps i)
come_by_remove ps i up h =
    let p : List Bool = bits_at ps i in
    let long : length (remove ps i) + 1 ≡ length ps = length-remove ps i h in
    let moved = IsPermutation-remove ps i p h (get_or_default ps i [] p h) in
    record {
      fresh = λ there.
          let within : there.0 < length (remove ps i) = there.1 in
          let at : bits_at (remove ps i) there.0 ≡ p = get_or_default (remove ps i) there.0 [] p there.1 ∙ there.2 in
          elim (in_remove ps i [] there.0 h) [
            | stays l s ↦
                let same : there.0 ≡ i = one_place ps there.0 i up (omega arith) h (sym s ∙ at) in
                omega arith
            | moves l s ↦
                let same : there.0 + 1 ≡ i = one_place ps (there.0 + 1) i up (omega arith) h (sym s ∙ at) in
                omega arith
          ];
      came = Contains-get_or ps i [] h;
      kept = λ q there. contains_remove ps i q h there;
      only = λ q there. contains_case p (remove ps i) q (Contains-permutation ps (p ∷ remove ps i) q moved there);
    }

-- ---- regions

pub rooted : (regions : List Region) → IsWellPlaced regions → Contains (region_prefixes regions) []
rooted regions well =
    let within : 0 < length (region_prefixes regions) = omega (arith, well.some, region_prefixes_length regions) in
    subst (Contains (region_prefixes regions)) (prefix_of_region regions 0 ∙ well.root) (Contains-get_or (region_prefixes regions) 0 [] within)

same_by : (old : List Region) (i : ℕ) (items : List Item) (new : List Region) → new ≡ with_items old i items → region_prefixes new ≡ region_prefixes old
same_by old i items new e = ap region_prefixes e ∙ with_items_prefixes old i items

pub put_prefixes : (old new : List Region) (item : Item) → IsPut old item new → region_prefixes new ≡ region_prefixes old
put_prefixes old new item put = same_by old put.region _ new put.same

pub taken_prefixes : (old new : List Region) (key : List Bool) (item : Item) → IsTaken old key item new → region_prefixes new ≡ region_prefixes old
taken_prefixes old new key item taken = same_by old taken.found.region _ new taken.same

pub marked_prefixes : (old new : List Region) (key : List Bool) (committed : Bool) (id : Id) → IsMarked old key committed id new →
    region_prefixes new ≡ region_prefixes old
marked_prefixes old new key committed id marked = same_by old marked.found.region _ new marked.same

pub cut_prefixes : (old new : List Region) (i : ℕ) (prefix : List Bool) → IsCut old i prefix new →
    HasCome (region_prefixes old) (region_prefixes new) prefix
cut_prefixes old new i prefix cut =
    let rest : List Region = with_items old i (items_beside prefix (items_at old i)) in
    let is : region_prefixes new ≡ insert (region_prefixes old) cut.place prefix =
    ap region_prefixes cut.same ∙ map_insert (λ (r : Region). r.prefix) rest cut.place _
    ∙ ap (λ ps. insert ps cut.place prefix) (with_items_prefixes old i (items_beside prefix (items_at old i))) in
    subst (λ ps. HasCome (region_prefixes old) ps prefix) (sym is) (come_by_insert (region_prefixes old) prefix cut.place cut.fits)

pub merged_prefixes : (old new : List Region) (i : ℕ) → IsWellPlaced old → i < length old → IsMerged old i new →
    HasCome (region_prefixes new) (region_prefixes old) (region_at old i).prefix
merged_prefixes old new i well h merged =
    let is : region_prefixes new ≡ remove (region_prefixes old) i =
    ap region_prefixes merged.same ∙ map_remove (λ (r : Region). r.prefix) (with_items old merged.parent merged.items) i
    ∙ ap (λ ps. remove ps i) (with_items_prefixes old merged.parent merged.items) in
    subst (λ ps. HasCome ps (region_prefixes old) (region_at old i).prefix) (sym is)
    (subst (HasCome (remove (region_prefixes old) i) (region_prefixes old)) (prefix_of_region old i)
    (come_by_remove (region_prefixes old) i well.rising (omega (arith, h, region_prefixes_length old))))

pub above_of : (regions : List Region) (prefix : List Bool) (parent : ℕ) → IsParent (region_prefixes regions) prefix parent →
    IsAbove (region_prefixes regions) prefix (region_at regions parent).prefix
above_of regions prefix parent is =
    subst (IsAbove (region_prefixes regions) prefix) (prefix_of_region regions parent) (above_at (region_prefixes regions) prefix parent is)

pub home_by : (regions : List Region) (key : List Bool) (i : ℕ) → IsOwner (region_prefixes regions) key i →
    IsHome (region_prefixes regions) key (region_at regions i).prefix
home_by regions key i owner = subst (IsHome (region_prefixes regions) key) (prefix_of_region regions i) (home_at (region_prefixes regions) key i owner)

-- ---- a region is split

-- the key at a place of a region's keys and a further one is at home there
pub home_among : (regions : List Region) (i : ℕ) (key other : List Bool) → IsWellPlaced regions → i < length regions → IsNewTo regions i key →
    Contains (keys_at regions i ++ key ∷ []) other → IsHome (region_prefixes regions) other (region_at regions i).prefix
home_among regions i key other well h new there = elim (Contains-append_cases (keys_at regions i) (key ∷ []) other there) [
  | inl c ↦ home_by regions other i (well.owned i other h c)
  | inr c ↦ elim (contains_case key [] other c) [
    | inl e ↦ subst (λ k. IsHome (region_prefixes regions) k (region_at regions i).prefix) (sym e) (home_by regions key i new.owner)
    | inr d ↦ absurd (omega (arith, d.1))
  ]
]

pub split_divides : (old new : List Region) (i : ℕ) (key : List Bool) → IsWellPlaced old → i < length old → IsNewTo old i key →
    (split : IsSplitFor old i key new) → Divides (region_prefixes old) (region_at old i).prefix split.prefix
split_divides old new i key well h is split =
    let keys : List (List Bool) = keys_at old i ++ key ∷ [] in
    record {
      extends = split.fair.extends;
      longer = split.fair.longer;
      key = get_or keys split.fair.place [];
      at_home = home_among old i key (get_or keys split.fair.place []) well h is (Contains-get_or keys split.fair.place [] split.fair.place_within);
      begins = split.fair.begins_key;
    }

-- ---- a region is settled

-- a key of a region that goes, or of its parent, is at home in the parent afterwards
home_after : (old middle : List Region) (i p : ℕ) (key : List Bool) → IsWellPlaced old → i < length old →
    IsParent (region_prefixes old) (region_at old i).prefix p
    → HasCome (region_prefixes middle) (region_prefixes old) (region_at old i).prefix → Contains (keys_at old i ++ keys_at old p) key →
    IsHome (region_prefixes middle) key (region_at old p).prefix
home_after old middle i p key well h parent come there =
    let up : IsAbove (region_prefixes old) (region_at old i).prefix (region_at old p).prefix = above_of old (region_at old i).prefix p parent in
    let within : p < length old = omega (arith, parent.within, region_prefixes_length old) in
    elim (Contains-append_cases (keys_at old i) (keys_at old p) key there) [
      | inl c ↦
          taken_above (region_prefixes old) (region_prefixes middle) (region_at old i).prefix (region_at old p).prefix come up key
          (home_by old key i (well.owned i key h c))
      | inr c ↦
          stays_behind (region_prefixes old) (region_prefixes middle) (region_at old i).prefix come key (region_at old p).prefix
          (home_by old key p (well.owned p key within c)) (λ e. omega (arith, up.shorter, ap length e))
    ]

pub settled_prefixes : (old new : List Region) (i : ℕ) → IsWellPlaced old → i < length old → IsSettled old i new → (parent : ℕ) →
    IsParent (region_prefixes old) (region_at old i).prefix parent →
    HasMoved (region_prefixes old) (region_at old i).prefix (region_at old parent).prefix (region_prefixes new)
settled_prefixes old new i well h (goes_in q _ _ merged) p parent =
    went (above_of old (region_at old i).prefix p parent) (merged_prefixes old new i well h merged)
settled_prefixes old new i well h (splits_again q prefix is_parent many split fair recut) p parent =
    let own : List Bool = (region_at old i).prefix in
    let same : q ≡ p = one_parent old well own q p is_parent parent in
    let fair' : IsFair (keys_at old i ++ keys_at old p) (region_at old p).prefix prefix =
    subst (λ k. IsFair (keys_at old i ++ keys_at old k) (region_at old k).prefix prefix) same fair in
    let keys : List (List Bool) = keys_at old i ++ keys_at old p in
    let come = merged_prefixes old recut.middle i well h recut.merged in
    parted (region_prefixes recut.middle) prefix (above_of old own p parent) come (cut_prefixes recut.middle new recut.merged.parent prefix recut.cut)
    (record {
      extends = fair'.extends;
      longer = fair'.longer;
      key = get_or keys fair'.place [];
      at_home =
          home_after old recut.middle i p (get_or keys fair'.place []) well h parent come (Contains-get_or keys fair'.place [] fair'.place_within);
      begins = fair'.begins_key;
    })
