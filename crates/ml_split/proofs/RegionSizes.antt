-- How many items regions have where one is cut, and where a thin one is settled.
use Rattle.std.proofs.Common.{◌≡◌, ◌≢◌, ◌⊎◌, inl, inr, ℕ, ◌+◌, ◌<◌, ◌≤◌, Bool, true, false, cond, not, List, [], ◌∷◌, ◌++◌, length, map, refl, sym, ap, ◌∙◌}
use Rattle.std.proofs.Common.{subst, arith, length-append}
use Rattle.std.specs.List.{filter, insert, remove}
use Rattle.std.specs.List.Sorted.{IsPermutation}
use Rattle.std.proofs.lemmas.Bool.{cases_eq}
use Rattle.std.proofs.lemmas.List.{length-map}
use Rattle.std.proofs.lemmas.List.Edits.{length-insert, length-remove}
use Rattle.std.proofs.lemmas.List.Elements.{filter-append}
use Rattle.std.proofs.lemmas.List.Filters.{length-filter_both}
use Rattle.std.proofs.lemmas.List.Sorted.{length_permutation, sum_by-IsPermutation}
use Rattle.std.proofs.lemmas.List.Sums.{length-filter}
use Rattle.ml_term.specs.Patterns.{begins}
use Rattle.ml_region.specs.Regions.{Region, IsWellPlaced, items_at, keys_at, region_at, empty_region, with_items}
use Rattle.ml_region.specs.Changes.{IsCut, IsMerged, IsRecut, items_below, items_beside}
use Rattle.ml_region.specs.declared.item.Item.{Item}
use Rattle.ml_region.proofs.ListInsertions.{in_insert, in_front, itself, behind, in_remove, stays, moves}
use Rattle.ml_region.proofs.RegionMerges.{parent_before}
use Rattle.ml_region.proofs.PlacedRegions.{with_items_length, items_same, items_other}
use Rattle.ml_split.specs.RegionSplits.{IsSettled, IsSplitFor, goes_in, splits_again}
use Rattle.ml_split.specs.Splitting.{IsFair, count_under}
use Rattle.ml_split.proofs.SplitWalk.{count_within}
use Rattle.ml_split.proofs.RegionKeys.{one_parent, parent_within}

-- no region has over 24 items
abbrev pub AreFew : List Region → Type 0
AreFew regions = (k : ℕ) → k < length regions → length (items_at regions k) ≤ 24

-- no other region than a given one has over 24 items
abbrev pub AreFewBut : List Region → ℕ → Type 0
AreFewBut regions i = (k : ℕ) → k < length regions → k ≢ i → length (items_at regions k) ≤ 24

-- ---- items under a prefix and beside it

same_sizes : {X Y : Type 0} (b : Bool) (x : X) (y : Y) (xs : List X) (ys : List Y) → length xs ≡ length ys →
    length (cond b (x ∷ xs) xs) ≡ length (cond b (y ∷ ys) ys)
same_sizes true x y xs ys e = omega arith
same_sizes false x y xs ys e = e

-- as many items as keys begin with a prefix
pub below_count : (p : List Bool) (items : List Item) → count_under p (map (λ (y : Item). y.key.bits) items) ≡ length (items_below p items)
below_count p [] = refl
below_count p (x ∷ items) =
    same_sizes (begins p x.key.bits) x.key.bits x (filter (begins p) (map (λ (y : Item). y.key.bits) items)) (items_below p items) (below_count p items)

-- each item is below a prefix or beside it
pub both_sizes : (p : List Bool) (items : List Item) → length (items_below p items) + length (items_beside p items) ≡ length items
both_sizes p items = length-filter_both (λ (y : Item). begins p y.key.bits) (λ (y : Item). not (begins p y.key.bits)) (λ _. refl) items

-- ---- a region is cut

-- what stands at a place where one more region was put
pub located : (regions : List Region) (c : ℕ) (r : Region) (k : ℕ) → c ≤ length regions → k < length (insert regions c r)
    → (region_at (insert regions c r) k ≡ r) ⊎ ((m : ℕ) × (m < length regions) × (region_at (insert regions c r) k ≡ region_at regions m))
located regions c r k h l =
    let long : length (insert regions c r) ≡ length regions + 1 = length-insert regions c r h in
    elim (in_insert regions c r empty_region k h) [
      | in_front m s ↦ inr (k, omega arith, s)
      | itself m s ↦ inl s
      | behind j e m s ↦ inr (j, omega arith, s)
    ]

-- the new region's place is within reach
pub place_within : (old : List Region) (i : ℕ) (p : List Bool) (new : List Region) (cut : IsCut old i p new) (items : List Item) →
    cut.place ≤ length (with_items old i items)
place_within old i p new cut items =
    omega (arith, cut.fits.within, with_items_length old i items, length-map old (λ (r : Region). r.prefix))

-- the two parts of a region that is cut are few, and so are all others
pub cut_few : (old : List Region) (i : ℕ) (p : List Bool) (new : List Region) → i < length old → IsCut old i p new
    → length (items_below p (items_at old i)) ≤ 24 → length (items_beside p (items_at old i)) ≤ 24 → AreFewBut old i → AreFew new
cut_few old i p new h cut low aside few k l =
    let items : List Item = items_at old i in
    let beside : List Item = items_beside p items in
    let rest : List Region = with_items old i beside in
    let r : Region = record { prefix = p; items = items_below p items } in
    let fits : cut.place ≤ length rest = place_within old i p new cut beside in
    let long = with_items_length old i beside in
    subst (λ rs. length (items_at rs k) ≤ 24) (sym cut.same)
    (elim (located rest cut.place r k fits (omega (arith, l, ap length cut.same))) [
      | inl s ↦ omega (arith, low, ap (λ (q : Region). length q.items) s)
      | inr m ↦
          elim (cases_eq m.0 i) [
            | inl e ↦
                let at : items_at rest m.0 ≡ beside = ap (items_at rest) e ∙ items_same old i beside h in
                omega (arith, aside, ap (λ (q : Region). length q.items) m.2, ap length at)
            | inr d ↦ omega (arith, few m.0 (omega (arith, m.1, long)) d, ap (λ (q : Region). length q.items) m.2, ap length (items_other old i m.0 beside d))
          ]
    ])

-- a region of 31 items at most is split at a fair prefix
pub split_few : (old : List Region) (i : ℕ) (base p : List Bool) (new : List Region) → IsWellPlaced old → i < length old → IsFair (keys_at old i) base p →
    IsCut old i p new
    → AreFewBut old i → AreFew new
split_few old i base p new well h fair cut few =
    let items : List Item = items_at old i in
    let as_many = length-map items (λ (y : Item). y.key.bits) in
    let under = below_count p items in
    let sizes = both_sizes p items in
    let most = well.few i h in
    let low : length (items_below p items) ≤ 24 = omega (arith, fair.at_most) in
    let aside : length (items_beside p items) ≤ 24 = omega (arith, fair.at_least) in
    cut_few old i p new h cut low aside few

-- a region of 31 items at most is split at a prefix that is fair for its keys and one more
pub split_for_few : (old : List Region) (i : ℕ) (key : List Bool) (new : List Region) → IsWellPlaced old → i < length old → IsSplitFor old i key new →
    AreFewBut old i → AreFew new
split_for_few old i key new well h split few =
    let p : List Bool = split.prefix in
    let items : List Item = items_at old i in
    let keys : List (List Bool) = keys_at old i in
    let parts : count_under p (keys ++ key ∷ []) ≡ count_under p keys + count_under p (key ∷ []) =
    ap length (filter-append (begins p) keys (key ∷ [])) ∙ length-append (filter (begins p) keys) (filter (begins p) (key ∷ [])) in
    let many = length-append keys (key ∷ []) in
    let as_many = length-map items (λ (y : Item). y.key.bits) in
    let under = below_count p items in
    let last = count_within p (key ∷ []) in
    let sizes = both_sizes p items in
    let most = well.few i h in
    let low : length (items_below p items) ≤ 24 = omega (arith, split.fair.at_most) in
    let aside : length (items_beside p items) ≤ 24 = omega (arith, split.fair.at_least) in
    cut_few old i p new h split.cut low aside few

-- ---- a region goes into its parent

-- where the items are that were in a region and in its parent, and that each other region stands where one stood
pub record Merged (old : List Region) (i : ℕ) (middle : List Region) (merged : IsMerged old i middle) : Type 0 where
  pub before : merged.parent < i
  pub within : merged.parent < length middle
  pub long : length middle + 1 ≡ length old
  pub there : items_at middle merged.parent ≡ merged.items
  pub others : (k : ℕ) → k < length middle → k ≢ merged.parent → (m : ℕ) × (m < length old) × (items_at middle k ≡ items_at old m)

pub merged_facts : (old : List Region) (i : ℕ) (middle : List Region) → IsWellPlaced old → i < length old → (merged : IsMerged old i middle) →
    Merged old i middle merged
merged_facts old i middle well h merged =
    let p : ℕ = merged.parent in
    let items : List Item = merged.items in
    let all : List Region = with_items old p items in
    let before : p < i = parent_before old i p well h merged.is_parent in
    let in_old : p < length old = parent_within old i p merged.is_parent in
    let as_long = with_items_length old p items in
    let h' : i < length all = omega (arith, as_long) in
    let shorter = length-remove all i h' in
    let rests : List Region = remove all i in
    let here : items_at rests p ≡ items =
    elim (in_remove all i empty_region p h') [
      | stays l s ↦ ap (λ (r : Region). r.items) s ∙ items_same old p items in_old
      | moves l s ↦ absurd (omega arith)
    ] in
    let far : (k : ℕ) → k < length rests → k ≢ p → (m : ℕ) × (m < length old) × (items_at rests k ≡ items_at old m) = λ k l d.
    elim (in_remove all i empty_region k h') [
      | stays m s ↦ (k, omega arith, ap (λ (r : Region). r.items) s ∙ items_other old p k items d)
      | moves m s ↦ (k + 1, omega arith, ap (λ (r : Region). r.items) s ∙ items_other old p (k + 1) items (λ e. omega arith))
    ] in
    let e : middle ≡ rests = merged.same in
    record {
      before = before;
      within = omega (arith, ap length e);
      long = omega (arith, ap length e);
      there = ap (λ rs. items_at rs p) e ∙ here;
      others = λ k l d. let other = far k (omega (arith, ap length e)) d in (other.0, other.1, ap (λ rs. items_at rs k) e ∙ other.2);
    }

filter_length : (p : Item → Bool) (a b : List Item) → IsPermutation a b → length (filter p a) ≡ length (filter p b)
filter_length p a b order = length-filter p a ∙ sym (sum_by-IsPermutation (λ x. cond (p x) 1 0) a b order) ∙ sym (length-filter p b)

-- as many of the items that met begin with a prefix as of their keys
pub met_below : (old : List Region) (i p : ℕ) (prefix : List Bool) (items : List Item) → IsPermutation (items_at old p ++ items_at old i) items
    → length (items_below prefix items) ≡ count_under prefix (keys_at old i ++ keys_at old p)
met_below old i p prefix items order =
    let a : List Item = items_at old i in
    let b : List Item = items_at old p in
    let test : Item → Bool = λ (x : Item). begins prefix x.key.bits in
    let first : length (filter test (b ++ a)) ≡ length (filter test items) = filter_length test (b ++ a) items order in
    let second : length (filter test (b ++ a)) ≡ length (filter test b) + length (filter test a) =
    ap length (filter-append test b a) ∙ length-append (filter test b) (filter test a) in
    let third : count_under prefix (keys_at old i ++ keys_at old p) ≡ count_under prefix (keys_at old i) + count_under prefix (keys_at old p) =
    ap length (filter-append (begins prefix) (keys_at old i) (keys_at old p))
    ∙ length-append (filter (begins prefix) (keys_at old i)) (filter (begins prefix) (keys_at old p)) in
    omega (arith, first, second, third, below_count prefix a, below_count prefix b)

-- as many items met as keys
pub met_many : (old : List Region) (i p : ℕ) (items : List Item) → IsPermutation (items_at old p ++ items_at old i) items
    → (length items ≡ length (keys_at old i ++ keys_at old p)) × (length items ≡ length (items_at old i) + length (items_at old p))
met_many old i p items order =
    let total = length_permutation (items_at old p ++ items_at old i) items order in
    let joined = length-append (items_at old p) (items_at old i) in
    let keys = length-append (keys_at old i) (keys_at old p) in
    let first = length-map (items_at old i) (λ (x : Item). x.key.bits) in
    let second = length-map (items_at old p) (λ (x : Item). x.key.bits) in
    (omega arith, omega arith)

-- the items find place in the parent
pub goes_few : (old : List Region) (i : ℕ) (new : List Region) → IsWellPlaced old → i < length old → (merged : IsMerged old i new)
    → length (keys_at old i ++ keys_at old merged.parent) ≤ 24 → AreFew old → AreFew new
goes_few old i new well h merged little few k l =
    let p : ℕ = merged.parent in
    let m : Merged old i new merged = merged_facts old i new well h merged in
    let met = met_many old i p merged.items merged.all in
    elim (cases_eq k p) [
      | inl e ↦ omega (arith, met.0, little, ap length m.there, ap (λ q. length (items_at new q)) e)
      | inr d ↦ let other = m.others k l d in omega (arith, few other.0 other.1, ap length other.2)
    ]

-- those of a thin region and its parent are split again at a fair prefix: each part has 8 items at least, and 24 at most
pub record Recut (old : List Region) (i : ℕ) (prefix : List Bool) (new : List Region) (recut : IsRecut old i prefix new) : Type 0 where
  pub low_many : 8 ≤ length (items_below prefix (items_at recut.middle recut.merged.parent))
  pub low_few : length (items_below prefix (items_at recut.middle recut.merged.parent)) ≤ 24
  pub aside_many : 8 ≤ length (items_beside prefix (items_at recut.middle recut.merged.parent))
  pub aside_few : length (items_beside prefix (items_at recut.middle recut.merged.parent)) ≤ 24

pub recut_facts : (old : List Region) (i : ℕ) (prefix : List Bool) (new : List Region) → IsWellPlaced old → i < length old → length (items_at old i) < 8 →
    AreFew old
    → (recut : IsRecut old i prefix new) → 24 < length (keys_at old i ++ keys_at old recut.merged.parent) → (base : List Bool)
    → IsFair (keys_at old i ++ keys_at old recut.merged.parent) base prefix → Recut old i prefix new recut
recut_facts old i prefix new well h thin few recut many base fair =
    let middle : List Region = recut.middle in
    let p : ℕ = recut.merged.parent in
    let items : List Item = recut.merged.items in
    let m : Merged old i middle recut.merged = merged_facts old i middle well h recut.merged in
    let in_old : p < length old = omega (arith, m.before, h) in
    let under : length (items_below prefix (items_at middle p)) ≡ count_under prefix (keys_at old i ++ keys_at old p) =
    ap (λ xs. length (items_below prefix xs)) m.there ∙ met_below old i p prefix items recut.merged.all in
    let sizes = both_sizes prefix (items_at middle p) in
    let met = met_many old i p items recut.merged.all in
    let as_many : length (items_at middle p) ≡ length (keys_at old i ++ keys_at old p) = ap length m.there ∙ met.0 in
    let most : length (keys_at old i ++ keys_at old p) ≤ 31 = omega (arith, met.0, met.1, thin, few p in_old) in
    record {
      low_many = omega (arith, under, fair.at_least, many);
      low_few = omega (arith, under, fair.at_most, most);
      aside_many = omega (arith, under, fair.at_most, many, sizes, as_many);
      aside_few = omega (arith, under, fair.at_least, most, sizes, as_many);
    }

pub recut_few : (old : List Region) (i : ℕ) (prefix : List Bool) (new : List Region) → IsWellPlaced old → i < length old → length (items_at old i) < 8 →
    AreFew old
    → (recut : IsRecut old i prefix new) → 24 < length (keys_at old i ++ keys_at old recut.merged.parent) → (base : List Bool)
    → IsFair (keys_at old i ++ keys_at old recut.merged.parent) base prefix → AreFew new
recut_few old i prefix new well h thin few recut many base fair =
    let p : ℕ = recut.merged.parent in
    let m : Merged old i recut.middle recut.merged = merged_facts old i recut.middle well h recut.merged in
    let r : Recut old i prefix new recut = recut_facts old i prefix new well h thin few recut many base fair in
    cut_few recut.middle p prefix new m.within recut.cut r.low_few r.aside_few
    (λ k l d. let other = m.others k l d in omega (arith, few other.0 other.1, ap length other.2))

-- where a thin region is settled no region has over 24 items, if none had before
pub settled_few : (old : List Region) (i : ℕ) (new : List Region) → IsWellPlaced old → i < length old → length (items_at old i) < 8 → IsSettled old i new →
    AreFew old → AreFew new
settled_few old i new well h thin (goes_in p is little merged) few =
    let same : p ≡ merged.parent = one_parent old well (region_at old i).prefix p merged.parent is merged.is_parent in
    goes_few old i new well h merged (subst (λ q. length (keys_at old i ++ keys_at old q) ≤ 24) same little) few
settled_few old i new well h thin (splits_again p prefix is many split fair recut) few =
    let same : p ≡ recut.merged.parent = one_parent old well (region_at old i).prefix p recut.merged.parent is recut.merged.is_parent in
    recut_few old i prefix new well h thin few recut (subst (λ q. 24 < length (keys_at old i ++ keys_at old q)) same many) (region_at old p).prefix
    (subst (λ q. IsFair (keys_at old i ++ keys_at old q) (region_at old p).prefix prefix) same fair)
