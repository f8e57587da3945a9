-- What becomes of items and of thin regions where a thin region is settled.
use Rattle.std.proofs.Common.{◌≡◌, ◌⊎◌, inl, inr, ℕ, suc, ◌+◌, ◌-◌, ◌<◌, ◌≤◌, Bool, true, cond, ◌&&◌, ltb, List, [], ◌∷◌, ◌++◌, length, set, take, drop, refl}
use Rattle.std.proofs.Common.{sym, ap, ◌∙◌, subst, arith, length-append, drop-cons}
use Rattle.std.specs.Prelude.{Contains}
use Rattle.std.specs.List.{insert, remove}
use Rattle.std.specs.List.Sorted.{IsPermutation}
use Rattle.std.proofs.lemmas.Bool.{and_parts, and_right, both_ways, cases_eq, cases_lt, false_from_ne_true, lt-ltb, ltb-true, le-ltb}
use Rattle.std.proofs.lemmas.List.{set_split, take-append-drop}
use Rattle.std.proofs.lemmas.List.Edits.{length-insert, length-remove}
use Rattle.std.proofs.lemmas.List.Elements.{Contains-append_left, Contains-append_right, Contains-append_cases}
use Rattle.std.proofs.lemmas.List.Sorted.{Contains-permutation, IsPermutation-sym, length_permutation}
use Rattle.ml_region.specs.Regions.{Region, IsWellPlaced, items_at, keys_at, region_at, empty_region, with_items}
use Rattle.ml_region.specs.Changes.{IsMerged, IsRecut, items_below, items_beside}
use Rattle.ml_region.specs.declared.item.Item.{Item}
use Rattle.ml_region.proofs.ListInsertions.{in_insert, in_front, itself, behind, in_remove, stays, moves}
use Rattle.ml_region.proofs.PlacedRegions.{with_items_length, items_other, region_at_same, region_at_other}
use Rattle.ml_split.specs.Splitting.{IsFair}
use Rattle.ml_split.proofs.RegionKeys.{parent_within}
use Rattle.ml_split.proofs.RegionSizes.{Merged, goes_few, merged_facts, place_within, recut_facts as recut_sizes, recut_few}
use Rattle.ml_file.specs.Files.{items_in}
use Rattle.ml_split.specs.RegionSplits.{is_thin}
use Rattle.ml_file.specs.Settled.{AreSettledBefore, HasSameItems}
use Rattle.ml_file.proofs.HeldItems.{LiesIn, item_lies, item_in}
use Rattle.ml_file.proofs.GrownRegions.{cut_from, cut_to}
use Rattle.ml_file.proofs.NoneThin.{full_not_thin, fuller_thin}

-- ---- sums over regions

abbrev pub weight : Region → ℕ
weight r = cond (is_thin r) 1 0

-- how many regions are thin
abbrev pub thins : List Region → ℕ
thins [] = 0
thins (r ∷ regions) = weight r + thins regions

thins_append : (xs ys : List Region) → thins (xs ++ ys) ≡ thins xs + thins ys
thins_append [] ys = omega arith
thins_append (x ∷ xs) ys = omega (arith, thins_append xs ys)

in_parts : (xs : List Region) (j : ℕ) → j < length xs → xs ≡ take j xs ++ region_at xs j ∷ drop (suc j) xs
in_parts xs j h = sym (take-append-drop j xs) ∙ ap (λ ys. take j xs ++ ys) (drop-cons xs j empty_region h)

thins_remove : (xs : List Region) (j : ℕ) → j < length xs → thins (remove xs j) + weight (region_at xs j) ≡ thins xs
thins_remove xs j h =
    omega (arith, ap thins (in_parts xs j h), thins_append (take j xs) (region_at xs j ∷ drop (suc j) xs), thins_append (take j xs) (drop (suc j) xs))

thins_set : (xs : List Region) (j : ℕ) (r : Region) → j < length xs → thins (set xs j r) + weight (region_at xs j) ≡ thins xs + weight r
thins_set xs j r h =
    omega (
      arith,
      ap thins (in_parts xs j h),
      thins_append (take j xs) (region_at xs j ∷ drop (suc j) xs),
      ap thins (set_split xs j r h),
      thins_append (take j xs) (r ∷ drop (suc j) xs),
    )

thins_insert : (xs : List Region) (j : ℕ) (r : Region) → thins (insert xs j r) ≡ thins xs + weight r
thins_insert xs j r =
    omega (arith, ap thins (take-append-drop j xs), thins_append (take j xs) (drop j xs), thins_append (take j xs) (r ∷ drop j xs))

weight_thin : (r : Region) → is_thin r ≡ true → weight r ≡ 1
weight_thin r h = ap (λ b. cond b 1 0) h

weight_full : (r : Region) → 8 ≤ length r.items → weight r ≡ 0
weight_full r h = ap (λ b. cond b 1 0) (and_right (ltb 0 (length r.prefix)) (ltb (length r.items) 8) (le-ltb (length r.items) 8 h))

-- a region with more items isn't thinner
weight_more : (r q : Region) → r.prefix ≡ q.prefix → length q.items ≤ length r.items → weight r ≤ weight q
weight_more r q e h =
    elim (cases_lt (length r.items) 8) [
      | inl few ↦
          let second : ltb (length r.items) 8 ≡ ltb (length q.items) 8 = lt-ltb (length r.items) 8 few ∙ sym (lt-ltb (length q.items) 8 (omega arith)) in
          let first : ltb 0 (length r.prefix) ≡ ltb 0 (length q.prefix) = ap (λ p. ltb 0 (length p)) e in
          let same : is_thin r ≡ is_thin q = ap (λ b. b && ltb (length r.items) 8) first ∙ ap (λ b. ltb 0 (length q.prefix) && b) second in
          let as_heavy : weight r ≡ weight q = ap (λ (b : Bool). cond b 1 0) same in
          omega (arith, as_heavy)
      | inr many ↦ omega (arith, weight_full r many)
    ]

-- ---- a region goes into its parent

suc_of : (k i : ℕ) → i ≤ k → (k ≡ i → ⊥) → (k - 1) + 1 ≡ k
suc_of k i l d =
    elim (cases_lt i k) [
      | inl m ↦ omega arith
      | inr m ↦ absurd (d (omega arith))
    ]

-- what is known of the thin regions and of the items where a region went into its parent
pub record GoesIn (old : List Region) (i : ℕ) (middle : List Region) : Type 0 where
  pub fewer : thins middle + 1 ≤ thins old
  pub same : HasSameItems old middle
  pub ahead : (k : ℕ) → k < i → is_thin (region_at middle k) ≡ true → is_thin (region_at old k) ≡ true

both_in : (a b items : List Item) (x : Item) → IsPermutation (a ++ b) items → Contains items x → Contains a x ⊎ Contains b x
both_in a b items x order there = Contains-append_cases a b x (Contains-permutation items (a ++ b) x (IsPermutation-sym (a ++ b) items order) there)

pub goes_in_facts : (old : List Region) (i : ℕ) (middle : List Region) → IsWellPlaced old → i < length old → is_thin (region_at old i) ≡ true →
    IsMerged old i middle → GoesIn old i middle
goes_in_facts old i middle well h thin merged =
    let p : ℕ = merged.parent in
    let items : List Item = merged.items in
    let all : List Region = with_items old p items in
    let base : Merged old i middle merged = merged_facts old i middle well h merged in
    let before : p < i = base.before in
    let in_old : p < length old = parent_within old i p merged.is_parent in
    let as_long = with_items_length old p items in
    let h' : i < length all = omega (arith, as_long) in
    let shorter = length-remove all i h' in
    let total = length_permutation (items_at old p ++ items_at old i) items merged.all in
    let sizes = length-append (items_at old p) (items_at old i) in
    let apart : i ≡ p → ⊥ = λ e. omega arith in
    let count_set = thins_set old p (record { prefix = (region_at old p).prefix; items = items }) in_old in
    let count_remove = thins_remove all i h' in
    let stays_thin : weight (region_at all i) ≡ 1 = ap weight (region_at_other old p i items apart) ∙ weight_thin (region_at old i) thin in
    let no_thinner = weight_more (record { prefix = (region_at old p).prefix; items = items }) (region_at old p) refl (omega (arith, total, sizes)) in
    let rests : List Region = remove all i in
    let left : middle ≡ rests = merged.same in
    let here : items_at rests p ≡ items = ap (λ rs. items_at rs p) (sym left) ∙ base.there in
    let far : (k : ℕ) → k < length rests → (k ≡ p → ⊥) → (m : ℕ) × (m < length old) × (items_at rests k ≡ items_at old m) = λ k l d.
    let other = base.others k (omega (arith, l, ap length left)) d in (other.0, other.1, ap (λ rs. items_at rs k) (sym left) ∙ other.2) in
    let to : (x : Item) → Contains (items_in rests) x → Contains (items_in old) x = λ x there.
    let lies : LiesIn rests x = item_lies rests x there in
    elim (cases_eq lies.region p) [
      | inl e ↦
          elim (both_in (items_at old p) (items_at old i) items x merged.all
          (subst (λ xs. Contains xs x) here (subst (λ k. Contains (items_at rests k) x) e lies.inside))) [
            | inl first ↦ item_in old p x in_old first
            | inr second ↦ item_in old i x h second
          ]
      | inr d ↦
          let other = far lies.region lies.within d in
          item_in old other.0 x other.1 (subst (λ xs. Contains xs x) other.2 lies.inside)
    ] in
    let joined : (x : Item) → Contains items x → Contains (items_in rests) x =
    λ x there. item_in rests p x (omega arith) (subst (λ xs. Contains xs x) (sym here) there) in
    let from : (x : Item) → Contains (items_in old) x → Contains (items_in rests) x = λ x there.
    let lies : LiesIn old x = item_lies old x there in
    let k : ℕ = lies.region in
    let inside : k < length old = lies.within in
    elim (cases_eq k p) [
      | inl e ↦
          joined x (Contains-permutation (items_at old p ++ items_at old i) items x merged.all
          (Contains-append_left (items_at old p) (items_at old i) x (subst (λ q. Contains (items_at old q) x) e lies.inside)))
      | inr d ↦ elim (cases_eq k i) [
        | inl e ↦
            joined x (Contains-permutation (items_at old p ++ items_at old i) items x merged.all
            (Contains-append_right (items_at old p) (items_at old i) x (subst (λ q. Contains (items_at old q) x) e lies.inside)))
        | inr f ↦
            let kept : Contains (items_at all k) x = subst (λ xs. Contains xs x) (sym (items_other old p k items d)) lies.inside in
            elim (cases_lt k i) [
              | inl l ↦
                  elim (in_remove all i empty_region k h') [
                    | stays m s ↦ item_in rests k x (omega arith) (subst (λ (r : Region). Contains r.items x) (sym s) kept)
                    | moves m s ↦ absurd (omega arith)
                  ]
              | inr l ↦
                  let j : ℕ = k - 1 in
                  let is : j + 1 ≡ k = suc_of k i l f in
                  elim (in_remove all i empty_region j h') [
                    | stays m s ↦ absurd (omega arith)
                    | moves m s ↦ item_in rests j x (omega arith) (subst (λ (r : Region). Contains r.items x) (sym s)
                        (subst (λ q. Contains (items_at all q) x) (sym is) kept))
                  ]
            ]
      ]
    ] in
    let ahead : (k : ℕ) → k < i → is_thin (region_at rests k) ≡ true → is_thin (region_at old k) ≡ true = λ k l t.
    elim (in_remove all i empty_region k h') [
      | stays m s ↦ fuller_thin old p items k in_old (omega (arith, total, sizes)) (subst (λ r. is_thin r ≡ true) s t)
      | moves m s ↦ absurd (omega arith)
    ] in
    record {
      fewer = omega (arith, ap thins left, count_set, count_remove, stays_thin, no_thinner);
      same = record {
        same = λ x. (
          λ there. to x (subst (λ rs. Contains (items_in rs) x) left there),
          λ there. subst (λ rs. Contains (items_in rs) x) (sym left) (from x there),
        );
      };
      ahead = λ k l t. ahead k l (subst (λ rs. is_thin (region_at rs k) ≡ true) left t);
    }

-- ---- and is split again

-- what is known where both are split again
pub record Recut (old : List Region) (i : ℕ) (new : List Region) : Type 0 where
  pub fewer : thins new + 1 ≤ thins old
  pub same : HasSameItems old new
  pub few : (k : ℕ) → k < length new → length (items_at new k) ≤ 24
  pub within : i ≤ length new
  pub ahead : AreSettledBefore old i → AreSettledBefore new i

pub recut_facts : (old : List Region) (i : ℕ) (prefix : List Bool) (new : List Region) → IsWellPlaced old → i < length old → is_thin (region_at old i) ≡ true
    → ((k : ℕ) → k < length old → length (items_at old k) ≤ 24) → (recut : IsRecut old i prefix new) →
    24 < length (keys_at old i ++ keys_at old recut.merged.parent)
    → (base_prefix : List Bool) → IsFair (keys_at old i ++ keys_at old recut.merged.parent) base_prefix prefix → Recut old i new
recut_facts old i prefix new well h thin few recut many base_prefix fair =
    let middle : List Region = recut.middle in
    let p : ℕ = recut.merged.parent in
    let base : Merged old i middle recut.merged = merged_facts old i middle well h recut.merged in
    let m : GoesIn old i middle = goes_in_facts old i middle well h thin recut.merged in
    let cut = recut.cut in
    let low : List Item = items_below prefix (items_at middle p) in
    let aside : List Item = items_beside prefix (items_at middle p) in
    let rest : List Region = with_items middle p aside in
    let r : Region = record { prefix = prefix; items = low } in
    let q : Region = record { prefix = (region_at middle p).prefix; items = aside } in
    let fits = place_within middle p prefix new cut aside in
    let thin_few : length (items_at old i) < 8 = ltb-true (length (items_at old i)) 8
    (and_parts (ltb 0 (length (region_at old i).prefix)) (ltb (length (items_at old i)) 8) thin).1 in
    let sizes = recut_sizes old i prefix new well h thin_few few recut many base_prefix fair in
    let count_set = thins_set middle p q base.within in
    let count_insert = thins_insert rest cut.place r in
    let low_full = weight_full r sizes.low_many in
    let aside_full = weight_full q sizes.aside_many in
    record {
      fewer = omega (arith, ap thins cut.same, count_insert, count_set, low_full, aside_full, m.fewer);
      same = record {
        same = λ x. (
          λ at. (m.same.same x).0 (cut_to middle p prefix new base.within cut x at),
          λ at. cut_from middle p prefix new base.within cut x ((m.same.same x).1 at),
        );
      };
      few = recut_few old i prefix new well h thin_few few recut many base_prefix fair;
      within = omega (arith, ap length cut.same, length-insert rest cut.place r fits, with_items_length middle p aside, base.long);
      ahead = λ settled k l.
          let front : (j : ℕ) → j < i → is_thin (region_at rest j) ≡ true → ⊥ = λ j l' t.
          elim (cases_eq j p) [
            | inl e ↦ full_not_thin q sizes.aside_many (subst (λ x. is_thin x ≡ true) (ap (region_at rest) e ∙ region_at_same middle p aside base.within) t)
            | inr d ↦ both_ways (is_thin (region_at old j)) (settled j l') (m.ahead j l' (subst (λ x. is_thin x ≡ true) (region_at_other middle p j aside d) t))
          ] in
          false_from_ne_true (is_thin (region_at new k))
          (λ t.
          let at : region_at new k ≡ region_at (insert rest cut.place r) k = ap (λ rs. region_at rs k) cut.same in
          elim (in_insert rest cut.place r empty_region k fits) [
            | in_front a s ↦ front k l (subst (λ x. is_thin x ≡ true) (at ∙ s) t)
            | itself a s ↦ full_not_thin r sizes.low_many (subst (λ x. is_thin x ≡ true) (at ∙ s) t)
            | behind j g a s ↦ front j (omega arith) (subst (λ x. is_thin x ≡ true) (at ∙ s) t)
          ]);
    }

-- what is known where the items find place in the parent
pub goes_facts : (old : List Region) (i : ℕ) (new : List Region) → IsWellPlaced old → i < length old → is_thin (region_at old i) ≡ true
    → ((k : ℕ) → k < length old → length (items_at old k) ≤ 24) → (merged : IsMerged old i new) → length (keys_at old i ++ keys_at old merged.parent) ≤ 24 →
    Recut old i new
goes_facts old i new well h thin few merged little =
    let base : Merged old i new merged = merged_facts old i new well h merged in
    let m : GoesIn old i new = goes_in_facts old i new well h thin merged in
    record {
      fewer = m.fewer;
      same = m.same;
      few = goes_few old i new well h merged little few;
      within = omega (arith, base.long);
      ahead = λ settled k l. false_from_ne_true (is_thin (region_at new k)) (λ t. both_ways (is_thin (region_at old k)) (settled k l) (m.ahead k l t));
    }
