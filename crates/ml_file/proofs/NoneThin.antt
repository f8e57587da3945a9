-- No insert makes a region thin: a region that is split leaves at least 8 items on each side, and an item that comes makes its region fuller.
use Rattle.std.proofs.Common.{◌≡◌, inl, inr, ℕ, ◌+◌, ◌<◌, ◌≤◌, Bool, true, ltb, List, [], ◌∷◌, ◌++◌, length, refl, sym, ap, ◌∙◌, subst, arith, length-append}
use Rattle.std.specs.List.{filter, insert}
use Rattle.std.proofs.lemmas.Bool.{and_from, and_parts, both_ways, cases_eq, false_from_ne_true, lt-ltb, ltb-true}
use Rattle.std.proofs.lemmas.List.{length-map}
use Rattle.std.proofs.lemmas.List.Edits.{length-insert}
use Rattle.std.proofs.lemmas.List.Elements.{filter-append}
use Rattle.ml_term.specs.Patterns.{begins}
use Rattle.ml_region.specs.Regions.{Region, items_at, keys_at, region_at, with_items}
use Rattle.ml_region.specs.Changes.{IsCut, IsPut, items_below, items_beside}
use Rattle.ml_region.specs.declared.item.Item.{Item}
use Rattle.ml_region.proofs.PlacedRegions.{with_items_length, region_at_same, region_at_other}
use Rattle.ml_split.specs.RegionSplits.{IsSplitFor}
use Rattle.ml_split.specs.Splitting.{count_under}
use Rattle.ml_split.proofs.SplitWalk.{count_within}
use Rattle.ml_file.specs.Adding.{HasGrown, has_place, splits_first}
use Rattle.ml_split.specs.RegionSplits.{is_thin}
use Rattle.ml_file.specs.Settled.{AreSettled, HasThin, MakesNoneThin}
use Rattle.ml_split.proofs.RegionSizes.{below_count, both_sizes, located, place_within}
use Rattle.ml_file.proofs.GrownRegions.{put_within}

-- ---- a region by itself

pub thin_few_items : (r : Region) → is_thin r ≡ true → length r.items < 8
thin_few_items r thin = ltb-true (length r.items) 8 (and_parts (ltb 0 (length r.prefix)) (ltb (length r.items) 8) thin).1

-- a region of 8 items isn't thin
pub full_not_thin : (r : Region) → 8 ≤ length r.items → is_thin r ≡ true → ⊥
full_not_thin r many thin = let few : length r.items < 8 = thin_few_items r thin in omega (arith, many)

-- where a region is thin, so is one of its prefix with fewer items
pub fewer_thin : (r q : Region) → r.prefix ≡ q.prefix → length q.items ≤ length r.items → is_thin r ≡ true → is_thin q ≡ true
fewer_thin r q e h thin =
    let few : length r.items < 8 = thin_few_items r thin in
    let nested : ltb 0 (length r.prefix) ≡ true = (and_parts (ltb 0 (length r.prefix)) (ltb (length r.items) 8) thin).0 in
    and_from (ltb 0 (length q.prefix)) (ltb (length q.items) 8) (subst (λ p. ltb 0 (length p) ≡ true) e nested) (lt-ltb (length q.items) 8 (omega (arith, h)))

-- a place that is thin where one region has more items was thin
pub fuller_thin : (regions : List Region) (p : ℕ) (items : List Item) (k : ℕ) → p < length regions → length (items_at regions p) ≤ length items
    → is_thin (region_at (with_items regions p items) k) ≡ true → is_thin (region_at regions k) ≡ true
fuller_thin regions p items k h more thin =
    elim (cases_eq k p) [
      | inl e ↦
          let r : Region = record { prefix = (region_at regions p).prefix; items = items } in
          let at : region_at (with_items regions p items) k ≡ r = ap (region_at (with_items regions p items)) e ∙ region_at_same regions p items h in
          subst (λ i. is_thin (region_at regions i) ≡ true) (sym e) (fewer_thin r (region_at regions p) refl more (subst (λ q. is_thin q ≡ true) at thin))
      | inr d ↦ subst (λ q. is_thin q ≡ true) (region_at_other regions p k items d) thin
    ]

-- ---- changes that make no region thin

pub same_none_thin : (old new : List Region) → new ≡ old → MakesNoneThin old new
same_none_thin old new e i l thin =
    record {
      place = i;
      within = omega (arith, l, ap length e);
      prefix_is = ap (λ rs. (region_at rs i).prefix) (sym e);
      thin =
          subst (λ rs. is_thin (region_at rs i) ≡ true) e thin;
    }

none_thin_through : (old middle new : List Region) → MakesNoneThin old middle → MakesNoneThin middle new → MakesNoneThin old new
none_thin_through old middle new first second i l thin =
    let was : HasThin middle (region_at new i).prefix = second i l thin in
    let before : HasThin old (region_at middle was.place).prefix = first was.place was.within was.thin in
    record { place = before.place; within = before.within; prefix_is = before.prefix_is ∙ was.prefix_is; thin = before.thin }

-- an item comes
put_none_thin : (old : List Region) (item : Item) (new : List Region) → IsPut old item new → MakesNoneThin old new
put_none_thin old item new put i l thin =
    let r : ℕ = put.region in
    let items : List Item = items_at old r in
    let more : List Item = insert items put.place item in
    let h : r < length old = put_within old item new put in
    let within : i < length old = omega (arith, l, ap length put.same, with_items_length old r more) in
    let fits : put.place ≤ length items = omega (arith, put.fits.within, length-map items (λ (y : Item). y.key.bits)) in
    let longer : length items ≤ length more = omega (arith, length-insert items put.place item fits) in
    let at : region_at new i ≡ region_at (with_items old r more) i = ap (λ rs. region_at rs i) put.same in
    let prefix : (region_at (with_items old r more) i).prefix ≡ (region_at old i).prefix =
    elim (cases_eq i r) [
      | inl e ↦ ap (λ k. (region_at (with_items old r more) k).prefix) e ∙ ap (λ (q : Region). q.prefix) (region_at_same old r more h)
          ∙ ap (λ k. (region_at old k).prefix) (sym e)
      | inr d ↦ ap (λ (q : Region). q.prefix) (region_at_other old r i more d)
    ] in
    record {
      place = i;
      within = within;
      prefix_is = sym (ap (λ (q : Region). q.prefix) at ∙ prefix);
      thin = fuller_thin old r more i h longer (subst (λ q. is_thin q ≡ true) at thin);
    }

-- a region is cut with at least 8 items on each side
cut_none_thin : (old : List Region) (i : ℕ) (p : List Bool) (middle : List Region) → i < length old → IsCut old i p middle →
    8 ≤ length (items_below p (items_at old i))
    → 8 ≤ length (items_beside p (items_at old i)) → MakesNoneThin old middle
cut_none_thin old i p middle h cut low aside k l thin =
    let beside : List Item = items_beside p (items_at old i) in
    let rest : List Region = with_items old i beside in
    let r : Region = record { prefix = p; items = items_below p (items_at old i) } in
    let q : Region = record { prefix = (region_at old i).prefix; items = beside } in
    let fits = place_within old i p middle cut beside in
    let at : region_at middle k ≡ region_at (insert rest cut.place r) k = ap (λ rs. region_at rs k) cut.same in
    elim (located rest cut.place r k fits (omega (arith, l, ap length cut.same))) [
      | inl s ↦ absurd (full_not_thin r low (subst (λ x. is_thin x ≡ true) (at ∙ s) thin))
      | inr m ↦
          elim (cases_eq m.0 i) [
            | inl e ↦
                let is : region_at middle k ≡ q = at ∙ m.2 ∙ ap (region_at rest) e ∙ region_at_same old i beside h in
                absurd (full_not_thin q aside (subst (λ x. is_thin x ≡ true) is thin))
            | inr d ↦
                let is : region_at middle k ≡ region_at old m.0 = at ∙ m.2 ∙ region_at_other old i m.0 beside d in
                record {
                  place = m.0;
                  within = omega (arith, m.1, with_items_length old i beside);
                  prefix_is = ap (λ (x : Region). x.prefix) (sym is);
                  thin = subst (λ x. is_thin x ≡ true) is thin;
                }
          ]
    ]

-- a region of 24 items is split for a key
split_none_thin : (old : List Region) (i : ℕ) (key : List Bool) (middle : List Region) → i < length old → 24 ≤ length (items_at old i) →
    IsSplitFor old i key middle
    → MakesNoneThin old middle
split_none_thin old i key middle h full split =
    let p : List Bool = split.prefix in
    let items : List Item = items_at old i in
    let keys : List (List Bool) = keys_at old i in
    let parts : count_under p (keys ++ key ∷ []) ≡ count_under p keys + count_under p (key ∷ []) =
    ap length (filter-append (begins p) keys (key ∷ [])) ∙ length-append (filter (begins p) keys) (filter (begins p) (key ∷ [])) in
    let sizes = both_sizes p items in
    let many = length-append keys (key ∷ []) in
    let as_many = length-map items (λ (y : Item). y.key.bits) in
    let last = count_within p (key ∷ []) in
    let low : 8 ≤ length (items_below p items) = omega (arith, parts, below_count p items, split.fair.at_least, many, as_many, full, last) in
    let aside : 8 ≤ length (items_beside p items) = omega (arith, parts, below_count p items, split.fair.at_most, many, as_many, full, sizes) in
    cut_none_thin old i p middle h split.cut low aside

-- an item comes to a file
pub grown_none_thin : (old : List Region) (item : Item) (new : List Region) → HasGrown old item new → MakesNoneThin old new
grown_none_thin old item new (has_place i own few put) = put_none_thin old item new put
grown_none_thin old item new (splits_first i middle own full split put) =
    none_thin_through old middle new
    (split_none_thin old i item.key.bits middle (omega (arith, own.within, length-map old (λ (r : Region). r.prefix))) full split)
    (put_none_thin middle item new put)

-- a settled file stays settled
pub stays_settled : (old new : List Region) → MakesNoneThin old new → AreSettled old → AreSettled new
stays_settled old new none settled i l =
    false_from_ne_true (is_thin (region_at new i))
    (λ thin.
    let was : HasThin old (region_at new i).prefix = none i l thin in
    both_ways (is_thin (region_at old was.place)) (settled was.place was.within) was.thin)
