-- The items of a file where an item comes and where a region is cut.
use Rattle.std.proofs.Common.{◌≡◌, ◌⊎◌, inl, inr, ℕ, ◌+◌, ◌<◌, ◌≤◌, Bool, List, [], ◌∷◌, ◌++◌, length, not, refl, sym, ap, ◌∙◌, subst, arith, length-append}
use Rattle.std.specs.Prelude.{Contains}
use Rattle.std.specs.List.{filter, insert}
use Rattle.std.proofs.lemmas.Bool.{cases_eq, cases_lt}
use Rattle.std.proofs.lemmas.List.{length-map}
use Rattle.std.proofs.lemmas.List.Edits.{length-insert}
use Rattle.std.proofs.lemmas.List.Elements.{Contains-append_left, Contains-append_right, Contains-append_cases, filter-append}
use Rattle.std.proofs.lemmas.List.Sorted.{Contains-permutation, IsPermutation-filter_both, IsPermutation-insert, IsPermutation-sym}
use Rattle.ml_bits.specs.BitList.{Begins}
use Rattle.ml_bits.proofs.OrderLaws.{begins_both, begins_shorter}
use Rattle.ml_term.specs.Patterns.{begins}
use Rattle.ml_region.specs.Prefixes.{bits_at, IsOwner}
use Rattle.ml_region.specs.Regions.{Region, IsWellPlaced, items_at, keys_at, region_at, region_prefixes, empty_region, with_items}
use Rattle.ml_region.specs.Changes.{IsCut, IsPut, items_below, items_beside}
use Rattle.ml_region.specs.declared.item.Item.{Item}
use Rattle.ml_region.proofs.ListInsertions.{in_insert, in_front, itself, behind}
use Rattle.ml_region.proofs.PlacedRegions.{with_items_length, with_items_prefixes, items_same, items_other, region_at_other}
use Rattle.ml_split.specs.RegionSplits.{IsSplitFor}
use Rattle.ml_split.specs.Splitting.{count_under}
use Rattle.ml_split.proofs.RegionKeys.{prefix_is, rising_once}
use Rattle.ml_split.proofs.RegionSizes.{below_count, both_sizes, located, place_within, split_for_few}
use Rattle.ml_split.proofs.SplitWalk.{count_within}
use Rattle.ml_file.specs.Files.{items_in}
use Rattle.ml_file.specs.PlainList.{IsWith}
use Rattle.ml_file.proofs.ItemOrders.{contains_cases, contains_first, contains_later}
use Rattle.ml_file.proofs.HeldItems.{LiesIn, item_lies, item_in, others_in, same_in, other_in}

-- ---- one region more

pub insert_items : (regions : List Region) (c : ℕ) (r : Region) (x : Item) → c ≤ length regions → Contains (items_in (insert regions c r)) x
    → Contains r.items x ⊎ Contains (items_in regions) x
insert_items regions c r x h there =
    let lies : LiesIn (insert regions c r) x = item_lies (insert regions c r) x there in
    let long : length (insert regions c r) ≡ length regions + 1 = length-insert regions c r h in
    let within : lies.region < length (insert regions c r) = lies.within in
    elim (in_insert regions c r empty_region lies.region h) [
      | in_front l s ↦ inr (item_in regions lies.region x (omega arith) (subst (λ (q : Region). Contains q.items x) s lies.inside))
      | itself l s ↦ inl (subst (λ (q : Region). Contains q.items x) s lies.inside)
      | behind j e l s ↦ inr (item_in regions j x (omega arith) (subst (λ (q : Region). Contains q.items x) s lies.inside))
    ]

pub inserted_item : (regions : List Region) (c : ℕ) (r : Region) (x : Item) → c ≤ length regions → Contains r.items x →
    Contains (items_in (insert regions c r)) x
inserted_item regions c r x h there =
    let long : length (insert regions c r) ≡ length regions + 1 = length-insert regions c r h in
    elim (in_insert regions c r empty_region c h) [
      | in_front l s ↦ absurd (omega arith)
      | itself l s ↦ item_in (insert regions c r) c x (omega arith) (subst (λ (q : Region). Contains q.items x) (sym s) there)
      | behind j e l s ↦ absurd (omega arith)
    ]

pub kept_item : (regions : List Region) (c : ℕ) (r : Region) (x : Item) → c ≤ length regions → Contains (items_in regions) x →
    Contains (items_in (insert regions c r)) x
kept_item regions c r x h there =
    let lies : LiesIn regions x = item_lies regions x there in
    let k : ℕ = lies.region in
    let within : k < length regions = lies.within in
    let long : length (insert regions c r) ≡ length regions + 1 = length-insert regions c r h in
    elim (cases_lt k c) [
      | inl l ↦
          elim (in_insert regions c r empty_region k h) [
            | in_front m s ↦ item_in (insert regions c r) k x (omega arith) (subst (λ (q : Region). Contains q.items x) (sym s) lies.inside)
            | itself m s ↦ absurd (omega arith)
            | behind j e m s ↦ absurd (omega arith)
          ]
      | inr l ↦
          elim (in_insert regions c r empty_region (k + 1) h) [
            | in_front m s ↦ absurd (omega arith)
            | itself m s ↦ absurd (omega arith)
            | behind j e m s ↦
                let same : j ≡ k = omega arith in
                item_in (insert regions c r) (k + 1) x (omega arith)
                (subst (λ (q : Region). Contains q.items x) (sym s) (subst (λ i. Contains (items_at regions i) x) (sym same) lies.inside))
          ]
    ]

-- ---- a region is cut

below_or_beside : (p : List Bool) (items : List Item) (x : Item) → Contains items x → Contains (items_below p items) x ⊎ Contains (items_beside p items) x
below_or_beside p items x there =
    Contains-append_cases (items_below p items) (items_beside p items) x
    (Contains-permutation items (items_below p items ++ items_beside p items) x
    (IsPermutation-filter_both (λ (y : Item). begins p y.key.bits) (λ (y : Item). not (begins p y.key.bits)) (λ _. refl) items) there)

from_both : (p : List Bool) (items : List Item) (x : Item) → Contains (items_below p items ++ items_beside p items) x → Contains items x
from_both p items x there =
    Contains-permutation (items_below p items ++ items_beside p items) items x
    (IsPermutation-sym items (items_below p items ++ items_beside p items)
    (IsPermutation-filter_both (λ (y : Item). begins p y.key.bits) (λ (y : Item). not (begins p y.key.bits)) (λ _. refl) items)) there

-- a cut keeps all items
pub cut_to : (old : List Region) (i : ℕ) (p : List Bool) (new : List Region) → i < length old → IsCut old i p new → (x : Item) → Contains (items_in new) x →
    Contains (items_in old) x
cut_to old i p new h cut x there =
    let items : List Item = items_at old i in
    let rest : List Region = with_items old i (items_beside p items) in
    elim (insert_items rest cut.place (record { prefix = p; items = items_below p items }) x (place_within old i p new cut (items_beside p items))
    (subst (λ rs. Contains (items_in rs) x) cut.same there)) [
      | inl below ↦ item_in old i x h (from_both p items x (Contains-append_left (items_below p items) (items_beside p items) x below))
      | inr kept ↦
          elim (others_in old i (items_beside p items) x h kept) [
            | inl beside ↦ item_in old i x h (from_both p items x (Contains-append_right (items_below p items) (items_beside p items) x beside))
            | inr far ↦ item_in old far.0 x far.1 far.3
          ]
    ]

pub cut_from : (old : List Region) (i : ℕ) (p : List Bool) (new : List Region) → i < length old → IsCut old i p new → (x : Item) → Contains (items_in old) x →
    Contains (items_in new) x
cut_from old i p new h cut x there =
    let items : List Item = items_at old i in
    let beside : List Item = items_beside p items in
    let rest : List Region = with_items old i beside in
    let r : Region = record { prefix = p; items = items_below p items } in
    let fits : cut.place ≤ length rest = place_within old i p new cut beside in
    let lies : LiesIn old x = item_lies old x there in
    subst (λ rs. Contains (items_in rs) x) (sym cut.same)
    (elim (cases_eq lies.region i) [
      | inl e ↦
          elim (below_or_beside p items x (subst (λ k. Contains (items_at old k) x) e lies.inside)) [
            | inl low ↦ inserted_item rest cut.place r x fits low
            | inr aside ↦ kept_item rest cut.place r x fits (same_in old i beside x h aside)
          ]
      | inr d ↦ kept_item rest cut.place r x fits (other_in old i lies.region beside x lies.within d lies.inside)
    ])

-- ---- an item comes

pub put_within : (old : List Region) (item : Item) (new : List Region) (put : IsPut old item new) → put.region < length old
put_within old item new put = omega (arith, put.owner.within, length-map old (λ (r : Region). r.prefix))

pub put_items : (old : List Region) (item : Item) (new : List Region) → IsPut old item new → IsWith (items_in old) item (items_in new)
put_items old item new put x =
    let r : ℕ = put.region in
    let items : List Item = items_at old r in
    let more : List Item = insert items put.place item in
    let h : r < length old = put_within old item new put in
    let moves = IsPermutation-insert items put.place item in (
      λ there.
          elim (others_in old r more x h (subst (λ rs. Contains (items_in rs) x) put.same there)) [
            | inl here ↦
                elim (contains_cases item x items (Contains-permutation more (item ∷ items) x (IsPermutation-sym (item ∷ items) more moves) here)) [
                  | inl e ↦ inr (sym e)
                  | inr was ↦ inl (item_in old r x h was)
                ]
            | inr far ↦ inl (item_in old far.0 x far.1 far.3)
          ],
      λ either.
          subst (λ rs. Contains (items_in rs) x) (sym put.same)
          (elim either [
            | inl was ↦
                let lies : LiesIn old x = item_lies old x was in
                elim (cases_eq lies.region r) [
                  | inl e ↦
                      same_in old r more x h (Contains-permutation (item ∷ items) more x moves
                      (contains_later item x items (subst (λ k. Contains (items_at old k) x) e lies.inside)))
                  | inr d ↦ other_in old r lies.region more x lies.within d lies.inside
                ]
            | inr e ↦ same_in old r more x h (Contains-permutation (item ∷ items) more x moves
                (subst (Contains (item ∷ items)) (sym e) (contains_first item items)))
          ]),
    )

pub put_few : (old : List Region) (item : Item) (new : List Region) → IsPut old item new → ((k : ℕ) → k < length old → length (items_at old k) ≤ 24)
    → ((k : ℕ) → IsOwner (region_prefixes old) item.key.bits k → length (items_at old k) < 24) → (k : ℕ) → k < length new → length (items_at new k) ≤ 24
put_few old item new put few room k l =
    let r : ℕ = put.region in
    let items : List Item = items_at old r in
    let more : List Item = insert items put.place item in
    let h : r < length old = put_within old item new put in
    let within : k < length old = omega (arith, l, ap length put.same, with_items_length old r more) in
    let fits : put.place ≤ length items = omega (arith, put.fits.within, length-map items (λ (y : Item). y.key.bits)) in
    subst (λ rs. length (items_at rs k) ≤ 24) (sym put.same)
    (elim (cases_eq k r) [
      | inl e ↦
          let at : items_at (with_items old r more) k ≡ more = ap (items_at (with_items old r more)) e ∙ items_same old r more h in
          omega (arith, ap length at, length-insert items put.place item fits, room r put.owner)
      | inr d ↦ omega (arith, ap length (items_other old r k more d), few k within)
    ])

-- ---- where a region is cut for a key

-- every region that was there still is
still_there : (regions : List Region) (c : ℕ) (r : Region) (k : ℕ) → c ≤ length regions → k < length regions
    → (t : ℕ) × (t < length (insert regions c r)) × (region_at (insert regions c r) t ≡ region_at regions k)
still_there regions c r k h l =
    let long : length (insert regions c r) ≡ length regions + 1 = length-insert regions c r h in
    elim (cases_lt k c) [
      | inl m ↦
          elim (in_insert regions c r empty_region k h) [
            | in_front n s ↦ (k, omega arith, s)
            | itself n s ↦ absurd (omega arith)
            | behind j e n s ↦ absurd (omega arith)
          ]
      | inr m ↦
          elim (in_insert regions c r empty_region (k + 1) h) [
            | in_front n s ↦ absurd (omega arith)
            | itself n s ↦ absurd (omega arith)
            | behind j e n s ↦
                let same : j ≡ k = omega arith in
                (k + 1, omega arith, s ∙ ap (region_at regions) same)
          ]
    ]

-- the region that owns the key after a region of 24 items was cut for it has under 24
pub owner_has_place : (old : List Region) (i : ℕ) (key : List Bool) (middle : List Region) → IsWellPlaced old → i < length old →
    IsOwner (region_prefixes old) key i
    → length (items_at old i) ≡ 24 → IsSplitFor old i key middle → (k : ℕ) → IsOwner (region_prefixes middle) key k → length (items_at middle k) < 24
owner_has_place old i key middle well h owner full split k own =
    let p : List Bool = split.prefix in
    let items : List Item = items_at old i in
    let keys : List (List Bool) = keys_at old i in
    let beside : List Item = items_beside p items in
    let rest : List Region = with_items old i beside in
    let r : Region = record { prefix = p; items = items_below p items } in
    let cut = split.cut in
    let fits : cut.place ≤ length rest = place_within old i p middle cut beside in
    let parts : count_under p (keys ++ key ∷ []) ≡ count_under p keys + count_under p (key ∷ []) =
    ap length (filter-append (begins p) keys (key ∷ [])) ∙ length-append (filter (begins p) keys) (filter (begins p) (key ∷ [])) in
    let sizes = both_sizes p items in
    let many = length-append keys (key ∷ []) in
    let as_many = length-map items (λ (y : Item). y.key.bits) in
    let last = count_within p (key ∷ []) in
    let low : length (items_below p items) < 24 = omega (arith, parts, below_count p items, split.fair.at_most, many, as_many, full) in
    let aside : length beside < 24 = omega (arith, parts, below_count p items, split.fair.at_least, many, as_many, full, sizes, last) in
    let all : List Region = insert rest cut.place r in
    let own' : IsOwner (region_prefixes all) key k = subst (λ rs. IsOwner (region_prefixes rs) key k) cut.same own in
    let inside : k < length all = omega (arith, own'.within, length-map all (λ (q : Region). q.prefix)) in
    subst (λ rs. length (items_at rs k) < 24) (sym cut.same)
    (elim (located rest cut.place r k fits inside) [
      | inl s ↦ omega (arith, low, ap (λ (q : Region). length q.items) s)
      | inr m ↦
          let within : m.0 < length old = omega (arith, m.1, with_items_length old i beside) in
          elim (cases_eq m.0 i) [
            | inl e ↦
                let at : items_at rest m.0 ≡ beside = ap (items_at rest) e ∙ items_same old i beside h in
                omega (arith, aside, ap (λ (q : Region). length q.items) m.2, ap length at)
            | inr d ↦
                let olds : List (List Bool) = region_prefixes old in
                let here : bits_at (region_prefixes all) k ≡ bits_at olds m.0 =
                prefix_is all k inside ∙ ap (λ (q : Region). q.prefix) (m.2 ∙ region_at_other old i m.0 beside d) ∙ sym (prefix_is old m.0 within) in
                let begin : Begins (bits_at olds m.0) key = subst (λ q. Begins q key) here own'.begins in
                let within_old : m.0 < length olds = omega (arith, within, length-map old (λ (q : Region). q.prefix)) in
                let shorter : length (bits_at olds m.0) ≤ length (bits_at olds i) = owner.longest m.0 within_old begin in
                let rest_long = with_items_length old i beside in
                let still = still_there rest cut.place r i fits (omega arith) in
                let prefix_same : (region_at rest i).prefix ≡ (region_at old i).prefix =
                sym (prefix_is rest i (omega arith)) ∙ ap (λ ps. bits_at ps i) (with_items_prefixes old i beside) ∙ prefix_is old i h in
                let there : bits_at (region_prefixes all) still.0 ≡ bits_at olds i =
                prefix_is all still.0 still.1 ∙ ap (λ (q : Region). q.prefix) still.2 ∙ prefix_same ∙ sym (prefix_is old i h) in
                let begin_i : Begins (bits_at (region_prefixes all) still.0) key = subst (λ q. Begins q key) (sym there) owner.begins in
                let longer = own'.longest still.0 (omega (arith, still.1, length-map all (λ (q : Region). q.prefix))) begin_i in
                let longer' : length (bits_at olds i) ≤ length (bits_at olds m.0) = omega (arith, longer, ap length there, ap length here) in
                absurd (d (rising_once olds well.rising m.0 i within_old owner.within
                (begins_both (bits_at olds m.0) (bits_at olds i) (begins_shorter (bits_at olds m.0) (bits_at olds i) key begin owner.begins shorter)
                (begins_shorter (bits_at olds i) (bits_at olds m.0) key owner.begins begin longer'))))
          ]
    ])

-- ---- a region is split, and then the item comes

-- what an item does that comes after its region was split for it
pub record Comes (old : List Region) (item : Item) (middle new : List Region) : Type 0 where
  pub more : IsWith (items_in old) item (items_in new)
  pub few : (k : ℕ) → k < length new → length (items_at new k) ≤ 24

pub comes_after : (old : List Region) (i : ℕ) (item : Item) (middle new : List Region) → IsWellPlaced old → i < length old →
    IsOwner (region_prefixes old) item.key.bits i
    → 24 ≤ length (items_at old i) → ((k : ℕ) → k < length old → length (items_at old k) ≤ 24) → IsSplitFor old i item.key.bits middle → IsPut middle item new →
    Comes old item middle new
comes_after old i item middle new well h owner full few split put =
    let to = cut_to old i split.prefix middle h split.cut in
    let from = cut_from old i split.prefix middle h split.cut in
    let most : length (items_at old i) ≤ 24 = few i h in
    record {
      more = λ x. (
        λ there. elim ((put_items middle item new put x).0 there) [ inl was ↦ inl (to x was) | inr e ↦ inr e ],
        λ either. (put_items middle item new put x).1 (elim either [ inl was ↦ inl (from x was) | inr e ↦ inr e ]),
      );
      few = put_few middle item new put (split_for_few old i item.key.bits middle well h split (λ k l _. few k l))
          (owner_has_place old i item.key.bits middle well h owner (omega arith) split);
    }
