-- The steps of a merge: the items that are poured, the entry that goes, and its slot that becomes free.
use Rattle.std.proofs.Common.{◌≡◌, ◌≢◌, ◌⊎◌, ℕ, zero, suc, ◌+◌, ◌<◌, ◌≤◌, ◌==◌, Bool, List, [], ◌∷◌, ◌++◌, length, get_or, set, cond, refl, sym, ap, subst, ◌∙◌}
use Rattle.std.proofs.Common.{arith, length-append}
use Rattle.std.specs.Prelude.{Contains}
use Rattle.std.specs.List.{remove}
use Rattle.std.specs.List.Sorted.{IsPermutation}
use Rattle.std.proofs.Math.ListN.{length-set}
use Rattle.std.proofs.lemmas.List.{map-append}
use Rattle.std.proofs.lemmas.List.Edits.{length-remove}
use Rattle.std.proofs.lemmas.List.Elements.{Contains-append_cases}
use Rattle.std.proofs.lemmas.List.Sorted.{IsPermutation-map, IsPermutation-sym, Contains-permutation, length_permutation}
use Rattle.std.proofs.lemmas.List.Sums.{sum_by_push, sum_by-remove}
use Rattle.ml_region.specs.Prefixes.{IsParent}
use Rattle.ml_region.specs.Listing.{Entry, IsSlotOfParent, prefix_at, slot_at}
use Rattle.ml_region.specs.Regions.{Region, region_prefixes, region_at, items_at, keys_of, keys_at, with_items, IsWellPlaced}
use Rattle.ml_region.specs.Changes.{IsMerged}
use Rattle.ml_region.specs.inside.Moves.{IsPoured}
use Rattle.ml_region.specs.inside.Stored.{page_at, region_of, regions_of, AreShared, IsStored}
use Rattle.ml_region.specs.declared.item.Item.{Item}
use Rattle.ml_region.proofs.ListInsertions.{map_remove}
use Rattle.ml_region.proofs.OwnerSearch.{one_owner}
use Rattle.ml_region.proofs.StoredRegions.{regions_length, regions_prefixes, set_page}
use Rattle.ml_region.proofs.PlacedRegions.{region_at_other}
use Rattle.ml_region.proofs.FoundItems.{items_of_page, prefix_of_entry}
use Rattle.ml_region.proofs.RegionMerges.{IsMerging, parent_before, placed_merged}

-- ---- slots

slot_of_entry : (entries : List Entry) (i : ℕ) (d : Entry) → i < length entries → (get_or entries i d).slot ≡ slot_at entries i
slot_of_entry [] i d h = absurd (omega arith)
slot_of_entry (e ∷ es) zero d h = refl
slot_of_entry (e ∷ es) (suc i) d h = slot_of_entry es i d (omega arith)

abbrev ones : Bool → ℕ
ones b = cond b 1 0

pub shared_freed : (entries : List Entry) (free : List ℕ) (pages i : ℕ) → AreShared entries free pages → i < length entries
    → AreShared (remove entries i) (free ++ slot_at entries i ∷ []) pages
shared_freed entries free pages i s h =
    let d : Entry = record { prefix = []; slot = 0 } in
    record {
      once = λ t.
          let same : ◌≡◌ {A = ℕ} (cond ((get_or entries i d).slot == t) 1 0) (cond (slot_at entries i == t) 1 0) =
          ap (λ k. ones (k == t)) (slot_of_entry entries i d h) in
          omega (
            arith,
            s.once t,
            sum_by-remove (λ (e : Entry). cond (e.slot == t) 1 0) entries i d h,
            sum_by_push (λ k. cond (k == t) 1 0) free (slot_at entries i),
            same,
          );
      all = omega (arith, s.all, length-remove entries i h, length-append free (slot_at entries i ∷ []));
    }

-- ---- lists

remove_set : {X : Type 0} (xs : List X) (i : ℕ) (x : X) → remove (set xs i x) i ≡ remove xs i
remove_set [] i x = refl
remove_set (y ∷ ys) zero x = refl
remove_set (y ∷ ys) (suc i) x = ap (λ zs. y ∷ zs) (remove_set ys i x)

set_other : {X : Type 0} (xs : List X) (i j : ℕ) (x y : X) → i ≢ j → set (set xs i x) j y ≡ set (set xs j y) i x
set_other [] i j x y n = refl
set_other (z ∷ zs) zero zero x y n = absurd (n refl)
set_other (z ∷ zs) zero (suc j) x y n = refl
set_other (z ∷ zs) (suc i) zero x y n = refl
set_other (z ∷ zs) (suc i) (suc j) x y n = ap (λ ws. z ∷ ws) (set_other zs i j x y (λ e. n (ap suc e)))

-- a region that goes may have lost its items before
forgotten : (regions : List Region) (i parent : ℕ) (items : List Item) → parent ≢ i
    → remove (with_items (with_items regions i []) parent items) i ≡ remove (with_items regions parent items) i
forgotten regions i parent items n =
    let r : Region = record { prefix = (region_at regions parent).prefix; items = items } in
    let same : (region_at (with_items regions i []) parent).prefix ≡ (region_at regions parent).prefix =
    ap (λ (q : Region). q.prefix) (region_at_other regions i parent [] n) in
    ap (λ p. remove (set (with_items regions i []) parent (record { prefix = p; items = items })) i) same
    ∙ ap (λ qs. remove qs i) (set_other regions i parent (record { prefix = (region_at regions i).prefix; items = [] }) r (λ e. n (sym e)))
    ∙ remove_set (set regions parent r) i (record { prefix = (region_at regions i).prefix; items = [] })

-- ---- the merge

module _ (entries : List Entry) (pages : List (List Item)) (free : List ℕ) (reserved i to : ℕ) (stored : IsStored entries pages free reserved)
    (h : i < length entries)
    (sp : IsSlotOfParent entries (prefix_at entries i) to) where
  pub parent_is : IsParent (region_prefixes (regions_of entries pages)) (region_at (regions_of entries pages) i).prefix sp.place
  parent_is =
      subst (λ p. IsParent (region_prefixes (regions_of entries pages)) p sp.place) (sym (prefix_of_entry entries pages i h))
      (subst (λ ps. IsParent ps (prefix_at entries i) sp.place) (sym (regions_prefixes entries pages)) sp.parent)

  pub parent_in_front : sp.place < i
  parent_in_front = parent_before (regions_of entries pages) i sp.place stored.placed (omega (arith, regions_length entries pages)) parent_is

  pub parent_within : sp.place < length entries
  parent_within = omega (arith, parent_in_front)

  pub own_items : items_at (regions_of entries pages) i ≡ page_at pages (slot_at entries i)
  own_items = items_of_page entries pages i h

  pub parent_items : items_at (regions_of entries pages) sp.place ≡ page_at pages to
  parent_items = items_of_page entries pages sp.place parent_within ∙ ap (page_at pages) (sym sp.same)

  -- no key is in both
  pub keys_differ : (key : List Bool) → Contains (keys_of (page_at pages (slot_at entries i))) key → Contains (keys_of (page_at pages to)) key → ⊥
  keys_differ key own its =
      let rs : List Region = regions_of entries pages in
      let own' : Contains (keys_at rs i) key = subst (λ xs. Contains (keys_of xs) key) (sym own_items) own in
      let its' : Contains (keys_at rs sp.place) key = subst (λ xs. Contains (keys_of xs) key) (sym parent_items) its in
      let i_in : i < length rs = omega (arith, regions_length entries pages) in
      let p_in : sp.place < length rs = omega (arith, regions_length entries pages, parent_within) in
      let same : sp.place ≡ i =
      one_owner (region_prefixes rs) key sp.place i stored.placed.rising (stored.placed.owned sp.place key p_in its') (stored.placed.owned i key i_in own') in
      omega (arith, parent_in_front, same)

  pub merge_end : (new : List (List Item)) → length (page_at pages to) + length (page_at pages (slot_at entries i)) ≤ 31 →
      IsPoured pages (slot_at entries i) to new
      → IsStored (remove entries i) new (free ++ slot_at entries i ∷ []) reserved × IsMerged (regions_of entries pages) i (regions_of (remove entries i) new)
  merge_end new few poured =
      let rs : List Region = regions_of entries pages in
      let from : ℕ = slot_at entries i in
      let items : List Item = poured.items in
      let i_in : i < length rs = omega (arith, regions_length entries pages) in
      let half : List (List Item) = set pages from [] in
      let half_long : length half ≡ length pages = length-set pages from [] in
      let long : length new ≡ length pages = ap length poured.same ∙ length-set half to items ∙ half_long in
      let first : regions_of entries half ≡ with_items rs i [] = set_page entries pages free i [] stored.shared h in
      let second : regions_of entries new ≡ with_items (with_items rs i []) sp.place items =
      ap (regions_of entries) poured.same ∙ ap (λ s. regions_of entries (set half s items)) sp.same
      ∙ set_page entries half free sp.place items (subst (AreShared entries free) (sym half_long) stored.shared) parent_within
      ∙ ap (λ qs. with_items qs sp.place items) first in
      let apart : sp.place ≢ i = λ e. let l : sp.place < i = parent_in_front in omega arith in
      let whole : regions_of (remove entries i) new ≡ remove (with_items rs sp.place items) i =
      map_remove (region_of new) entries i ∙ ap (λ qs. remove qs i) second ∙ forgotten rs i sp.place items apart in
      let all : IsPermutation (items_at rs sp.place ++ items_at rs i) items =
      subst (λ xs. IsPermutation (xs ++ items_at rs i) items) (sym parent_items)
      (subst (λ xs. IsPermutation (page_at pages to ++ xs) items) (sym own_items) poured.all) in
      let old : (key : List Bool) → Contains (keys_of items) key → Contains (keys_at rs sp.place) key ⊎ Contains (keys_at rs i) key = λ key c.
      Contains-append_cases (keys_at rs sp.place) (keys_at rs i) key
      (subst (λ ks. Contains ks key) (map-append (λ (x : Item). x.key.bits) (items_at rs sp.place) (items_at rs i))
      (Contains-permutation (keys_of items) (keys_of (items_at rs sp.place ++ items_at rs i)) key
      (IsPermutation-sym (keys_of (items_at rs sp.place ++ items_at rs i)) (keys_of items)
      (IsPermutation-map (λ (x : Item). x.key.bits) (items_at rs sp.place ++ items_at rs i) items all)) c)) in
      let may : IsMerging rs i sp.place items = record {
        within = i_in;
        is_parent = parent_is;
        ordered = poured.rising;
        few = omega (
          arith,
          few,
          length_permutation (page_at pages to ++ page_at pages from) items poured.all,
          length-append (page_at pages to) (page_at pages from),
        );
        old = old;
      } in (
        record {
          shared = subst (AreShared (remove entries i) (free ++ from ∷ [])) (sym long) (shared_freed entries free (length pages) i stored.shared h);
          room = omega (arith, stored.room, long);
          placed = subst IsWellPlaced (sym whole) (placed_merged rs i sp.place items stored.placed may);
        },
        record { parent = sp.place; is_parent = parent_is; items = items; all = all; rising = poured.rising; same = whole },
      )
