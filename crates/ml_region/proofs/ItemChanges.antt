-- One item that comes, goes or is marked in the page of its key's owner.
use Rattle.std.proofs.Common.{◌≡◌, ◌≢◌, ℕ, ◌<◌, Bool, List, [], length, get_or, set, refl, sym, ap, subst, ◌∙◌, arith}
use Rattle.std.specs.Prelude.{Contains}
use Rattle.std.specs.List.{insert, remove}
use Rattle.std.proofs.lemmas.List.Elements.{Contains-get_or}
use Rattle.ml_bits.specs.BitList.{Begins}
use Rattle.ml_bits.proofs.OrderLaws.{begins_itself}
use Rattle.ml_region.specs.Changes.{IsPut, IsTaken, IsMarked, IsMarkedAt, with_mark}
use Rattle.ml_region.specs.Prefixes.{bits_at, IsRising, IsPlaceFor, IsOwner}
use Rattle.ml_region.specs.Listing.{Entry, IsSlotOfOwner}
use Rattle.ml_region.specs.Regions.{Region, region_prefixes, items_at, keys_of, keys_at, with_items, IsApart, HasNoKey}
use Rattle.ml_region.specs.inside.Stored.{page_at, regions_of, IsStored, IsFirstFrom}
use Rattle.ml_region.specs.declared.item.Id.{Id}
use Rattle.ml_region.specs.declared.item.Item.{Item}
use Rattle.ml_region.proofs.StoredRegions.{regions_length, prefixes_length, slot_within, set_page}
use Rattle.ml_region.proofs.PlacedRegions.{MayStand}
use Rattle.ml_region.proofs.FoundItems.{items_of_page, owner_of_key, nowhere_stored, page_rising, key_of_item}
use Rattle.ml_region.proofs.PageSearch.{fits_first}
use Rattle.ml_region.proofs.RegionItems.{stored_with, may_insert, may_remove, may_set}

module _ (entries : List Entry) (pages : List (List Item)) (free : List ℕ) (reserved : ℕ) where
  within_entries : (key : List Bool) (slot : ℕ) (o : IsSlotOfOwner entries key slot) → o.place < length entries
  within_entries key slot o = omega (arith, o.owner.within, prefixes_length entries)

  pub owner_inside : (key : List Bool) (slot : ℕ) → IsStored entries pages free reserved → IsSlotOfOwner entries key slot → slot < length pages
  owner_inside key slot stored o = omega (arith, o.same, slot_within entries free (length pages) o.place stored.shared (within_entries key slot o))

  -- the items of the owner are those of the page
  owner_items : (key : List Bool) (slot : ℕ) (o : IsSlotOfOwner entries key slot) → items_at (regions_of entries pages) o.place ≡ page_at pages slot
  owner_items key slot o = items_of_page entries pages o.place (within_entries key slot o) ∙ ap (page_at pages) (sym o.same)

  pub owner_rising : (key : List Bool) (slot : ℕ) → IsStored entries pages free reserved → IsSlotOfOwner entries key slot →
      IsRising (keys_of (page_at pages slot))
  owner_rising key slot stored o =
      subst (λ s. IsRising (keys_of (page_at pages s))) (sym o.same) (page_rising entries pages free reserved o.place stored (within_entries key slot o))

  pub owner_few : (key : List Bool) (slot : ℕ) → IsStored entries pages free reserved → IsSlotOfOwner entries key slot
      → ((i : ℕ) → IsOwner (region_prefixes (regions_of entries pages)) key i → length (items_at (regions_of entries pages) i) < 31) →
      length (page_at pages slot) < 31
  owner_few key slot stored o few = subst (λ xs. length xs < 31) (owner_items key slot o) (few o.place (owner_of_key entries pages key o.place o.owner))

  pub owner_lacks : (key : List Bool) (slot : ℕ) → IsStored entries pages free reserved → IsSlotOfOwner entries key slot →
      (Contains (keys_of (page_at pages slot)) key → ⊥)
      → HasNoKey (regions_of entries pages) key
  owner_lacks key slot stored o none =
      nowhere_stored entries pages free reserved o.place key (page_at pages slot) stored o.owner (ap (page_at pages) o.same) none

  -- the page changes, and so do the owner's items
  changed : (key : List Bool) (slot : ℕ) (items : List Item) → IsStored entries pages free reserved → (o : IsSlotOfOwner entries key slot)
      → MayStand (regions_of entries pages) o.place items
      → IsStored entries (set pages slot items) free reserved
      × (regions_of entries (set pages slot items) ≡ with_items (regions_of entries pages) o.place items)
  changed key slot items stored o may =
      let h : o.place < length entries = within_entries key slot o in (
        subst (λ s. IsStored entries (set pages s items) free reserved) (sym o.same) (stored_with entries pages free reserved o.place items stored h may),
        ap (λ s. regions_of entries (set pages s items)) o.same ∙ set_page entries pages free o.place items stored.shared h,
      )

  pub put_item : (slot j : ℕ) (x : Item) → IsStored entries pages free reserved → IsSlotOfOwner entries x.key.bits slot →
      IsFirstFrom (keys_of (page_at pages slot)) x.key.bits j
      → length (page_at pages slot) < 31 → IsApart (regions_of entries pages) x.key.bits
      → IsStored entries (set pages slot (insert (page_at pages slot) j x)) free reserved
      × IsPut (regions_of entries pages) x (regions_of entries (set pages slot (insert (page_at pages slot) j x)))
  put_item slot j x stored o first few apart =
      let regions : List Region = regions_of entries pages in
      let key : List Bool = x.key.bits in
      let i : ℕ = o.place in
      let page : List Item = page_at pages slot in
      let items : items_at regions i ≡ page = owner_items key slot o in
      let h : i < length regions = omega (arith, within_entries key slot o, regions_length entries pages) in
      let new : (m : ℕ) → m < length (keys_of page) → bits_at (keys_of page) m ≢ key = λ m l e.
      (apart i (bits_at (keys_of page) m) h (subst (λ xs. Contains (keys_of xs) (bits_at (keys_of page) m)) (sym items)
      (Contains-get_or (keys_of page) m [] l))).0
      (subst (Begins (bits_at (keys_of page) m)) e (begins_itself (bits_at (keys_of page) m))) in
      let fits : IsPlaceFor (keys_of page) key j = fits_first (keys_of page) key j first new in
      let fits' : IsPlaceFor (keys_at regions i) key j = subst (λ xs. IsPlaceFor (keys_of xs) key j) (sym items) fits in
      let owner : IsOwner (region_prefixes regions) key i = owner_of_key entries pages key i o.owner in
      let may : MayStand regions i (insert (items_at regions i) j x) =
      may_insert regions i j x stored.placed owner fits' (subst (λ xs. length xs < 31) (sym items) few) apart h in
      let both = changed key slot (insert page j x) stored o (subst (λ xs. MayStand regions i (insert xs j x)) items may) in
      (both.0, record { region = i; owner = owner; place = j; fits = fits'; same = both.1 ∙ ap (λ xs. with_items regions i (insert xs j x)) (sym items) })

  pub take_item : (key : List Bool) (slot j : ℕ) (x : Item) → IsStored entries pages free reserved → IsSlotOfOwner entries key slot →
      j < length (page_at pages slot)
      → x ≡ get_or (page_at pages slot) j x → bits_at (keys_of (page_at pages slot)) j ≡ key
      → IsStored entries (set pages slot (remove (page_at pages slot) j)) free reserved
      × IsTaken (regions_of entries pages) key x (regions_of entries (set pages slot (remove (page_at pages slot) j)))
  take_item key slot j x stored o within is at =
      let regions : List Region = regions_of entries pages in
      let i : ℕ = o.place in
      let page : List Item = page_at pages slot in
      let items : items_at regions i ≡ page = owner_items key slot o in
      let h : i < length regions = omega (arith, within_entries key slot o, regions_length entries pages) in
      let inside : j < length (items_at regions i) = subst (λ xs. j < length xs) (sym items) within in
      let may : MayStand regions i (remove (items_at regions i) j) = may_remove regions i j stored.placed h inside in
      let both = changed key slot (remove page j) stored o (subst (λ xs. MayStand regions i (remove xs j)) items may) in (
        both.0,
        record {
          found = record {
            region = i;
            within = h;
            place = j;
            inside = inside;
            same = subst (λ xs. get_or xs j x ≡ x) (sym items) (sym is);
            key_is = ap (λ (y : Item). y.key.bits) is ∙ sym (key_of_item page j x within) ∙ at;
          };
          same = both.1 ∙ ap (λ xs. with_items regions i (remove xs j)) (sym items);
        },
      )

  pub mark_item : (key : List Bool) (slot j : ℕ) (committed : Bool) (id : Id) (new : List Item) → IsStored entries pages free reserved →
      IsSlotOfOwner entries key slot
      → j < length (page_at pages slot) → bits_at (keys_of (page_at pages slot)) j ≡ key → IsMarkedAt (page_at pages slot) j committed id new
      → IsStored entries (set pages slot new) free reserved × IsMarked (regions_of entries pages) key committed id (regions_of entries (set pages slot new))
  mark_item key slot j committed id new stored o within at mark =
      let regions : List Region = regions_of entries pages in
      let i : ℕ = o.place in
      let x : Item = mark.item in
      let y : Item = with_mark x committed id in
      let page : List Item = page_at pages slot in
      let items : items_at regions i ≡ page = owner_items key slot o in
      let h : i < length regions = omega (arith, within_entries key slot o, regions_length entries pages) in
      let inside : j < length (items_at regions i) = subst (λ xs. j < length xs) (sym items) within in
      let there : x ≡ get_or (items_at regions i) j x = subst (λ xs. x ≡ get_or xs j x) (sym items) mark.there in
      let may : MayStand regions i (set (items_at regions i) j y) = may_set regions i j y x stored.placed h inside there refl in
      let whole : set (items_at regions i) j y ≡ new = ap (λ xs. set xs j y) items ∙ sym mark.same in
      let both = changed key slot new stored o (subst (MayStand regions i) whole may) in (
        both.0,
        record {
          item = x;
          found = record {
            region = i;
            within = h;
            place = j;
            inside = inside;
            same = sym there;
            key_is = ap (λ (y : Item). y.key.bits) mark.there ∙ sym (key_of_item page j x within) ∙ at;
          };
          same = both.1 ∙ ap (with_items regions i) (sym whole);
        },
      )
