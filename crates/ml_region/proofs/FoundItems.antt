-- Where the item with a key is, and what a read of the directory and of a page says of the regions.
use Rattle.std.proofs.Common.{◌≡◌, ℕ, ◌<◌, Bool, List, [], length, get_or, sym, ap, subst, ◌∙◌, arith}
use Rattle.std.specs.Prelude.{Contains}
use Rattle.std.proofs.lemmas.List.{get_or-map}
use Rattle.ml_region.specs.Prefixes.{bits_at, IsRising, IsOwner}
use Rattle.ml_region.specs.Listing.{Entry, slot_at, prefix_at, prefixes_of}
use Rattle.ml_region.specs.Regions.{Region, region_prefixes, region_at, items_at, keys_of, keys_at, IsWellPlaced, HasNoKey, IsFound}
use Rattle.ml_region.specs.inside.Stored.{page_at, regions_of, IsStored}
use Rattle.ml_region.specs.declared.item.Item.{Item}
use Rattle.ml_region.proofs.OwnerSearch.{one_owner}
use Rattle.ml_region.proofs.StoredRegions.{region_is, regions_prefixes, regions_length, prefixes_length}

-- the items of a region are those of its page
pub items_of_page : (entries : List Entry) (pages : List (List Item)) (i : ℕ) → i < length entries →
    items_at (regions_of entries pages) i ≡ page_at pages (slot_at entries i)
items_of_page entries pages i h = ap (λ (r : Region). r.items) (region_is entries pages i h)

pub prefix_of_entry : (entries : List Entry) (pages : List (List Item)) (i : ℕ) → i < length entries →
    (region_at (regions_of entries pages) i).prefix ≡ prefix_at entries i
prefix_of_entry entries pages i h = ap (λ (r : Region). r.prefix) (region_is entries pages i h)

pub owner_of_key : (entries : List Entry) (pages : List (List Item)) (key : List Bool) (i : ℕ) → IsOwner (prefixes_of entries) key i →
    IsOwner (region_prefixes (regions_of entries pages)) key i
owner_of_key entries pages key i owner = subst (λ ps. IsOwner ps key i) (sym (regions_prefixes entries pages)) owner

-- a key that its owner has not is nowhere
pub nowhere : (regions : List Region) (key : List Bool) (i : ℕ) → IsWellPlaced regions → IsOwner (region_prefixes regions) key i →
    (Contains (keys_at regions i) key → ⊥)
    → HasNoKey regions key
nowhere regions key i placed owner none k h there =
    let same : k ≡ i = one_owner (region_prefixes regions) key k i placed.rising (placed.owned k key h there) owner in
    none (subst (λ m. Contains (keys_at regions m) key) same there)

-- the same for the page of the owner
pub nowhere_stored : (entries : List Entry) (pages : List (List Item)) (free : List ℕ) (reserved i : ℕ) (key : List Bool) (page : List Item) →
    IsStored entries pages free reserved
    → IsOwner (prefixes_of entries) key i → page ≡ page_at pages (slot_at entries i) → (Contains (keys_of page) key → ⊥) →
    HasNoKey (regions_of entries pages) key
nowhere_stored entries pages free reserved i key page stored owner is none =
    let h : i < length entries = omega (arith, owner.within, prefixes_length entries) in
    nowhere (regions_of entries pages) key i stored.placed (owner_of_key entries pages key i owner)
    (λ there. none (subst (λ xs. Contains (keys_of xs) key) (items_of_page entries pages i h ∙ sym is) there))

-- an item of the owner's page is found
pub found_stored : (entries : List Entry) (pages : List (List Item)) (i j : ℕ) (key : List Bool) (page : List Item) (item : Item) → i < length entries
    → page ≡ page_at pages (slot_at entries i) → j < length page → item ≡ get_or page j item → item.key.bits ≡ key → IsFound (regions_of entries pages) key item
found_stored entries pages i j key page item h is within same e =
    let items : items_at (regions_of entries pages) i ≡ page = items_of_page entries pages i h ∙ sym is in
    record {
      region = i;
      within = omega (arith, regions_length entries pages);
      place = j;
      inside = subst (λ xs. j < length xs) (sym items) within;
      same = subst (λ xs. get_or xs j item ≡ item) (sym items) (sym same);
      key_is = e;
    }

-- the page of an owner is in key order
pub page_rising : (entries : List Entry) (pages : List (List Item)) (free : List ℕ) (reserved i : ℕ) → IsStored entries pages free reserved → i < length entries
    → IsRising (keys_of (page_at pages (slot_at entries i)))
page_rising entries pages free reserved i stored h =
    subst (λ xs. IsRising (keys_of xs)) (items_of_page entries pages i h) (stored.placed.ordered i (omega (arith, regions_length entries pages)))

-- the key of the item at a place
pub key_of_item : (items : List Item) (j : ℕ) (x : Item) → j < length items → bits_at (keys_of items) j ≡ (get_or items j x).key.bits
key_of_item items j x h = get_or-map (λ (x : Item). x.key.bits) items j x [] h
