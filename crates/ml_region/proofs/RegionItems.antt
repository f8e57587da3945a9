-- What may stand in a region: its items with one more, one less or one that is marked.
use Rattle.std.proofs.Common.{◌≡◌, ◌⊎◌, inl, inr, ℕ, ◌<◌, ◌≤◌, Bool, List, [], length, get_or, set, sym, ap, subst, ◌∙◌, arith}
use Rattle.std.specs.Prelude.{Contains}
use Rattle.std.specs.List.{insert, remove}
use Rattle.std.proofs.Math.ListN.{length-set}
use Rattle.std.proofs.lemmas.List.{length-map, map-set, set-get_or, get_or-map}
use Rattle.std.proofs.lemmas.List.Edits.{length-insert, length-remove}
use Rattle.std.specs.Prelude.{IsTrue}
use Rattle.std.proofs.Props.{props}
use Rattle.ml_term.specs.Seen.{seen}
use Rattle.ml_term.specs.Valid.{is_valid}
use Rattle.ml_region.specs.Changes.{IsMarkedAt}
use Rattle.ml_region.specs.declared.item.Id.{Id}
use Rattle.ml_bits.specs.BitList.{Begins}
use Rattle.ml_region.specs.Prefixes.{IsRising, IsPlaceFor, IsOwner}
use Rattle.ml_region.specs.Listing.{Entry, slot_at}
use Rattle.ml_region.specs.Regions.{IsApart, Region, region_prefixes, items_at, keys_of, keys_at, IsWellPlaced}
use Rattle.ml_region.specs.inside.Stored.{regions_of, AreShared, IsStored}
use Rattle.ml_region.specs.declared.item.Item.{Item}
use Rattle.ml_region.proofs.ListInsertions.{map_insert, map_remove, contains_insert, contains_remove, rising_insert, rising_remove}
use Rattle.ml_region.proofs.StoredRegions.{set_page}
use Rattle.ml_region.proofs.PlacedRegions.{MayStand, placed_with_items}

pub keys_length : (items : List Item) → length (keys_of items) ≡ length items
keys_length items = length-map items (λ (x : Item). x.key.bits)

pub keys_insert : (items : List Item) (j : ℕ) (x : Item) → keys_of (insert items j x) ≡ insert (keys_of items) j x.key.bits
keys_insert items j x = map_insert (λ (x : Item). x.key.bits) items j x

pub keys_remove : (items : List Item) (j : ℕ) → keys_of (remove items j) ≡ remove (keys_of items) j
keys_remove items j = map_remove (λ (x : Item). x.key.bits) items j

-- the regions that are stored where a page changes
pub stored_with : (entries : List Entry) (pages : List (List Item)) (free : List ℕ) (reserved i : ℕ) (items : List Item) →
    IsStored entries pages free reserved → i < length entries
    → MayStand (regions_of entries pages) i items → IsStored entries (set pages (slot_at entries i) items) free reserved
stored_with entries pages free reserved i items stored h may =
    let long : length (set pages (slot_at entries i) items) ≡ length pages = length-set pages (slot_at entries i) items in
    record {
      shared = subst (AreShared entries free) (sym long) stored.shared;
      room = omega (arith, stored.room, long);
      placed = subst IsWellPlaced (sym (set_page entries pages free i items stored.shared h))
          (placed_with_items (regions_of entries pages) i items stored.placed may);
    }

pub may_insert : (regions : List Region) (i j : ℕ) (x : Item) → IsWellPlaced regions → IsOwner (region_prefixes regions) x.key.bits i →
    IsPlaceFor (keys_at regions i) x.key.bits j
    → length (items_at regions i) < 31 → IsApart regions x.key.bits → i < length regions → MayStand regions i (insert (items_at regions i) j x)
may_insert regions i j x placed owner fits few apart h =
    let items : List Item = items_at regions i in
    let key : List Bool = x.key.bits in
    let within : j ≤ length items = omega (arith, fits.within, keys_length items) in
    let keys : keys_of (insert items j x) ≡ insert (keys_of items) j key = keys_insert items j x in
    let parts : (k : List Bool) → Contains (keys_of (insert items j x)) k → Contains (keys_of items) k ⊎ (key ≡ k) =
    λ k c. contains_insert (keys_of items) j key k fits.within (subst (λ ks. Contains ks k) keys c) in
    record {
      within = h;
      ordered = subst IsRising (sym keys) (rising_insert (keys_of items) key j (placed.ordered i h) fits);
      few = omega (arith, length-insert items j x within);
      owned = λ k c. elim (parts k c) [
        | inl o ↦ placed.owned i k h o
        | inr e ↦ subst (λ l. IsOwner (region_prefixes regions) l i) e owner
      ];
      inside = λ k l c d b. elim (parts k c) [
        | inl o ↦ elim (parts l d) [
          | inl p ↦ placed.apart i i k l h h o p b
          | inr f ↦ absurd ((apart i k h o).0 (subst (Begins k) (sym f) b))
        ]
        | inr e ↦ elim (parts l d) [
          | inl p ↦ absurd ((apart i l h p).1 (subst (λ m. Begins m l) (sym e) b))
          | inr f ↦ sym e ∙ f
        ]
      ];
      outside = λ m k l g n c d. elim (parts k c) [
        | inl o ↦ (placed.apart i m k l h g o d, placed.apart m i l k g h d o)
        | inr e ↦ (λ b. absurd ((apart m l g d).1 (subst (λ q. Begins q l) (sym e) b)), λ b. absurd ((apart m l g d).0 (subst (Begins l) (sym e) b)))
      ];
    }

-- items whose keys are all among those that were there
pub may_lessen : (regions : List Region) (i : ℕ) (items : List Item) → IsWellPlaced regions → i < length regions → IsRising (keys_of items) → length items ≤ 31
    → ((key : List Bool) → Contains (keys_of items) key → Contains (keys_at regions i) key) → MayStand regions i items
may_lessen regions i items placed h up few old = record {
  within = h;
  ordered = up;
  few = few;
  owned = λ k c. placed.owned i k h (old k c);
  inside = λ k l c d b. placed.apart i i k l h h (old k c) (old l d) b;
  outside = λ m k l g n c d. (placed.apart i m k l h g (old k c) d, placed.apart m i l k g h d (old k c));
}

pub may_remove : (regions : List Region) (i j : ℕ) → IsWellPlaced regions → i < length regions → j < length (items_at regions i)
    → MayStand regions i (remove (items_at regions i) j)
may_remove regions i j placed h g =
    let items : List Item = items_at regions i in
    let inside : j < length (keys_of items) = omega (arith, keys_length items) in
    may_lessen regions i (remove items j) placed h
    (subst IsRising (sym (keys_remove items j)) (rising_remove (keys_of items) j (placed.ordered i h) inside))
    (omega (arith, placed.few i h, length-remove items j g))
    (λ k c. contains_remove (keys_of items) j k inside (subst (λ ks. Contains ks k) (keys_remove items j) c))

-- an item in the place of another with the same key
pub keys_set : (items : List Item) (j : ℕ) (x old : Item) → j < length items → old ≡ get_or items j old → x.key.bits ≡ old.key.bits →
    keys_of (set items j x) ≡ keys_of items
keys_set items j x old h is e =
    map-set (λ (x : Item). x.key.bits) items j x
    ∙ ap (set (keys_of items) j) (e ∙ ap (λ (y : Item). y.key.bits) is ∙ sym (get_or-map (λ (y : Item). y.key.bits) items j old [] h))
    ∙ set-get_or (keys_of items) j []

pub may_set : (regions : List Region) (i j : ℕ) (x old : Item) → IsWellPlaced regions → i < length regions → j < length (items_at regions i)
    → old ≡ get_or (items_at regions i) j old → x.key.bits ≡ old.key.bits → MayStand regions i (set (items_at regions i) j x)
may_set regions i j x old placed h g is e =
    let items : List Item = items_at regions i in
    let keys : keys_of (set items j x) ≡ keys_of items = keys_set items j x old g is e in
    may_lessen regions i (set items j x) placed h (subst IsRising (sym keys) (placed.ordered i h)) (omega (arith, placed.few i h, length-set items j x))
    (λ k c. subst (λ ks. Contains ks k) keys c)

-- a fact that is kept has one proof
pub marked_at : (old : List Item) (j : ℕ) (committed : Bool) (id : Id) (x : Item) (v : IsTrue (is_valid (seen x.term))) → x ≡ get_or old j x
    → IsMarkedAt old j committed id (set old j (record {
      key = x.key;
      term = x.term;
      number = x.number;
      committed = committed;
      front = x.front;
      id = id;
      valid =
          v;
    }))
marked_at old j committed id x v is =
    let one : IsProp (IsTrue (is_valid (seen x.term))) = hlevel props in
    record {
      item = x;
      there = is;
      same = ap (λ (w : IsTrue (is_valid (seen x.term))). set old j
          (record { key = x.key; term = x.term; number = x.number; committed = committed; front = x.front; id = id; valid = w })) (one v x.valid);
    }
