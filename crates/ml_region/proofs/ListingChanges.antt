-- A directory stays one where an entry comes, goes or gets another prefix.
use Rattle.std.proofs.Common.{◌≡◌, ◌≢◌, ℕ, zero, suc, ◌+◌, ◌<◌, ◌≤◌, Bool, List, [], ◌∷◌, length, get_or, sym, ap, subst, ◌∙◌, arith}
use Rattle.std.specs.List.{insert, remove}
use Rattle.std.specs.declared.cmp.Ordering.TheVariants.{Less}
use Rattle.std.proofs.lemmas.List.{length-map}
use Rattle.std.proofs.lemmas.List.Edits.{length-insert, length-remove, get_or-insert_below, get_or-remove_below}
use Rattle.ml_term.specs.Keys.{key_cmp}
use Rattle.ml_region.specs.Prefixes.{bits_at, AreRooted, IsRising, IsPlaceFor}
use Rattle.ml_region.specs.Listing.{Entry, IsListing, IsNewPrefix, IsNewSlot, prefixes_of, slots_of, prefix_at, slot_at}
use Rattle.ml_region.proofs.ListInsertions.{map_insert, map_remove, in_insert, in_remove, rising_insert, rising_remove}
use Rattle.ml_region.proofs.ListInsertions.InInsert.{in_front, itself, behind}
use Rattle.ml_region.proofs.ListInsertions.InRemove.{stays, moves}

pub prefixes_length : (entries : List Entry) → length (prefixes_of entries) ≡ length entries
prefixes_length entries = length-map entries (λ (e : Entry). e.prefix)

pub listing_rooted : (entries : List Entry) → IsListing entries → AreRooted (prefixes_of entries)
listing_rooted entries listing = record { some = omega (arith, listing.some, prefixes_length entries); root = listing.root; rising = listing.rising }

slots_length : (entries : List Entry) → length (slots_of entries) ≡ length entries
slots_length entries = length-map entries (λ (e : Entry). e.slot)

pub prefixes_insert : (entries : List Entry) (c : ℕ) (e : Entry) → prefixes_of (insert entries c e) ≡ insert (prefixes_of entries) c e.prefix
prefixes_insert entries c e = map_insert (λ (e : Entry). e.prefix) entries c e

pub prefixes_remove : (entries : List Entry) (k : ℕ) → prefixes_of (remove entries k) ≡ remove (prefixes_of entries) k
prefixes_remove entries k = map_remove (λ (e : Entry). e.prefix) entries k

slots_insert : (entries : List Entry) (c : ℕ) (e : Entry) → slots_of (insert entries c e) ≡ insert (slots_of entries) c e.slot
slots_insert entries c e = map_insert (λ (e : Entry). e.slot) entries c e

slots_remove : (entries : List Entry) (k : ℕ) → slots_of (remove entries k) ≡ remove (slots_of entries) k
slots_remove entries k = map_remove (λ (e : Entry). e.slot) entries k

pub not_before_root : (p : List Bool) → key_cmp p [] ≢ Less
not_before_root [] e = cc
not_before_root (b ∷ bs) e = cc

-- a new prefix has its place behind the root
pub behind_root : (entries : List Entry) (p : List Bool) (c : ℕ) → IsListing entries → IsPlaceFor (prefixes_of entries) p c → 1 ≤ c
behind_root entries p zero listing fits =
    absurd (not_before_root p (ap (key_cmp p) (sym listing.root) ∙ fits.above 0 (omega arith) (omega (arith, listing.some, prefixes_length entries))))
behind_root entries p (suc c) listing fits = omega arith

-- with one entry more
pub listing_insert : (entries : List Entry) (e : Entry) (c : ℕ) → IsListing entries → IsPlaceFor (prefixes_of entries) e.prefix c → IsNewSlot entries e.slot
    → IsListing (insert entries c e)
listing_insert entries e c listing fits new =
    let within : c ≤ length entries = omega (arith, fits.within, prefixes_length entries) in
    let long : length (insert entries c e) ≡ length entries + 1 = length-insert entries c e within in
    let slots_within : c ≤ length (slots_of entries) = omega (arith, slots_length entries) in
    let slot : (i : ℕ) → slot_at (insert entries c e) i ≡ get_or (insert (slots_of entries) c e.slot) i 0 =
    λ i. ap (λ ss. get_or ss i 0) (slots_insert entries c e) in
    record {
      some = omega arith;
      root = ap (λ ps. bits_at ps 0) (prefixes_insert entries c e)
          ∙ get_or-insert_below (prefixes_of entries) c e.prefix [] 0 (omega (arith, behind_root entries e.prefix c listing fits)) fits.within ∙ listing.root;
      rising = subst IsRising (sym (prefixes_insert entries c e)) (rising_insert (prefixes_of entries) e.prefix c listing.rising fits);
      apart = λ i j h g same. elim (in_insert (slots_of entries) c e.slot 0 i slots_within) [
        | in_front a s ↦ elim (in_insert (slots_of entries) c e.slot 0 j slots_within) [
          | in_front b t ↦ listing.apart i j (omega arith) (omega arith) (sym s ∙ sym (slot i) ∙ same ∙ slot j ∙ t)
          | itself b t ↦ absurd (new i (omega arith) (sym s ∙ sym (slot i) ∙ same ∙ slot j ∙ t))
          | behind m f b t ↦ absurd (let k : i ≡ m = listing.apart i m (omega arith) (omega arith) (sym s ∙ sym (slot i) ∙ same ∙ slot j ∙ t) in omega arith)
        ]
        | itself a s ↦ elim (in_insert (slots_of entries) c e.slot 0 j slots_within) [
          | in_front b t ↦ absurd (new j (omega arith) (sym t ∙ sym (slot j) ∙ sym same ∙ slot i ∙ s))
          | itself b t ↦ omega arith
          | behind m f b t ↦ absurd (new m (omega arith) (sym t ∙ sym (slot j) ∙ sym same ∙ slot i ∙ s))
        ]
        | behind k f a s ↦ elim (in_insert (slots_of entries) c e.slot 0 j slots_within) [
          | in_front b t ↦ absurd (let m : k ≡ j = listing.apart k j (omega arith) (omega arith) (sym s ∙ sym (slot i) ∙ same ∙ slot j ∙ t) in omega arith)
          | itself b t ↦ absurd (new k (omega arith) (sym s ∙ sym (slot i) ∙ same ∙ slot j ∙ t))
          | behind m o b t ↦ let q : k ≡ m = listing.apart k m (omega arith) (omega arith) (sym s ∙ sym (slot i) ∙ same ∙ slot j ∙ t) in omega arith
        ]
      ];
    }

-- with one entry less, which is not the root
pub listing_remove : (entries : List Entry) (k : ℕ) → IsListing entries → 0 < k → k < length entries → IsListing (remove entries k)
listing_remove entries k listing h g =
    let long : length (remove entries k) + 1 ≡ length entries = length-remove entries k g in
    let slots_within : k < length (slots_of entries) = omega (arith, slots_length entries) in
    let prefixes_within : k < length (prefixes_of entries) = omega (arith, prefixes_length entries) in
    let slot : (i : ℕ) → slot_at (remove entries k) i ≡ get_or (remove (slots_of entries) k) i 0 = λ i. ap (λ ss. get_or ss i 0) (slots_remove entries k) in
    record {
      some = omega arith;
      root = ap (λ ps. bits_at ps 0) (prefixes_remove entries k) ∙ get_or-remove_below (prefixes_of entries) k [] 0 h prefixes_within ∙ listing.root;
      rising = subst IsRising (sym (prefixes_remove entries k)) (rising_remove (prefixes_of entries) k listing.rising prefixes_within);
      apart = λ i j l m same. elim (in_remove (slots_of entries) k 0 i slots_within) [
        | stays a s ↦ elim (in_remove (slots_of entries) k 0 j slots_within) [
          | stays b t ↦ listing.apart i j (omega arith) (omega arith) (sym s ∙ sym (slot i) ∙ same ∙ slot j ∙ t)
          | moves b t ↦ absurd (let q : i ≡ j + 1 = listing.apart i (j + 1) (omega arith) (omega arith) (sym s ∙ sym (slot i) ∙ same ∙ slot j ∙ t) in
              omega arith)
        ]
        | moves a s ↦ elim (in_remove (slots_of entries) k 0 j slots_within) [
          | stays b t ↦ absurd (let q : i + 1 ≡ j = listing.apart (i + 1) j (omega arith) (omega arith) (sym s ∙ sym (slot i) ∙ same ∙ slot j ∙ t) in
              omega arith)
          | moves b t ↦ let q : i + 1 ≡ j + 1 = listing.apart (i + 1) (j + 1) (omega arith) (omega arith) (sym s ∙ sym (slot i) ∙ same ∙ slot j ∙ t) in
              omega arith
        ]
      ];
    }

pub new_prefix_remove : (entries : List Entry) (k : ℕ) (p : List Bool) → k < length entries → IsNewPrefix entries p → IsNewPrefix (remove entries k) p
new_prefix_remove entries k p h new i g e =
    let long : length (remove entries k) + 1 ≡ length entries = length-remove entries k h in
    let there : prefix_at (remove entries k) i ≡ get_or (remove (prefixes_of entries) k) i [] = ap (λ ps. get_or ps i []) (prefixes_remove entries k) in
    elim (in_remove (prefixes_of entries) k [] i (omega (arith, prefixes_length entries))) [
      | stays a s ↦ new i (omega arith) (sym s ∙ sym there ∙ e)
      | moves a s ↦ new (i + 1) (omega arith) (sym s ∙ sym there ∙ e)
    ]

-- the slot of an entry that went is free
pub new_slot_remove : (entries : List Entry) (k : ℕ) → k < length entries → IsListing entries → IsNewSlot (remove entries k) (slot_at entries k)
new_slot_remove entries k h listing i g e =
    let long : length (remove entries k) + 1 ≡ length entries = length-remove entries k h in
    let there : slot_at (remove entries k) i ≡ get_or (remove (slots_of entries) k) i 0 = ap (λ ss. get_or ss i 0) (slots_remove entries k) in
    elim (in_remove (slots_of entries) k 0 i (omega (arith, slots_length entries))) [
      | stays a s ↦ let q : i ≡ k = listing.apart i k (omega arith) h (sym s ∙ sym there ∙ e) in omega arith
      | moves a s ↦ let q : i + 1 ≡ k = listing.apart (i + 1) k (omega arith) h (sym s ∙ sym there ∙ e) in omega arith
    ]
