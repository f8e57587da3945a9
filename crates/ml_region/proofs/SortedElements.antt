-- The elements of a sorted vector as entries.
use Rattle.std.proofs.Common.{◌≡◌, ℕ, zero, suc, ◌+◌, ◌<◌, ◌≤◌, Bool, List, [], ◌∷◌, ◌++◌, length, get_or, set, take, drop, refl, sym, ap, subst, ◌∙◌, arith}
use Rattle.std.specs.List.{insert, remove}
use Rattle.std.proofs.lemmas.List.{length-map, take_all, drop_all, append-nil}
use Rattle.std.proofs.lemmas.List.Edits.{length-insert, length-remove}
use Rattle.ml_region.specs.Prefixes.{IsPlaceFor, IsLastUpTo}
use Rattle.ml_region.specs.Listing.{Entry, IsListing, IsNewPrefix, IsNewSlot, prefixes_of, prefix_at, slot_at}
use Rattle.ml_region.specs.inside.Kept.{kept_entries, IsKept}
use Rattle.ml_region.specs.declared.kept.Kept.{Kept}
use Rattle.ml_region.proofs.ListInsertions.{map_insert, map_remove, in_insert, in_remove}
use Rattle.ml_region.proofs.ListInsertions.InInsert.{in_front, itself, behind}
use Rattle.ml_region.proofs.ListInsertions.InRemove.{stays, moves}
use Rattle.ml_region.proofs.OwnerSearch.{place_behind}
use Rattle.ml_region.proofs.ListingChanges.{listing_insert, listing_remove}

pub kept_length : (kept : List Kept) → length (prefixes_of (kept_entries kept)) ≡ length kept
kept_length kept = length-map (kept_entries kept) (λ (e : Entry). e.prefix) ∙ length-map kept (λ (k : Kept). record { prefix = k.prefix.bits; slot = k.slot })

pub entries_length : (kept : List Kept) → length (kept_entries kept) ≡ length kept
entries_length kept = length-map kept (λ (k : Kept). record { prefix = k.prefix.bits; slot = k.slot })

-- the prefix of the element at a place
pub kept_prefix : (kept : List Kept) (i : ℕ) (k : Kept) → i < length kept → prefix_at (kept_entries kept) i ≡ (get_or kept i k).prefix.bits
kept_prefix [] i k h = absurd (omega arith)
kept_prefix (x ∷ xs) zero k h = refl
kept_prefix (x ∷ xs) (suc i) k h = kept_prefix xs i k (omega arith)

-- the slot of the element at a place
pub kept_slot : (kept : List Kept) (i : ℕ) (k : Kept) → i < length kept → slot_at (kept_entries kept) i ≡ (get_or kept i k).slot
kept_slot [] i k h = absurd (omega arith)
kept_slot (x ∷ xs) zero k h = refl
kept_slot (x ∷ xs) (suc i) k h = kept_slot xs i k (omega arith)

-- an element that keeps its bits and its slot
pub entries_set : (kept : List Kept) (i : ℕ) (k old : Kept) → i < length kept → old ≡ get_or kept i old → k.prefix.bits ≡ old.prefix.bits → k.slot ≡ old.slot
    → kept_entries (set kept i k) ≡ kept_entries kept
entries_set [] i k old h is e f = absurd (omega arith)
entries_set (x ∷ xs) zero k old h is e f =
    let bits : k.prefix.bits ≡ x.prefix.bits = e ∙ ap (λ (y : Kept). y.prefix.bits) is in
    let slot : k.slot ≡ x.slot = f ∙ ap (λ (y : Kept). y.slot) is in
    ap (λ p. record { prefix = p; slot = k.slot } ∷ kept_entries xs) bits ∙ ap (λ s. record { prefix = x.prefix.bits; slot = s } ∷ kept_entries xs) slot
entries_set (x ∷ xs) (suc i) k old h is e f = ap (λ es. record { prefix = x.prefix.bits; slot = x.slot } ∷ es) (entries_set xs i k old (omega arith) is e f)

pub entries_insert : (kept : List Kept) (c : ℕ) (k : Kept) →
    kept_entries (insert kept c k) ≡ insert (kept_entries kept) c (record { prefix = k.prefix.bits; slot = k.slot })
entries_insert kept c k = map_insert (λ (k : Kept). record { prefix = k.prefix.bits; slot = k.slot }) kept c k

pub entries_remove : (kept : List Kept) (i : ℕ) → kept_entries (remove kept i) ≡ remove (kept_entries kept) i
entries_remove kept i = map_remove (λ (k : Kept). record { prefix = k.prefix.bits; slot = k.slot }) kept i

-- the elements with one more
pub kept_insert : (kept : List Kept) (room place : ℕ) (k : Kept) → IsKept kept room → IsPlaceFor (prefixes_of (kept_entries kept)) k.prefix.bits place
    → IsNewSlot (kept_entries kept) k.slot → room ≤ k.prefix.room → IsKept (insert kept place k) room
kept_insert kept room place k h fits new enough =
    let within : place ≤ length kept = omega (arith, fits.within, kept_length kept) in
    record {
      listing = subst IsListing (sym (entries_insert kept place k))
          (listing_insert (kept_entries kept) (record { prefix = k.prefix.bits; slot = k.slot }) place h.listing fits new);
      rooms = λ j d l. elim (in_insert kept place k d j within) [
        | in_front a e ↦ subst (λ (y : Kept). room ≤ y.prefix.room) (sym e) (h.rooms j d (omega (arith, length-insert kept place k within)))
        | itself a e ↦ subst (λ (y : Kept). room ≤ y.prefix.room) (sym e) enough
        | behind m f a e ↦ subst (λ (y : Kept). room ≤ y.prefix.room) (sym e) (h.rooms m d (omega (arith, length-insert kept place k within)))
      ];
    }

-- the elements with one less, which is not the root
pub kept_remove : (kept : List Kept) (room i : ℕ) → IsKept kept room → 0 < i → i < length kept → IsKept (remove kept i) room
kept_remove kept room i h some within = record {
  listing = subst IsListing (sym (entries_remove kept i)) (listing_remove (kept_entries kept) i h.listing some (omega (arith, entries_length kept)));
  rooms = λ j d l. elim (in_remove kept i d j within) [
    | stays a e ↦ subst (λ (y : Kept). room ≤ y.prefix.room) (sym e) (h.rooms j d (omega arith))
    | moves a e ↦ subst (λ (y : Kept). room ≤ y.prefix.room) (sym e) (h.rooms (j + 1) d (omega (arith, length-remove kept i within)))
  ];
}

-- where a prefix that is new belongs
pub new_place : (kept : List Kept) (key : List Bool) (place : ℕ) → IsLastUpTo (prefixes_of (kept_entries kept)) key place → IsNewPrefix (kept_entries kept) key
    → IsPlaceFor (prefixes_of (kept_entries kept)) key (place + 1)
new_place kept key place last new =
    place_behind (prefixes_of (kept_entries kept)) key place last (λ i h. new i (omega (arith, kept_length kept, entries_length kept)))

-- what a slice that was lent gives back
pub whole_back : {X : Type 0} (new old : List X) (len : ℕ) → length new ≡ length old → len ≡ length old → take len (new ++ drop (length new) old) ≡ new
whole_back new old len e f =
    ap (λ n. take len (new ++ drop n old)) e ∙ ap (λ ys. take len (new ++ ys)) (drop_all (length old) old (omega arith)) ∙ ap (take len) (append-nil new)
    ∙ take_all len new (omega arith)
