-- Regions as a directory and pages hold them.
use Rattle.std.proofs.Common.{◌≡◌, ◌≢◌, inl, inr, ℕ, zero, suc, ◌+◌, ◌<◌, ◌≤◌, ◌==◌, Bool, true, false, List, [], ◌∷◌, length, get_or, set, cond, nat_lt, refl}
use Rattle.std.proofs.Common.{sym, ap, subst, ◌∙◌, arith}
use Rattle.std.proofs.Math.ListN.{length-set}
use Rattle.std.proofs.lemmas.Bool.{cases_lt, cases_eq, eq-eqb, ltb-true}
use Rattle.std.proofs.lemmas.List.{length-map, get_or-set_same, get_or-set_other, ext_get_or}
use Rattle.std.proofs.lemmas.List.Sums.{sum_by-cons}
use Rattle.ml_region.specs.Prefixes.{bits_at, IsRising}
use Rattle.ml_region.specs.Listing.{Entry, IsListing, prefixes_of, prefix_at, slot_at}
use Rattle.ml_region.specs.Regions.{Region, region_prefixes, empty_region, region_at}
use Rattle.ml_region.specs.inside.Stored.{page_at, region_of, regions_of, use_count, free_count, AreShared, IsStored}
use Rattle.ml_region.specs.declared.item.Item.{Item}

pub regions_length : (entries : List Entry) (pages : List (List Item)) → length (regions_of entries pages) ≡ length entries
regions_length entries pages = length-map entries (region_of pages)

pub prefixes_length : (entries : List Entry) → length (prefixes_of entries) ≡ length entries
prefixes_length entries = length-map entries (λ (e : Entry). e.prefix)

pub region_prefixes_length : (regions : List Region) → length (region_prefixes regions) ≡ length regions
region_prefixes_length regions = length-map regions (λ (r : Region). r.prefix)

pub regions_prefixes : (entries : List Entry) (pages : List (List Item)) → region_prefixes (regions_of entries pages) ≡ prefixes_of entries
regions_prefixes [] pages = refl
regions_prefixes (e ∷ es) pages = ap (λ ps. e.prefix ∷ ps) (regions_prefixes es pages)

-- the region at a place
pub region_is : (entries : List Entry) (pages : List (List Item)) (i : ℕ) → i < length entries
    → region_at (regions_of entries pages) i ≡ record { prefix = prefix_at entries i; items = page_at pages (slot_at entries i) }
region_is [] pages i h = absurd (omega arith)
region_is (e ∷ es) pages zero h = refl
region_is (e ∷ es) pages (suc i) h = region_is es pages i (omega arith)

-- the prefix at a place, also past the end
pub prefix_of_region : (regions : List Region) (i : ℕ) → bits_at (region_prefixes regions) i ≡ (region_at regions i).prefix
prefix_of_region [] i = refl
prefix_of_region (r ∷ rs) zero = refl
prefix_of_region (r ∷ rs) (suc i) = prefix_of_region rs i

-- ---- slots

one_use : (slot : ℕ) (e : Entry) (es : List Entry) → use_count slot (e ∷ es) ≡ cond (e.slot == slot) 1 0 + use_count slot es
one_use slot e es = sum_by-cons (λ (e : Entry). cond (e.slot == slot) 1 0) e es

used_here : (slot : ℕ) (e : Entry) → e.slot ≡ slot → ◌≡◌ {A = ℕ} (cond (e.slot == slot) 1 0) 1
used_here slot e h = ap (λ b. cond b 1 0) (eq-eqb e.slot slot h)

pub used : (slot : ℕ) (entries : List Entry) (i : ℕ) → i < length entries → slot_at entries i ≡ slot → 1 ≤ use_count slot entries
used slot [] i h e = absurd (omega arith)
used slot (x ∷ xs) zero h e = omega (arith, one_use slot x xs, used_here slot x e)
used slot (x ∷ xs) (suc i) h e = omega (arith, one_use slot x xs, used slot xs i (omega arith) e)

used_twice : (slot : ℕ) (entries : List Entry) (i j : ℕ) → i < j → j < length entries → slot_at entries i ≡ slot → slot_at entries j ≡ slot →
    2 ≤ use_count slot entries
used_twice slot [] i j l h e f = absurd (omega arith)
used_twice slot (x ∷ xs) i zero l h e f = absurd (omega arith)
used_twice slot (x ∷ xs) zero (suc j) l h e f = omega (arith, one_use slot x xs, used_here slot x e, used slot xs j (omega arith) f)
used_twice slot (x ∷ xs) (suc i) (suc j) l h e f = omega (arith, one_use slot x xs, used_twice slot xs i j (omega arith) (omega arith) e f)

below_by : (b : Bool) (slot pages u f : ℕ) → b ≡ nat_lt slot pages → u + f ≡ cond b 1 0 → 1 ≤ u → slot < pages
below_by true slot pages u f t e h = ltb-true slot pages (sym t)
below_by false slot pages u f t e h = absurd (omega arith)

one_by : (b : Bool) (u f : ℕ) → u + f ≡ cond b 1 0 → 2 ≤ u → ⊥
one_by true u f e h = omega arith
one_by false u f e h = omega arith

pub slot_within : (entries : List Entry) (free : List ℕ) (pages i : ℕ) → AreShared entries free pages → i < length entries → slot_at entries i < pages
slot_within entries free pages i s h =
    let slot : ℕ = slot_at entries i in
    below_by (nat_lt slot pages) slot pages (use_count slot entries) (free_count slot free) refl (s.once slot) (used slot entries i h refl)

pub slots_apart : (entries : List Entry) (free : List ℕ) (pages i j : ℕ) → AreShared entries free pages → i < length entries → j < length entries
    → slot_at entries i ≡ slot_at entries j → i ≡ j
slots_apart entries free pages i j s h g e =
    let slot : ℕ = slot_at entries i in
    elim (cases_lt i j) [
      | inl l ↦ absurd (one_by (nat_lt slot pages) (use_count slot entries) (free_count slot free) (s.once slot) (used_twice slot entries i j l g refl (sym e)))
      | inr l ↦ elim (cases_lt j i) [
        | inl m ↦ absurd (one_by (nat_lt slot pages) (use_count slot entries) (free_count slot free) (s.once slot)
            (used_twice slot entries j i m h (sym e) refl))
        | inr m ↦ omega arith
      ]
    ]

pub listing_of : (entries : List Entry) (pages : List (List Item)) (free : List ℕ) (reserved : ℕ) → IsStored entries pages free reserved → IsListing entries
listing_of entries pages free reserved stored =
    let some : 0 < length entries = omega (arith, stored.placed.some, regions_length entries pages) in
    record {
      some = some;
      root = sym (ap (λ (r : Region). r.prefix) (region_is entries pages 0 some)) ∙ stored.placed.root;
      rising = subst IsRising (regions_prefixes entries pages) stored.placed.rising;
      apart = λ i j h g e. slots_apart entries free (length pages) i j stored.shared h g e;
    }

-- ---- a page that changes

-- the page of one region changes, and all else stays
pub set_page : (entries : List Entry) (pages : List (List Item)) (free : List ℕ) (i : ℕ) (items : List Item) → AreShared entries free (length pages) →
    i < length entries
    → regions_of entries (set pages (slot_at entries i) items)
    ≡ set (regions_of entries pages) i (record { prefix = (region_at (regions_of entries pages) i).prefix; items = items })
set_page entries pages free i items s h =
    let new : List (List Item) = set pages (slot_at entries i) items in
    let region : Region = record { prefix = (region_at (regions_of entries pages) i).prefix; items = items } in
    let inside : slot_at entries i < length pages = slot_within entries free (length pages) i s h in
    let long : length (regions_of entries new) ≡ length (set (regions_of entries pages) i region) =
    regions_length entries new ∙ sym (regions_length entries pages) ∙ sym (length-set (regions_of entries pages) i region) in
    ext_get_or empty_region (regions_of entries new) (set (regions_of entries pages) i region) long (λ k l.
    let k_in : k < length entries = omega (arith, regions_length entries new) in
    elim (cases_eq k i) [
      | inl e ↦
          let first : region_at (regions_of entries new) i ≡ record { prefix = prefix_at entries i; items = page_at new (slot_at entries i) } =
          region_is entries new i h in
          let page : page_at new (slot_at entries i) ≡ items = get_or-set_same pages (slot_at entries i) items [] inside in
          let prefix : (region_at (regions_of entries pages) i).prefix ≡ prefix_at entries i = ap (λ (r : Region). r.prefix) (region_is entries pages i h) in
          let at_i : region_at (regions_of entries new) i ≡ region =
          first ∙ ap (λ xs. record { prefix = prefix_at entries i; items = xs }) page ∙ ap (λ p. record { prefix = p; items = items }) (sym prefix) in
          let there : get_or (set (regions_of entries pages) i region) i empty_region ≡ region =
          get_or-set_same (regions_of entries pages) i region empty_region (omega (arith, regions_length entries pages)) in
          ap (λ j. region_at (regions_of entries new) j) e ∙ at_i ∙ sym there
          ∙ ap (λ j. get_or (set (regions_of entries pages) i region) j empty_region) (sym e)
      | inr d ↦
          let other : slot_at entries k ≢ slot_at entries i = λ e. d (slots_apart entries free (length pages) k i s k_in h e) in
          region_is entries new k k_in
          ∙ ap (λ xs. record { prefix = prefix_at entries k; items = xs }) (get_or-set_other pages (slot_at entries i) (slot_at entries k) items [] other)
          ∙ sym (region_is entries pages k k_in)
          ∙ sym (get_or-set_other (regions_of entries pages) i k region empty_region d)
    ])
