-- A free page becomes that of a new region.
use Rattle.std.proofs.Common.{◌≡◌, ℕ, suc, ◌+◌, ◌<◌, ◌≤◌, ◌==◌, Bool, true, false, List, [], ◌∷◌, ◌++◌, length, set, cond, nat_lt, refl, sym, ap, subst, ◌∙◌}
use Rattle.std.proofs.Common.{arith, length-append}
use Rattle.std.specs.List.{insert}
use Rattle.std.proofs.Math.ListN.{length-set}
use Rattle.std.proofs.lemmas.Bool.{eq-eqb, ltb-true}
use Rattle.std.proofs.lemmas.List.{get_or-set_same, get_or-set_other}
use Rattle.std.proofs.lemmas.List.Edits.{length-insert}
use Rattle.std.proofs.lemmas.List.Sums.{sum_by_push, sum_by-insert}
use Rattle.ml_region.specs.Prefixes.{IsPlaceFor}
use Rattle.ml_region.specs.Listing.{Entry, IsNewSlot, prefixes_of, slot_at}
use Rattle.ml_region.specs.Regions.{Region, region_prefixes, items_at, with_items, IsWellPlaced}
use Rattle.ml_region.specs.Changes.{IsCut, items_below, items_beside}
use Rattle.ml_region.specs.inside.Stored.{page_at, region_of, regions_of, use_count, free_count, AreShared, IsStored}
use Rattle.ml_region.specs.declared.item.Item.{Item}
use Rattle.ml_region.proofs.ListInsertions.{map_insert}
use Rattle.ml_region.proofs.StoredRegions.{regions_length, regions_prefixes, prefixes_length, used, set_page}
use Rattle.ml_region.proofs.FoundItems.{items_of_page}
use Rattle.ml_region.proofs.RegionCuts.{IsCutting, placed_cut}

-- ---- slots

one_free : (slot : ℕ) (rest : List ℕ) → free_count slot (rest ++ slot ∷ []) ≡ free_count slot rest + 1
one_free slot rest =
    let here : ◌≡◌ {A = ℕ} (cond (slot == slot) 1 0) 1 = ap (λ b. cond b 1 0) (eq-eqb slot slot refl) in
    sum_by_push (λ s. cond (s == slot) 1 0) rest slot ∙ ap (λ n. free_count slot rest + n) here

below_by : (b : Bool) (slot pages u f : ℕ) → b ≡ nat_lt slot pages → u + f ≡ cond b 1 0 → 1 ≤ f → slot < pages
below_by true slot pages u f t e h = ltb-true slot pages (sym t)
below_by false slot pages u f t e h = absurd (omega arith)

one_by : (b : Bool) (u f : ℕ) → u + (f + 1) ≡ cond b 1 0 → 1 ≤ u → ⊥
one_by true u f e h = omega arith
one_by false u f e h = omega arith

pub free_within : (entries : List Entry) (rest : List ℕ) (slot pages : ℕ) → AreShared entries (rest ++ slot ∷ []) pages → slot < pages
free_within entries rest slot pages s =
    below_by (nat_lt slot pages) slot pages (use_count slot entries) (free_count slot (rest ++ slot ∷ [])) refl (s.once slot)
    (omega (arith, one_free slot rest))

pub free_is_new : (entries : List Entry) (rest : List ℕ) (slot pages : ℕ) → AreShared entries (rest ++ slot ∷ []) pages → IsNewSlot entries slot
free_is_new entries rest slot pages s i h e =
    one_by (nat_lt slot pages) (use_count slot entries) (free_count slot rest) (ap (λ n. use_count slot entries + n) (sym (one_free slot rest)) ∙ s.once slot)
    (used slot entries i h e)

pub shared_used : (entries : List Entry) (rest : List ℕ) (slot pages c : ℕ) (p : List Bool) → AreShared entries (rest ++ slot ∷ []) pages → c ≤ length entries
    → AreShared (insert entries c (record { prefix = p; slot = slot })) rest pages
shared_used entries rest slot pages c p s h = record {
  once = λ t. omega (
    arith,
    s.once t,
    sum_by-insert (λ (e : Entry). cond (e.slot == t) 1 0) entries c (record { prefix = p; slot = slot }),
    sum_by_push (λ s. cond (s == t) 1 0) rest slot,
  );
  all = omega (arith, s.all, length-insert entries c (record { prefix = p; slot = slot }) h, length-append rest (slot ∷ []));
}

-- ---- pages

-- a page that no entry has counts for nothing
pub set_unused : (entries : List Entry) (pages : List (List Item)) (slot : ℕ) (items : List Item) → IsNewSlot entries slot →
    regions_of entries (set pages slot items) ≡ regions_of entries pages
set_unused [] pages slot items new = refl
set_unused (e ∷ es) pages slot items new =
    let here : page_at (set pages slot items) e.slot ≡ page_at pages e.slot = get_or-set_other pages slot e.slot items [] (new 0 (omega arith)) in
    ap (λ xs. record { prefix = e.prefix; items = xs } ∷ regions_of es (set pages slot items)) here
    ∙ ap (λ rs. record { prefix = e.prefix; items = page_at pages e.slot } ∷ rs) (set_unused es pages slot items (λ i h. new (suc i) (omega arith)))

pub same_pages : (entries : List Entry) (new pages : List (List Item)) → ((slot : ℕ) → page_at new slot ≡ page_at pages slot) →
    regions_of entries new ≡ regions_of entries pages
same_pages [] new pages h = refl
same_pages (e ∷ es) new pages h =
    ap (λ xs. record { prefix = e.prefix; items = xs } ∷ regions_of es new) (h e.slot)
    ∙ ap (λ rs. record { prefix = e.prefix; items = page_at pages e.slot } ∷ rs) (same_pages es new pages h)

-- ---- the cut

pub cut_stored : (entries : List Entry) (pages : List (List Item)) (rest : List ℕ) (reserved slot i c : ℕ) (key p : List Bool)
    → IsStored entries pages (rest ++ slot ∷ []) reserved → IsCutting (regions_of entries pages) i key p → IsPlaceFor (prefixes_of entries) p c
    → let page : List Item = page_at pages (slot_at entries i) in
    let new : List (List Item) = set (set pages (slot_at entries i) (items_beside p page)) slot (items_below p page) in
    IsStored (insert entries c (record { prefix = p; slot = slot })) new rest reserved
    × IsCut (regions_of entries pages) i p (regions_of (insert entries c (record { prefix = p; slot = slot })) new)
cut_stored entries pages rest reserved slot i c key p stored cut fits =
    let regions : List Region = regions_of entries pages in
    let h : i < length entries = omega (arith, cut.within, regions_length entries pages) in
    let e : Entry = record { prefix = p; slot = slot } in
    let page : List Item = page_at pages (slot_at entries i) in
    let beside : List Item = items_beside p page in
    let below : List Item = items_below p page in
    let half : List (List Item) = set pages (slot_at entries i) beside in
    let new : List (List Item) = set half slot below in
    let items : items_at regions i ≡ page = items_of_page entries pages i h in
    let inside : slot < length half = omega (arith, free_within entries rest slot (length pages) stored.shared, length-set pages (slot_at entries i) beside) in
    let long : length new ≡ length pages = length-set half slot below ∙ length-set pages (slot_at entries i) beside in
    let c_in : c ≤ length entries = omega (arith, fits.within, prefixes_length entries) in
    let unused : IsNewSlot entries slot = free_is_new entries rest slot (length pages) stored.shared in
    let old : regions_of entries new ≡ with_items regions i (items_beside p (items_at regions i)) =
    set_unused entries half slot below unused ∙ set_page entries pages (rest ++ slot ∷ []) i beside stored.shared h
    ∙ ap (λ xs. with_items regions i (items_beside p xs)) (sym items) in
    let one : region_of new e ≡ record { prefix = p; items = items_below p (items_at regions i) } =
    ap (λ xs. record { prefix = p; items = xs }) (get_or-set_same half slot below [] inside ∙ ap (items_below p) (sym items)) in
    let whole : regions_of (insert entries c e) new ≡ insert (with_items regions i (items_beside p (items_at regions i))) c
    (record { prefix = p; items = items_below p (items_at regions i) }) =
    map_insert (region_of new) entries c e ∙ ap (λ rs. insert rs c (region_of new e)) old
    ∙ ap (insert (with_items regions i (items_beside p (items_at regions i))) c) one in
    let fits' : IsPlaceFor (region_prefixes regions) p c = subst (λ ps. IsPlaceFor ps p c) (sym (regions_prefixes entries pages)) fits in (
      record {
        shared = subst (AreShared (insert entries c e) rest) (sym long) (shared_used entries rest slot (length pages) c p stored.shared c_in);
        room = omega (arith, stored.room, long);
        placed = subst IsWellPlaced (sym whole) (placed_cut regions i c key p stored.placed cut fits');
      },
      record { place = c; fits = fits'; same = whole },
    )
