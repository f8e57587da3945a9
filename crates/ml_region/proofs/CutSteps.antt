-- The steps of a cut: a spare page, an entry for it, and the items that go over.
use Rattle.std.proofs.Common.{◌≡◌, ℕ, zero, suc, ◌+◌, ◌-◌, ◌<◌, ◌≤◌, ◌==◌, Bool, true, false, cond, nat_lt, inl, inr, List, [], ◌∷◌, ◌++◌, length, get_or, set}
use Rattle.std.proofs.Common.{take, refl, sym, ap, subst, ◌∙◌, arith, length-append}
use Rattle.std.specs.Prelude.{Result, Ok, Err, OnErr, Contains}
use Rattle.std.specs.List.{insert}
use Rattle.std.proofs.Math.ListN.{length-set}
use Rattle.std.proofs.lemmas.List.{length-take-le, get_or-set_other, get_or_read}
use Rattle.std.proofs.lemmas.List.Edits.{length-insert, get_or-insert_at}
use Rattle.ml_region.proofs.ListInsertions.{map_insert}
use Rattle.std.proofs.lemmas.Bool.{cases_eq, eq-eqb, eqb-true, ne_eqb, lt-ltb, le-ltb, ltb-true, ltb-false}
use Rattle.std.proofs.lemmas.List.Sums.{sum_by_push}
use Rattle.ml_region.specs.Prefixes.{bits_at}
use Rattle.ml_region.specs.Listing.{Entry, IsListing, IsNewPrefix, IsNewSlot, IsWithEntry, prefixes_of, slot_at}
use Rattle.ml_region.specs.Regions.{Region, region_at, items_at, keys_of, keys_at, IsWellPlaced}
use Rattle.ml_region.specs.Changes.{IsCut, items_below, items_beside}
use Rattle.ml_region.specs.inside.Stored.{page_at, regions_of, free_count, use_count, AreShared, IsStored}
use Rattle.ml_region.specs.declared.item.Item.{Item}
use Rattle.ml_region.proofs.StoredRegions.{regions_length, regions_prefixes, prefixes_length}
use Rattle.ml_region.proofs.FoundItems.{items_of_page, key_of_item}
use Rattle.ml_region.proofs.RegionItems.{keys_length}
use Rattle.ml_region.proofs.ListingChanges.{listing_insert}
use Rattle.ml_region.proofs.RegionCuts.{IsCutting, cutting_is_new}
use Rattle.ml_region.proofs.CutStored.{free_within, free_is_new, set_unused, same_pages, cut_stored}

pub on_err : {T E X : Type 0} (r : Result T E) → X → OnErr r X
on_err (Ok t) x = tt
on_err (Err e) x = x

-- a page without items more, and its slot
pub spare_shared : (entries : List Entry) (free : List ℕ) (pages : ℕ) → length free ≡ 0 → AreShared entries free pages →
    AreShared entries (free ++ pages ∷ []) (pages + 1)
spare_shared entries free pages none s = record {
  once = λ t. by t (nat_lt t pages) refl (s.once t);
  all = omega (arith, s.all, length-append free (pages ∷ []));
}
  where
    push : (t : ℕ) → free_count t (free ++ pages ∷ []) ≡ free_count t free + cond (pages == t) 1 0
    push t = sum_by_push (λ s. cond (s == t) 1 0) free pages

    by : (t : ℕ) (b : Bool) → b ≡ nat_lt t pages → use_count t entries + free_count t free ≡ cond b 1 0 →
        use_count t entries + free_count t (free ++ pages ∷ []) ≡ cond (nat_lt t (pages + 1)) 1 0
    by t true e f =
        let l : t < pages = ltb-true t pages (sym e) in
        let other : ◌≡◌ {A = ℕ} (cond (pages == t) 1 0) 0 = ap (λ b. cond b 1 0) (ne_eqb pages t (λ g. omega arith)) in
        let now : ◌≡◌ {A = ℕ} (cond (nat_lt t (pages + 1)) 1 0) 1 = ap (λ b. cond b 1 0) (lt-ltb t (pages + 1) (omega arith)) in
        omega (arith, push t, other, now)
    by t false e f = elim (cases_eq pages t) [
      | inl g ↦
          let own : ◌≡◌ {A = ℕ} (cond (pages == t) 1 0) 1 = ap (λ b. cond b 1 0) (eq-eqb pages t g) in
          let now : ◌≡◌ {A = ℕ} (cond (nat_lt t (pages + 1)) 1 0) 1 = ap (λ b. cond b 1 0) (lt-ltb t (pages + 1) (omega arith)) in
          omega (arith, push t, own, now)
      | inr g ↦
          let l : pages ≤ t = ltb-false t pages (sym e) in
          let other : ◌≡◌ {A = ℕ} (cond (pages == t) 1 0) 0 = ap (λ b. cond b 1 0) (ne_eqb pages t g) in
          let now : ◌≡◌ {A = ℕ} (cond (nat_lt t (pages + 1)) 1 0) 0 = ap (λ b. cond b 1 0) (le-ltb t (pages + 1) (omega arith)) in
          omega (arith, push t, other, now)
    ]

pub spare_stored : (entries : List Entry) (old new : List (List Item)) (free spare : List ℕ) (reserved room : ℕ) → IsStored entries old free reserved
    → AreShared entries spare (length new) → ((slot : ℕ) → page_at new slot ≡ page_at old slot) → length new ≤ room → IsStored entries new spare room
spare_stored entries old new free spare reserved room stored shared same long = record {
  shared = shared;
  room = long;
  placed = subst IsWellPlaced (sym (same_pages entries new old same)) stored.placed;
}

last_at : (xs : List ℕ) (x n : ℕ) → length xs ≡ n + 1 → x ≡ get_or xs n x → xs ≡ take n xs ++ x ∷ []
last_at [] x n h e = absurd (omega arith)
last_at (y ∷ []) x zero h e = ap (λ z. z ∷ []) (sym e)
last_at (y ∷ (z ∷ zs)) x zero h e = absurd (omega arith)
last_at (y ∷ ys) x (suc n) h e = ap (λ zs. y ∷ zs) (last_at ys x n (omega arith) e)

pub last_split : (xs : List ℕ) (x : ℕ) → 0 < length xs → x ≡ get_or xs (length xs - 1) x → xs ≡ take (length xs - 1) xs ++ x ∷ []
last_split xs x h e = last_at xs x (length xs - 1) (omega arith) e

-- what a test for an empty list says
pub none_from_test : (b : Bool) (n : ℕ) → b ≡ (n == 0) → b ≡ true → n ≡ 0
none_from_test true n e t = eqb-true n 0 (sym e)
none_from_test false n e t = let f : false ≡ true = t in cc

-- the first bits of the key of an item that a region has
pub cutting : (regions : List Region) (i j n : ℕ) (key : List Bool) → i < length regions → j < length (items_at regions i) → bits_at (keys_at regions i) j ≡ key
    → length (region_at regions i).prefix < n → n ≤ length key → IsCutting regions i key (take n key)
cutting regions i j n key h g e longer within =
    let long : length (take n key) ≡ n = length-take-le n key within in
    let inside : j < length (keys_at regions i) = omega (arith, keys_length (items_at regions i)) in
    record {
      within = h;
      there = (j, inside, at (keys_at regions i) j key inside e);
      begins = ap (λ m. take m key) long;
      longer = omega (arith, long);
    }
  where
    at : (ks : List (List Bool)) (j : ℕ) (key : List Bool) → j < length ks → bits_at ks j ≡ key → get_or ks j key ≡ key
    at [] j key h e = absurd (omega arith)
    at (k ∷ ks) zero key h e = e
    at (k ∷ ks) (suc j) key h e = at ks j key (omega arith) e

pub cutting_new_prefix : (entries : List Entry) (pages : List (List Item)) (free : List ℕ) (reserved i : ℕ) (key p : List Bool) →
    IsStored entries pages free reserved
    → IsCutting (regions_of entries pages) i key p → IsNewPrefix entries p
cutting_new_prefix entries pages free reserved i key p stored cut m h e =
    cutting_is_new (regions_of entries pages) i m key p stored.placed cut (omega (arith, regions_length entries pages))
    (ap (λ ps. bits_at ps m) (regions_prefixes entries pages) ∙ e)

pub last_is_new : (entries : List Entry) (pages : List (List Item)) (free : List ℕ) (reserved slot : ℕ) → IsStored entries pages free reserved → 0 < length free
    → slot ≡ get_or free (length free - 1) slot → IsNewSlot entries slot × (slot < length pages)
last_is_new entries pages free reserved slot stored some is =
    let shared : AreShared entries (take (length free - 1) free ++ slot ∷ []) (length pages) =
    subst (λ f. AreShared entries f (length pages)) (last_split free slot some is) stored.shared in
    (free_is_new entries (take (length free - 1) free) slot (length pages) shared, free_within entries (take (length free - 1) free) slot (length pages) shared)

-- the page of the region that is cut, once the spare page is empty
pub page_beside : (entries : List Entry) (pages : List (List Item)) (slot i : ℕ) → IsNewSlot entries slot → i < length entries
    → page_at (set pages slot []) (slot_at entries i) ≡ items_at (regions_of entries pages) i
page_beside entries pages slot i new h = get_or-set_other pages slot (slot_at entries i) [] [] (new i h) ∙ sym (items_of_page entries pages i h)

pub cut_end : (entries : List Entry) (pages : List (List Item)) (free : List ℕ) (reserved slot from i : ℕ) (key p : List Bool) (new : List (List Item))
    (after : List Entry) (rest : List ℕ) (room : ℕ)
    → IsStored entries pages free reserved → 0 < length free → slot ≡ get_or free (length free - 1) slot → IsCutting (regions_of entries pages) i key p
    → IsWithEntry entries (record { prefix = p; slot = slot }) after → rest ≡ take (length free - 1) free → reserved ≤ room → from ≡ slot_at entries i
    → new ≡ set (set (set pages slot []) from (items_beside p (page_at (set pages slot []) from))) slot (items_below p (page_at (set pages slot []) from))
    → IsStored after new rest room × IsCut (regions_of entries pages) i p (regions_of after new)
cut_end entries pages free reserved slot from i key p new after rest room stored some is cut with_entry left enough at same =
    let empty : List (List Item) = set pages slot [] in
    let split : free ≡ rest ++ slot ∷ [] = last_split free slot some is ∙ ap (λ r. r ++ slot ∷ []) (sym left) in
    let facts = last_is_new entries pages free reserved slot stored some is in
    let regions : regions_of entries empty ≡ regions_of entries pages = set_unused entries pages slot [] facts.0 in
    let long : length empty ≡ length pages = length-set pages slot [] in
    let stored' : IsStored entries empty (rest ++ slot ∷ []) reserved = record {
      shared = subst (λ n. AreShared entries (rest ++ slot ∷ []) n) (sym long) (subst (λ f. AreShared entries f (length pages)) split stored.shared);
      room = omega (arith, stored.room, long);
      placed = subst IsWellPlaced (sym regions) stored.placed;
    } in
    let cut' : IsCutting (regions_of entries empty) i key p = subst (λ (q : List Region). IsCutting q i key p) (sym regions) cut in
    let both = cut_stored entries empty rest reserved slot i with_entry.place key p stored' cut' with_entry.fits in
    let new_is : new ≡ set (set empty (slot_at entries i) (items_beside p (page_at empty (slot_at entries i)))) slot
    (items_below p (page_at empty (slot_at entries i))) =
    same ∙ ap (λ s. set (set empty s (items_beside p (page_at empty s))) slot (items_below p (page_at empty s))) at in
    let whole : IsStored after new rest reserved =
    subst (λ (e : List Entry). IsStored e new rest reserved) (sym with_entry.same)
    (subst (λ ps. IsStored (insert entries with_entry.place (record { prefix = p; slot = slot })) ps rest reserved) (sym new_is) both.0) in (
      record { shared = whole.shared; room = omega (arith, whole.room); placed = whole.placed },
      subst (λ (q : List Region). IsCut q i p (regions_of after new)) regions
          (subst (λ (e : List Entry). IsCut (regions_of entries empty) i p (regions_of e new)) (sym with_entry.same)
          (subst (λ ps. IsCut (regions_of entries empty) i p (regions_of (insert entries with_entry.place (record { prefix = p; slot = slot })) ps))
          (sym new_is) both.1)),
    )

-- ---- the prefixes once there is an entry more

pub length_with : (entries : List Entry) (e : Entry) (after : List Entry) → IsWithEntry entries e after → length after ≡ length entries + 1
length_with entries e after w = ap length w.same ∙ length-insert entries w.place e (omega (arith, w.fits.within, prefixes_length entries))

pub listing_with : (entries : List Entry) (e : Entry) (after : List Entry) → IsListing entries → IsNewSlot entries e.slot → IsWithEntry entries e after →
    IsListing after
listing_with entries e after listing new w = subst IsListing (sym w.same) (listing_insert entries e w.place listing w.fits new)

-- the new one is among them
pub among_with : (entries : List Entry) (e : Entry) (after : List Entry) → IsWithEntry entries e after → Contains (prefixes_of after) e.prefix
among_with entries e after w =
    let same : prefixes_of after ≡ insert (prefixes_of entries) w.place e.prefix =
    ap prefixes_of w.same ∙ map_insert (λ (e : Entry). e.prefix) entries w.place e in (
      w.place,
      omega (arith, ap length same, length-insert (prefixes_of entries) w.place e.prefix w.fits.within, w.fits.within),
      ap (λ ps. get_or ps w.place e.prefix) same ∙ get_or-insert_at (prefixes_of entries) w.place e.prefix e.prefix w.fits.within,
    )

-- the key of an item of a page that stays as it was
pub same_key : (pages more : List (List Item)) (from j : ℕ) (p q : List Item) (x y : Item) → from < length pages → from < length more →
    page_at more from ≡ page_at pages from
    → p ≡ get_or pages from p → q ≡ get_or more from q → j < length p → x ≡ get_or p j x → y ≡ get_or q j y → y.key.bits ≡ x.key.bits
same_key pages more from j p q x y h g same is_p is_q within is_x is_y =
    let alike : p ≡ q = get_or_read pages from p h is_p [] ∙ sym same ∙ sym (get_or_read more from q g is_q []) in
    let there : j < length q = subst (λ xs. j < length xs) alike within in
    ap (λ (i : Item). i.key.bits) is_y ∙ sym (key_of_item q j y there) ∙ ap (λ xs. bits_at (keys_of xs) j) (sym alike) ∙ key_of_item p j x within
    ∙ ap (λ (i : Item). i.key.bits) (sym is_x)
