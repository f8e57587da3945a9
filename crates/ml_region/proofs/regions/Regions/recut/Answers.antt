use Rattle.std.proofs.Common.{◌≡◌, ◌⊎◌, inl, inr, ℕ, ◌+◌, ◌<◌, ◌≤◌, Bool, List, [], ◌++◌, length, take, drop, sym, ap, ◌∙◌, subst, arith}
use Rattle.std.specs.Prelude.{Contains, vec_capacity}
use Rattle.std.specs.List.{remove}
use Rattle.std.proofs.lemmas.List.{get_or_read}
use Rattle.std.proofs.lemmas.List.Edits.{length-remove}
use Rattle.std.proofs.lemmas.List.Elements.{Contains-get_or}
use Rattle.ml_region.specs.Changes.{IsRecut}
use Rattle.ml_region.specs.inside.Moves.{IsParted}
use Rattle.ml_region.specs.Prefixes.{bits_at, IsRising, IsParent}
use Rattle.ml_region.specs.Listing.{Entry, IsListing, IsSlotOfParent, IsWithEntry, prefix_at, slot_at}
use Rattle.ml_region.specs.Regions.{Region, RegionList, items_at, keys_of, keys_at, region_at, region_prefixes}
use Rattle.ml_region.specs.inside.Stored.{page_at, regions_of, IsStored}
use Rattle.ml_region.specs.declared.item.Item.{Item}
use Rattle.ml_region.proofs.SortedElements.{whole_back}
use Rattle.ml_region.proofs.CutSteps.{length_with, listing_with, among_with}
use Rattle.ml_region.proofs.ListingChanges.{listing_remove, new_slot_remove}
use Rattle.ml_region.proofs.FoundItems.{items_of_page, prefix_of_entry, key_of_item, page_rising}
use Rattle.ml_region.proofs.MergeSteps.{parent_is, parent_in_front, parent_within, own_items, parent_items, keys_differ}
use Rattle.ml_region.proofs.RecutSteps.{recut_end, same_parent, parted_length}
use Rattle.ml_region.proofs.RegionItems.{keys_length}
use Rattle.ml_region.proofs.StoredRegions.{regions_length, slot_within, slots_apart, listing_of}
use Rattle.ml_region.proofs.regions.Regions.recut.Goals as goal

pub slot_of-from-requires-clause-listing : goal.slot_of-from-requires-clause-listing
slot_of-from-requires-clause-listing g c =
    listing_of (g.D.Directory.listing c.self.inside.dir).entries c.self.inside.pages.items c.self.inside.free.items
    (vec_capacity c.self.inside.free) c.self.invariant

pub parent_slot-to-requires-clause-listing : goal.parent_slot-to-requires-clause-listing
parent_slot-to-requires-clause-listing g c =
    listing_of (g.D.Directory.listing c.self.inside.dir).entries c.self.inside.pages.items c.self.inside.free.items
    (vec_capacity c.self.inside.free) c.self.invariant

pub slot_of-source-requires-clause-listing : goal.slot_of-source-requires-clause-listing
slot_of-source-requires-clause-listing g c =
    listing_of (g.D.Directory.listing c.self.inside.dir).entries c.self.inside.pages.items c.self.inside.free.items
    (vec_capacity c.self.inside.free) c.self.invariant

pub index-requires : goal.index-requires
index-requires g c =
    let entries : List Entry = (g.D.Directory.listing c.self.inside.dir).entries in
    let pages : List (List Item) = c.self.inside.pages.items in
    let free : List ℕ = c.self.inside.free.items in
    let reserved : ℕ = vec_capacity c.self.inside.free in
    let i : ℕ = c.args.i in
    let same : regions_of entries pages ≡ c.args.self.now.regions = ap (λ (v : RegionList). v.regions) c.self.view_is in
    let h : i < length entries = omega (arith, regions_length entries pages, ap length same, c.requires.within) in
    let from : ℕ = c.slot_of-from.result in
    let to : ℕ = c.parent_slot-to.result in
    let sp : IsSlotOfParent entries (prefix_at entries i) to = c.parent_slot-to.ensures in
    let front : sp.place < i = parent_in_front entries pages free reserved i to c.self.invariant h sp in
    let p_in : sp.place < length entries = parent_within entries pages free reserved i to c.self.invariant h sp in
    let is_parent : IsParent (region_prefixes c.args.self.now.regions) (region_at c.args.self.now.regions i).prefix sp.place =
    subst (λ (q : List Region). IsParent (region_prefixes q) (region_at q i).prefix sp.place) same
    (parent_is entries pages free reserved i to c.self.invariant h sp) in
    let r : ℕ = c.args.r in
    let which : (r ≡ i) ⊎ (r ≡ sp.place) = elim c.requires.region [
      | inl e ↦ inl e
      | inr p ↦ inr (same_parent entries pages free reserved i to c.self.invariant h sp r
          (subst (λ (q : List Region). IsParent (region_prefixes q) (region_at q i).prefix r) (sym same) p))
    ] in
    let r_in : r < length entries = elim which [ inl e ↦ omega arith | inr e ↦ omega arith ] in
    let source : ℕ = c.slot_of-source.result in
    let source_in : source < length pages = omega (arith, c.slot_of-source.ensures, slot_within entries free (length pages) r c.self.invariant.shared r_in) in
    omega (arith, source_in, c.self.inside.pages.ok.0)

pub item-requires : goal.item-requires
item-requires g c =
    let entries : List Entry = (g.D.Directory.listing c.self.inside.dir).entries in
    let pages : List (List Item) = c.self.inside.pages.items in
    let free : List ℕ = c.self.inside.free.items in
    let reserved : ℕ = vec_capacity c.self.inside.free in
    let i : ℕ = c.args.i in
    let same : regions_of entries pages ≡ c.args.self.now.regions = ap (λ (v : RegionList). v.regions) c.self.view_is in
    let h : i < length entries = omega (arith, regions_length entries pages, ap length same, c.requires.within) in
    let from : ℕ = c.slot_of-from.result in
    let to : ℕ = c.parent_slot-to.result in
    let sp : IsSlotOfParent entries (prefix_at entries i) to = c.parent_slot-to.ensures in
    let front : sp.place < i = parent_in_front entries pages free reserved i to c.self.invariant h sp in
    let p_in : sp.place < length entries = parent_within entries pages free reserved i to c.self.invariant h sp in
    let is_parent : IsParent (region_prefixes c.args.self.now.regions) (region_at c.args.self.now.regions i).prefix sp.place =
    subst (λ (q : List Region). IsParent (region_prefixes q) (region_at q i).prefix sp.place) same
    (parent_is entries pages free reserved i to c.self.invariant h sp) in
    let r : ℕ = c.args.r in
    let which : (r ≡ i) ⊎ (r ≡ sp.place) = elim c.requires.region [
      | inl e ↦ inl e
      | inr p ↦ inr (same_parent entries pages free reserved i to c.self.invariant h sp r
          (subst (λ (q : List Region). IsParent (region_prefixes q) (region_at q i).prefix r) (sym same) p))
    ] in
    let r_in : r < length entries = elim which [ inl e ↦ omega arith | inr e ↦ omega arith ] in
    let source : ℕ = c.slot_of-source.result in
    let source_in : source < length pages = omega (arith, c.slot_of-source.ensures, slot_within entries free (length pages) r c.self.invariant.shared r_in) in
    let page : c.index.result.now ≡ items_at (regions_of entries pages) r =
    get_or_read pages source c.index.result.now source_in c.index.ensures [] ∙ ap (page_at pages) c.slot_of-source.ensures
    ∙ sym (items_of_page entries pages r r_in) in
    let within : c.args.j < length (items_at (regions_of entries pages) r) =
    subst (λ (q : List Region). c.args.j < length (items_at q r)) (sym same) c.requires.item in
    let j_in : c.args.j < length c.index.result.now = subst (λ xs. c.args.j < length xs) (sym page) within in
    j_in

pub rename-requires-clause-bits : goal.rename-requires-clause-bits
rename-requires-clause-bits g c =
    let entries : List Entry = (g.D.Directory.listing c.self.inside.dir).entries in
    let pages : List (List Item) = c.self.inside.pages.items in
    let free : List ℕ = c.self.inside.free.items in
    let reserved : ℕ = vec_capacity c.self.inside.free in
    let i : ℕ = c.args.i in
    let same : regions_of entries pages ≡ c.args.self.now.regions = ap (λ (v : RegionList). v.regions) c.self.view_is in
    let h : i < length entries = omega (arith, regions_length entries pages, ap length same, c.requires.within) in
    let from : ℕ = c.slot_of-from.result in
    let to : ℕ = c.parent_slot-to.result in
    let sp : IsSlotOfParent entries (prefix_at entries i) to = c.parent_slot-to.ensures in
    let front : sp.place < i = parent_in_front entries pages free reserved i to c.self.invariant h sp in
    let p_in : sp.place < length entries = parent_within entries pages free reserved i to c.self.invariant h sp in
    let is_parent : IsParent (region_prefixes c.args.self.now.regions) (region_at c.args.self.now.regions i).prefix sp.place =
    subst (λ (q : List Region). IsParent (region_prefixes q) (region_at q i).prefix sp.place) same
    (parent_is entries pages free reserved i to c.self.invariant h sp) in
    let r : ℕ = c.args.r in
    let which : (r ≡ i) ⊎ (r ≡ sp.place) = elim c.requires.region [
      | inl e ↦ inl e
      | inr p ↦ inr (same_parent entries pages free reserved i to c.self.invariant h sp r
          (subst (λ (q : List Region). IsParent (region_prefixes q) (region_at q i).prefix r) (sym same) p))
    ] in
    let r_in : r < length entries = elim which [ inl e ↦ omega arith | inr e ↦ omega arith ] in
    let source : ℕ = c.slot_of-source.result in
    let source_in : source < length pages = omega (arith, c.slot_of-source.ensures, slot_within entries free (length pages) r c.self.invariant.shared r_in) in
    let page : c.index.result.now ≡ items_at (regions_of entries pages) r =
    get_or_read pages source c.index.result.now source_in c.index.ensures [] ∙ ap (page_at pages) c.slot_of-source.ensures
    ∙ sym (items_of_page entries pages r r_in) in
    let within : c.args.j < length (items_at (regions_of entries pages) r) =
    subst (λ (q : List Region). c.args.j < length (items_at q r)) (sym same) c.requires.item in
    let j_in : c.args.j < length c.index.result.now = subst (λ xs. c.args.j < length xs) (sym page) within in
    let key : List Bool = c.item.result.now.key.bits in
    let key_is : bits_at (keys_at (regions_of entries pages) r) c.args.j ≡ key =
    ap (λ xs. bits_at (keys_of xs) c.args.j) (sym page) ∙ key_of_item c.index.result.now c.args.j c.item.result.now j_in
    ∙ ap (λ (x : Item). x.key.bits) (sym c.item.ensures) in
    let now_is : bits_at (keys_at c.args.self.now.regions r) c.args.j ≡ key = ap (λ (q : List Region). bits_at (keys_at q r) c.args.j) (sym same) ∙ key_is in
    let long : c.args.n ≤ length key = omega (arith, c.requires.bits, ap length now_is) in
    long

pub rename-requires-clause-prefix : goal.rename-requires-clause-prefix
rename-requires-clause-prefix g c =
    let entries : List Entry = (g.D.Directory.listing c.self.inside.dir).entries in
    let pages : List (List Item) = c.self.inside.pages.items in
    let free : List ℕ = c.self.inside.free.items in
    let reserved : ℕ = vec_capacity c.self.inside.free in
    let i : ℕ = c.args.i in
    let same : regions_of entries pages ≡ c.args.self.now.regions = ap (λ (v : RegionList). v.regions) c.self.view_is in
    let h : i < length entries = omega (arith, regions_length entries pages, ap length same, c.requires.within) in
    let from : ℕ = c.slot_of-from.result in
    let to : ℕ = c.parent_slot-to.result in
    let sp : IsSlotOfParent entries (prefix_at entries i) to = c.parent_slot-to.ensures in
    let front : sp.place < i = parent_in_front entries pages free reserved i to c.self.invariant h sp in
    let p_in : sp.place < length entries = parent_within entries pages free reserved i to c.self.invariant h sp in
    let is_parent : IsParent (region_prefixes c.args.self.now.regions) (region_at c.args.self.now.regions i).prefix sp.place =
    subst (λ (q : List Region). IsParent (region_prefixes q) (region_at q i).prefix sp.place) same
    (parent_is entries pages free reserved i to c.self.invariant h sp) in
    let r : ℕ = c.args.r in
    let which : (r ≡ i) ⊎ (r ≡ sp.place) = elim c.requires.region [
      | inl e ↦ inl e
      | inr p ↦ inr (same_parent entries pages free reserved i to c.self.invariant h sp r
          (subst (λ (q : List Region). IsParent (region_prefixes q) (region_at q i).prefix r) (sym same) p))
    ] in
    let r_in : r < length entries = elim which [ inl e ↦ omega arith | inr e ↦ omega arith ] in
    let source : ℕ = c.slot_of-source.result in
    let source_in : source < length pages = omega (arith, c.slot_of-source.ensures, slot_within entries free (length pages) r c.self.invariant.shared r_in) in
    let page : c.index.result.now ≡ items_at (regions_of entries pages) r =
    get_or_read pages source c.index.result.now source_in c.index.ensures [] ∙ ap (page_at pages) c.slot_of-source.ensures
    ∙ sym (items_of_page entries pages r r_in) in
    let within : c.args.j < length (items_at (regions_of entries pages) r) =
    subst (λ (q : List Region). c.args.j < length (items_at q r)) (sym same) c.requires.item in
    let j_in : c.args.j < length c.index.result.now = subst (λ xs. c.args.j < length xs) (sym page) within in
    let key : List Bool = c.item.result.now.key.bits in
    let key_is : bits_at (keys_at (regions_of entries pages) r) c.args.j ≡ key =
    ap (λ xs. bits_at (keys_of xs) c.args.j) (sym page) ∙ key_of_item c.index.result.now c.args.j c.item.result.now j_in
    ∙ ap (λ (x : Item). x.key.bits) (sym c.item.ensures) in
    let now_is : bits_at (keys_at c.args.self.now.regions r) c.args.j ≡ key = ap (λ (q : List Region). bits_at (keys_at q r) c.args.j) (sym same) ∙ key_is in
    let long : c.args.n ≤ length key = omega (arith, c.requires.bits, ap length now_is) in
    λ m l e. c.requires.prefix m (omega (arith, regions_length entries pages, ap length same))
    (ap (λ (q : List Region). (region_at q m).prefix) (sym same) ∙ prefix_of_entry entries pages m l ∙ e ∙ ap (take c.args.n) (sym now_is))

pub prefix_among-renamed-requires-clause-listing : goal.prefix_among-renamed-requires-clause-listing
prefix_among-renamed-requires-clause-listing g c =
    let entries : List Entry = (g.D.Directory.listing c.self.inside.dir).entries in
    let pages : List (List Item) = c.self.inside.pages.items in
    let i : ℕ = c.args.i in
    let same : regions_of entries pages ≡ c.args.self.now.regions = ap (λ (v : RegionList). v.regions) c.self.view_is in
    let h : i < length entries = omega (arith, regions_length entries pages, ap length same, c.requires.within) in
    let p : List Bool = take c.args.n c.item.result.now.key.bits in
    let after : List Entry = (g.D.Directory.listing c.rename.new.self).entries in
    let with_entry : IsWithEntry (remove entries i) (record { prefix = p; slot = slot_at entries i }) after = c.rename.ensures.entries in
    let listing : IsListing entries = listing_of entries pages c.self.inside.free.items (vec_capacity c.self.inside.free) c.self.invariant in
    listing_with (remove entries i) (record { prefix = p; slot = slot_at entries i }) after (listing_remove entries i listing c.requires.nested h)
    (new_slot_remove entries i h listing) with_entry

pub prefix_among-renamed-requires-clause-len : goal.prefix_among-renamed-requires-clause-len
prefix_among-renamed-requires-clause-len g c =
    let entries : List Entry = (g.D.Directory.listing c.self.inside.dir).entries in
    let pages : List (List Item) = c.self.inside.pages.items in
    let i : ℕ = c.args.i in
    let same : regions_of entries pages ≡ c.args.self.now.regions = ap (λ (v : RegionList). v.regions) c.self.view_is in
    let h : i < length entries = omega (arith, regions_length entries pages, ap length same, c.requires.within) in
    let p : List Bool = take c.args.n c.item.result.now.key.bits in
    let after : List Entry = (g.D.Directory.listing c.rename.new.self).entries in
    let with_entry : IsWithEntry (remove entries i) (record { prefix = p; slot = slot_at entries i }) after = c.rename.ensures.entries in
    omega (
      arith,
      c.len-len.ensures.length,
      ap length same,
      regions_length entries pages,
      length_with (remove entries i) (record { prefix = p; slot = slot_at entries i }) after with_entry,
      length-remove entries i h,
    )

pub prefix_among-renamed-requires-clause-within : goal.prefix_among-renamed-requires-clause-within
prefix_among-renamed-requires-clause-within g c =
    let entries : List Entry = (g.D.Directory.listing c.self.inside.dir).entries in
    let pages : List (List Item) = c.self.inside.pages.items in
    let free : List ℕ = c.self.inside.free.items in
    let reserved : ℕ = vec_capacity c.self.inside.free in
    let i : ℕ = c.args.i in
    let same : regions_of entries pages ≡ c.args.self.now.regions = ap (λ (v : RegionList). v.regions) c.self.view_is in
    let h : i < length entries = omega (arith, regions_length entries pages, ap length same, c.requires.within) in
    let from : ℕ = c.slot_of-from.result in
    let to : ℕ = c.parent_slot-to.result in
    let sp : IsSlotOfParent entries (prefix_at entries i) to = c.parent_slot-to.ensures in
    let front : sp.place < i = parent_in_front entries pages free reserved i to c.self.invariant h sp in
    let p_in : sp.place < length entries = parent_within entries pages free reserved i to c.self.invariant h sp in
    let is_parent : IsParent (region_prefixes c.args.self.now.regions) (region_at c.args.self.now.regions i).prefix sp.place =
    subst (λ (q : List Region). IsParent (region_prefixes q) (region_at q i).prefix sp.place) same
    (parent_is entries pages free reserved i to c.self.invariant h sp) in
    let r : ℕ = c.args.r in
    let which : (r ≡ i) ⊎ (r ≡ sp.place) = elim c.requires.region [
      | inl e ↦ inl e
      | inr p ↦ inr (same_parent entries pages free reserved i to c.self.invariant h sp r
          (subst (λ (q : List Region). IsParent (region_prefixes q) (region_at q i).prefix r) (sym same) p))
    ] in
    let r_in : r < length entries = elim which [ inl e ↦ omega arith | inr e ↦ omega arith ] in
    let source : ℕ = c.slot_of-source.result in
    let source_in : source < length pages = omega (arith, c.slot_of-source.ensures, slot_within entries free (length pages) r c.self.invariant.shared r_in) in
    let page : c.index.result.now ≡ items_at (regions_of entries pages) r =
    get_or_read pages source c.index.result.now source_in c.index.ensures [] ∙ ap (page_at pages) c.slot_of-source.ensures
    ∙ sym (items_of_page entries pages r r_in) in
    let within : c.args.j < length (items_at (regions_of entries pages) r) =
    subst (λ (q : List Region). c.args.j < length (items_at q r)) (sym same) c.requires.item in
    let j_in : c.args.j < length c.index.result.now = subst (λ xs. c.args.j < length xs) (sym page) within in
    let key : List Bool = c.item.result.now.key.bits in
    let key_is : bits_at (keys_at (regions_of entries pages) r) c.args.j ≡ key =
    ap (λ xs. bits_at (keys_of xs) c.args.j) (sym page) ∙ key_of_item c.index.result.now c.args.j c.item.result.now j_in
    ∙ ap (λ (x : Item). x.key.bits) (sym c.item.ensures) in
    let now_is : bits_at (keys_at c.args.self.now.regions r) c.args.j ≡ key = ap (λ (q : List Region). bits_at (keys_at q r) c.args.j) (sym same) ∙ key_is in
    let long : c.args.n ≤ length key = omega (arith, c.requires.bits, ap length now_is) in
    long

pub prefix_among-renamed-requires-clause-there : goal.prefix_among-renamed-requires-clause-there
prefix_among-renamed-requires-clause-there g c =
    let entries : List Entry = (g.D.Directory.listing c.self.inside.dir).entries in
    let pages : List (List Item) = c.self.inside.pages.items in
    let i : ℕ = c.args.i in
    let same : regions_of entries pages ≡ c.args.self.now.regions = ap (λ (v : RegionList). v.regions) c.self.view_is in
    let h : i < length entries = omega (arith, regions_length entries pages, ap length same, c.requires.within) in
    let p : List Bool = take c.args.n c.item.result.now.key.bits in
    let after : List Entry = (g.D.Directory.listing c.rename.new.self).entries in
    let with_entry : IsWithEntry (remove entries i) (record { prefix = p; slot = slot_at entries i }) after = c.rename.ensures.entries in
    among_with (remove entries i) (record { prefix = p; slot = slot_at entries i }) after with_entry

pub pour_and_part-requires-clause-from : goal.pour_and_part-requires-clause-from
pour_and_part-requires-clause-from g c =
    let entries : List Entry = (g.D.Directory.listing c.self.inside.dir).entries in
    let pages : List (List Item) = c.self.inside.pages.items in
    let free : List ℕ = c.self.inside.free.items in
    let reserved : ℕ = vec_capacity c.self.inside.free in
    let i : ℕ = c.args.i in
    let same : regions_of entries pages ≡ c.args.self.now.regions = ap (λ (v : RegionList). v.regions) c.self.view_is in
    let h : i < length entries = omega (arith, regions_length entries pages, ap length same, c.requires.within) in
    let from : ℕ = c.slot_of-from.result in
    let to : ℕ = c.parent_slot-to.result in
    let sp : IsSlotOfParent entries (prefix_at entries i) to = c.parent_slot-to.ensures in
    let front : sp.place < i = parent_in_front entries pages free reserved i to c.self.invariant h sp in
    let p_in : sp.place < length entries = parent_within entries pages free reserved i to c.self.invariant h sp in
    let is_parent : IsParent (region_prefixes c.args.self.now.regions) (region_at c.args.self.now.regions i).prefix sp.place =
    subst (λ (q : List Region). IsParent (region_prefixes q) (region_at q i).prefix sp.place) same
    (parent_is entries pages free reserved i to c.self.invariant h sp) in
    let lent : c.deref_mut.result.now ≡ pages = c.deref_mut.ensures.value in
    let inside : from < length pages = omega (arith, c.slot_of-from.ensures, slot_within entries free (length pages) i c.self.invariant.shared h) in
    subst (λ ps. from < length ps) (sym lent) inside

pub pour_and_part-requires-clause-to : goal.pour_and_part-requires-clause-to
pour_and_part-requires-clause-to g c =
    let entries : List Entry = (g.D.Directory.listing c.self.inside.dir).entries in
    let pages : List (List Item) = c.self.inside.pages.items in
    let free : List ℕ = c.self.inside.free.items in
    let reserved : ℕ = vec_capacity c.self.inside.free in
    let i : ℕ = c.args.i in
    let same : regions_of entries pages ≡ c.args.self.now.regions = ap (λ (v : RegionList). v.regions) c.self.view_is in
    let h : i < length entries = omega (arith, regions_length entries pages, ap length same, c.requires.within) in
    let from : ℕ = c.slot_of-from.result in
    let to : ℕ = c.parent_slot-to.result in
    let sp : IsSlotOfParent entries (prefix_at entries i) to = c.parent_slot-to.ensures in
    let front : sp.place < i = parent_in_front entries pages free reserved i to c.self.invariant h sp in
    let p_in : sp.place < length entries = parent_within entries pages free reserved i to c.self.invariant h sp in
    let is_parent : IsParent (region_prefixes c.args.self.now.regions) (region_at c.args.self.now.regions i).prefix sp.place =
    subst (λ (q : List Region). IsParent (region_prefixes q) (region_at q i).prefix sp.place) same
    (parent_is entries pages free reserved i to c.self.invariant h sp) in
    let lent : c.deref_mut.result.now ≡ pages = c.deref_mut.ensures.value in
    let inside : to < length pages = omega (arith, sp.same, slot_within entries free (length pages) sp.place c.self.invariant.shared p_in) in
    subst (λ ps. to < length ps) (sym lent) inside

pub pour_and_part-requires-clause-apart : goal.pour_and_part-requires-clause-apart
pour_and_part-requires-clause-apart g c =
    let entries : List Entry = (g.D.Directory.listing c.self.inside.dir).entries in
    let pages : List (List Item) = c.self.inside.pages.items in
    let free : List ℕ = c.self.inside.free.items in
    let reserved : ℕ = vec_capacity c.self.inside.free in
    let i : ℕ = c.args.i in
    let same : regions_of entries pages ≡ c.args.self.now.regions = ap (λ (v : RegionList). v.regions) c.self.view_is in
    let h : i < length entries = omega (arith, regions_length entries pages, ap length same, c.requires.within) in
    let from : ℕ = c.slot_of-from.result in
    let to : ℕ = c.parent_slot-to.result in
    let sp : IsSlotOfParent entries (prefix_at entries i) to = c.parent_slot-to.ensures in
    let front : sp.place < i = parent_in_front entries pages free reserved i to c.self.invariant h sp in
    let p_in : sp.place < length entries = parent_within entries pages free reserved i to c.self.invariant h sp in
    let is_parent : IsParent (region_prefixes c.args.self.now.regions) (region_at c.args.self.now.regions i).prefix sp.place =
    subst (λ (q : List Region). IsParent (region_prefixes q) (region_at q i).prefix sp.place) same
    (parent_is entries pages free reserved i to c.self.invariant h sp) in
    let lent : c.deref_mut.result.now ≡ pages = c.deref_mut.ensures.value in
    λ e. let one : i ≡ sp.place = slots_apart entries free (length pages) i sp.place c.self.invariant.shared h p_in
    (sym c.slot_of-from.ensures ∙ e ∙ sp.same) in omega arith

pub pour_and_part-requires-clause-few : goal.pour_and_part-requires-clause-few
pour_and_part-requires-clause-few g c =
    let entries : List Entry = (g.D.Directory.listing c.self.inside.dir).entries in
    let pages : List (List Item) = c.self.inside.pages.items in
    let free : List ℕ = c.self.inside.free.items in
    let reserved : ℕ = vec_capacity c.self.inside.free in
    let i : ℕ = c.args.i in
    let same : regions_of entries pages ≡ c.args.self.now.regions = ap (λ (v : RegionList). v.regions) c.self.view_is in
    let h : i < length entries = omega (arith, regions_length entries pages, ap length same, c.requires.within) in
    let from : ℕ = c.slot_of-from.result in
    let to : ℕ = c.parent_slot-to.result in
    let sp : IsSlotOfParent entries (prefix_at entries i) to = c.parent_slot-to.ensures in
    let front : sp.place < i = parent_in_front entries pages free reserved i to c.self.invariant h sp in
    let p_in : sp.place < length entries = parent_within entries pages free reserved i to c.self.invariant h sp in
    let is_parent : IsParent (region_prefixes c.args.self.now.regions) (region_at c.args.self.now.regions i).prefix sp.place =
    subst (λ (q : List Region). IsParent (region_prefixes q) (region_at q i).prefix sp.place) same
    (parent_is entries pages free reserved i to c.self.invariant h sp) in
    let lent : c.deref_mut.result.now ≡ pages = c.deref_mut.ensures.value in
    let few : length (page_at pages to) + length (page_at pages (slot_at entries i)) ≤ 31 =
    omega (
      arith,
      c.requires.few sp.place is_parent,
      ap (λ (q : List Region). length (items_at q sp.place)) same,
      ap (λ (q : List Region). length (items_at q i)) same,
      ap length (parent_items entries pages free reserved i to c.self.invariant h sp),
      ap length (own_items entries pages free reserved i to c.self.invariant h sp),
    ) in
    subst (λ ps. length (page_at ps to) + length (page_at ps from) ≤ 31) (sym lent)
    (subst (λ s. length (page_at pages to) + length (page_at pages s) ≤ 31) (sym c.slot_of-from.ensures) few)

pub pour_and_part-requires-clause-rising : goal.pour_and_part-requires-clause-rising
pour_and_part-requires-clause-rising g c =
    let entries : List Entry = (g.D.Directory.listing c.self.inside.dir).entries in
    let pages : List (List Item) = c.self.inside.pages.items in
    let free : List ℕ = c.self.inside.free.items in
    let reserved : ℕ = vec_capacity c.self.inside.free in
    let i : ℕ = c.args.i in
    let same : regions_of entries pages ≡ c.args.self.now.regions = ap (λ (v : RegionList). v.regions) c.self.view_is in
    let h : i < length entries = omega (arith, regions_length entries pages, ap length same, c.requires.within) in
    let from : ℕ = c.slot_of-from.result in
    let to : ℕ = c.parent_slot-to.result in
    let sp : IsSlotOfParent entries (prefix_at entries i) to = c.parent_slot-to.ensures in
    let front : sp.place < i = parent_in_front entries pages free reserved i to c.self.invariant h sp in
    let p_in : sp.place < length entries = parent_within entries pages free reserved i to c.self.invariant h sp in
    let is_parent : IsParent (region_prefixes c.args.self.now.regions) (region_at c.args.self.now.regions i).prefix sp.place =
    subst (λ (q : List Region). IsParent (region_prefixes q) (region_at q i).prefix sp.place) same
    (parent_is entries pages free reserved i to c.self.invariant h sp) in
    let lent : c.deref_mut.result.now ≡ pages = c.deref_mut.ensures.value in
    subst (λ ps. IsRising (keys_of (page_at ps to))) (sym lent)
    (subst (λ s. IsRising (keys_of (page_at pages s))) (sym sp.same) (page_rising entries pages free reserved sp.place c.self.invariant p_in))

pub pour_and_part-requires-clause-from_rising : goal.pour_and_part-requires-clause-from_rising
pour_and_part-requires-clause-from_rising g c =
    let entries : List Entry = (g.D.Directory.listing c.self.inside.dir).entries in
    let pages : List (List Item) = c.self.inside.pages.items in
    let free : List ℕ = c.self.inside.free.items in
    let reserved : ℕ = vec_capacity c.self.inside.free in
    let i : ℕ = c.args.i in
    let same : regions_of entries pages ≡ c.args.self.now.regions = ap (λ (v : RegionList). v.regions) c.self.view_is in
    let h : i < length entries = omega (arith, regions_length entries pages, ap length same, c.requires.within) in
    let from : ℕ = c.slot_of-from.result in
    let to : ℕ = c.parent_slot-to.result in
    let sp : IsSlotOfParent entries (prefix_at entries i) to = c.parent_slot-to.ensures in
    let front : sp.place < i = parent_in_front entries pages free reserved i to c.self.invariant h sp in
    let p_in : sp.place < length entries = parent_within entries pages free reserved i to c.self.invariant h sp in
    let is_parent : IsParent (region_prefixes c.args.self.now.regions) (region_at c.args.self.now.regions i).prefix sp.place =
    subst (λ (q : List Region). IsParent (region_prefixes q) (region_at q i).prefix sp.place) same
    (parent_is entries pages free reserved i to c.self.invariant h sp) in
    let lent : c.deref_mut.result.now ≡ pages = c.deref_mut.ensures.value in
    subst (λ ps. IsRising (keys_of (page_at ps from))) (sym lent)
    (subst (λ s. IsRising (keys_of (page_at pages s))) (sym c.slot_of-from.ensures) (page_rising entries pages free reserved i c.self.invariant h))

pub pour_and_part-requires-clause-different : goal.pour_and_part-requires-clause-different
pour_and_part-requires-clause-different g c =
    let entries : List Entry = (g.D.Directory.listing c.self.inside.dir).entries in
    let pages : List (List Item) = c.self.inside.pages.items in
    let free : List ℕ = c.self.inside.free.items in
    let reserved : ℕ = vec_capacity c.self.inside.free in
    let i : ℕ = c.args.i in
    let same : regions_of entries pages ≡ c.args.self.now.regions = ap (λ (v : RegionList). v.regions) c.self.view_is in
    let h : i < length entries = omega (arith, regions_length entries pages, ap length same, c.requires.within) in
    let from : ℕ = c.slot_of-from.result in
    let to : ℕ = c.parent_slot-to.result in
    let sp : IsSlotOfParent entries (prefix_at entries i) to = c.parent_slot-to.ensures in
    let front : sp.place < i = parent_in_front entries pages free reserved i to c.self.invariant h sp in
    let p_in : sp.place < length entries = parent_within entries pages free reserved i to c.self.invariant h sp in
    let is_parent : IsParent (region_prefixes c.args.self.now.regions) (region_at c.args.self.now.regions i).prefix sp.place =
    subst (λ (q : List Region). IsParent (region_prefixes q) (region_at q i).prefix sp.place) same
    (parent_is entries pages free reserved i to c.self.invariant h sp) in
    let lent : c.deref_mut.result.now ≡ pages = c.deref_mut.ensures.value in
    λ key own its. keys_differ entries pages free reserved i to c.self.invariant h sp key
    (subst (λ s. Contains (keys_of (page_at pages s)) key) c.slot_of-from.ensures (subst (λ ps. Contains (keys_of (page_at ps from)) key) lent own))
    (subst (λ ps. Contains (keys_of (page_at ps to)) key) lent its)

pub invariant_of-self : goal.invariant_of-self
invariant_of-self g c =
    let entries : List Entry = (g.D.Directory.listing c.self.inside.dir).entries in
    let pages : List (List Item) = c.self.inside.pages.items in
    let free : List ℕ = c.self.inside.free.items in
    let reserved : ℕ = vec_capacity c.self.inside.free in
    let i : ℕ = c.args.i in
    let same : regions_of entries pages ≡ c.args.self.now.regions = ap (λ (v : RegionList). v.regions) c.self.view_is in
    let h : i < length entries = omega (arith, regions_length entries pages, ap length same, c.requires.within) in
    let from : ℕ = c.slot_of-from.result in
    let to : ℕ = c.parent_slot-to.result in
    let sp : IsSlotOfParent entries (prefix_at entries i) to = c.parent_slot-to.ensures in
    let front : sp.place < i = parent_in_front entries pages free reserved i to c.self.invariant h sp in
    let p_in : sp.place < length entries = parent_within entries pages free reserved i to c.self.invariant h sp in
    let is_parent : IsParent (region_prefixes c.args.self.now.regions) (region_at c.args.self.now.regions i).prefix sp.place =
    subst (λ (q : List Region). IsParent (region_prefixes q) (region_at q i).prefix sp.place) same
    (parent_is entries pages free reserved i to c.self.invariant h sp) in
    let r : ℕ = c.args.r in
    let which : (r ≡ i) ⊎ (r ≡ sp.place) = elim c.requires.region [
      | inl e ↦ inl e
      | inr p ↦ inr (same_parent entries pages free reserved i to c.self.invariant h sp r
          (subst (λ (q : List Region). IsParent (region_prefixes q) (region_at q i).prefix r) (sym same) p))
    ] in
    let r_in : r < length entries = elim which [ inl e ↦ omega arith | inr e ↦ omega arith ] in
    let source : ℕ = c.slot_of-source.result in
    let source_in : source < length pages = omega (arith, c.slot_of-source.ensures, slot_within entries free (length pages) r c.self.invariant.shared r_in) in
    let page : c.index.result.now ≡ items_at (regions_of entries pages) r =
    get_or_read pages source c.index.result.now source_in c.index.ensures [] ∙ ap (page_at pages) c.slot_of-source.ensures
    ∙ sym (items_of_page entries pages r r_in) in
    let within : c.args.j < length (items_at (regions_of entries pages) r) =
    subst (λ (q : List Region). c.args.j < length (items_at q r)) (sym same) c.requires.item in
    let j_in : c.args.j < length c.index.result.now = subst (λ xs. c.args.j < length xs) (sym page) within in
    let key : List Bool = c.item.result.now.key.bits in
    let key_is : bits_at (keys_at (regions_of entries pages) r) c.args.j ≡ key =
    ap (λ xs. bits_at (keys_of xs) c.args.j) (sym page) ∙ key_of_item c.index.result.now c.args.j c.item.result.now j_in
    ∙ ap (λ (x : Item). x.key.bits) (sym c.item.ensures) in
    let now_is : bits_at (keys_at c.args.self.now.regions r) c.args.j ≡ key = ap (λ (q : List Region). bits_at (keys_at q r) c.args.j) (sym same) ∙ key_is in
    let long : c.args.n ≤ length key = omega (arith, c.requires.bits, ap length now_is) in
    let lent : c.deref_mut.result.now ≡ pages = c.deref_mut.ensures.value in
    let few : length (page_at pages to) + length (page_at pages (slot_at entries i)) ≤ 31 =
    omega (
      arith,
      c.requires.few sp.place is_parent,
      ap (λ (q : List Region). length (items_at q sp.place)) same,
      ap (λ (q : List Region). length (items_at q i)) same,
      ap length (parent_items entries pages free reserved i to c.self.invariant h sp),
      ap length (own_items entries pages free reserved i to c.self.invariant h sp),
    ) in
    let p : List Bool = take c.args.n key in
    let new : List (List Item) = c.pour_and_part.new.pages in
    let after : List Entry = (g.D.Directory.listing c.rename.new.self).entries in
    let with_entry : IsWithEntry (remove entries i) (record { prefix = p; slot = slot_at entries i }) after = c.rename.ensures.entries in
    let bits : c.prefix_among-renamed.result.now.bits ≡ p = c.prefix_among-renamed.ensures in
    let parted : IsParted pages (slot_at entries i) to p new =
    subst (λ b. IsParted pages (slot_at entries i) to b new) bits
    (subst (λ s. IsParted pages s to c.prefix_among-renamed.result.now.bits new) c.slot_of-from.ensures
    (subst (λ ps. IsParted ps from to c.prefix_among-renamed.result.now.bits new) lent c.pour_and_part.ensures)) in
    let there : Contains (keys_at (regions_of entries pages) r) key =
    subst (Contains (keys_at (regions_of entries pages) r)) key_is
    (Contains-get_or (keys_at (regions_of entries pages) r) c.args.j [] (omega (arith, within, keys_length (items_at (regions_of entries pages) r)))) in
    let longer : length (prefix_at entries sp.place) < c.args.n =
    omega (
      arith,
      c.requires.longer sp.place is_parent,
      ap (λ (q : List Region). length (region_at q sp.place).prefix) same,
      ap length (prefix_of_entry entries pages sp.place p_in),
    ) in
    let size : length new ≡ length pages = parted_length pages (slot_at entries i) to p new parted in
    let back : take c.self.inside.pages.len (new ++ drop (length new) pages) ≡ new =
    whole_back new pages c.self.inside.pages.len size (omega (arith, c.self.inside.pages.ok.0)) in
    let both = recut_end entries pages free reserved i to c.self.invariant h sp r c.args.n key new after few which there longer long with_entry parted in
    subst (λ ps. IsStored after ps free reserved) (sym back) both.0

pub returns-clause-regions : goal.returns-clause-regions
returns-clause-regions g c =
    let entries : List Entry = (g.D.Directory.listing c.self.inside.dir).entries in
    let pages : List (List Item) = c.self.inside.pages.items in
    let free : List ℕ = c.self.inside.free.items in
    let reserved : ℕ = vec_capacity c.self.inside.free in
    let i : ℕ = c.args.i in
    let same : regions_of entries pages ≡ c.args.self.now.regions = ap (λ (v : RegionList). v.regions) c.self.view_is in
    let h : i < length entries = omega (arith, regions_length entries pages, ap length same, c.requires.within) in
    let from : ℕ = c.slot_of-from.result in
    let to : ℕ = c.parent_slot-to.result in
    let sp : IsSlotOfParent entries (prefix_at entries i) to = c.parent_slot-to.ensures in
    let front : sp.place < i = parent_in_front entries pages free reserved i to c.self.invariant h sp in
    let p_in : sp.place < length entries = parent_within entries pages free reserved i to c.self.invariant h sp in
    let is_parent : IsParent (region_prefixes c.args.self.now.regions) (region_at c.args.self.now.regions i).prefix sp.place =
    subst (λ (q : List Region). IsParent (region_prefixes q) (region_at q i).prefix sp.place) same
    (parent_is entries pages free reserved i to c.self.invariant h sp) in
    let r : ℕ = c.args.r in
    let which : (r ≡ i) ⊎ (r ≡ sp.place) = elim c.requires.region [
      | inl e ↦ inl e
      | inr p ↦ inr (same_parent entries pages free reserved i to c.self.invariant h sp r
          (subst (λ (q : List Region). IsParent (region_prefixes q) (region_at q i).prefix r) (sym same) p))
    ] in
    let r_in : r < length entries = elim which [ inl e ↦ omega arith | inr e ↦ omega arith ] in
    let source : ℕ = c.slot_of-source.result in
    let source_in : source < length pages = omega (arith, c.slot_of-source.ensures, slot_within entries free (length pages) r c.self.invariant.shared r_in) in
    let page : c.index.result.now ≡ items_at (regions_of entries pages) r =
    get_or_read pages source c.index.result.now source_in c.index.ensures [] ∙ ap (page_at pages) c.slot_of-source.ensures
    ∙ sym (items_of_page entries pages r r_in) in
    let within : c.args.j < length (items_at (regions_of entries pages) r) =
    subst (λ (q : List Region). c.args.j < length (items_at q r)) (sym same) c.requires.item in
    let j_in : c.args.j < length c.index.result.now = subst (λ xs. c.args.j < length xs) (sym page) within in
    let key : List Bool = c.item.result.now.key.bits in
    let key_is : bits_at (keys_at (regions_of entries pages) r) c.args.j ≡ key =
    ap (λ xs. bits_at (keys_of xs) c.args.j) (sym page) ∙ key_of_item c.index.result.now c.args.j c.item.result.now j_in
    ∙ ap (λ (x : Item). x.key.bits) (sym c.item.ensures) in
    let now_is : bits_at (keys_at c.args.self.now.regions r) c.args.j ≡ key = ap (λ (q : List Region). bits_at (keys_at q r) c.args.j) (sym same) ∙ key_is in
    let long : c.args.n ≤ length key = omega (arith, c.requires.bits, ap length now_is) in
    let lent : c.deref_mut.result.now ≡ pages = c.deref_mut.ensures.value in
    let few : length (page_at pages to) + length (page_at pages (slot_at entries i)) ≤ 31 =
    omega (
      arith,
      c.requires.few sp.place is_parent,
      ap (λ (q : List Region). length (items_at q sp.place)) same,
      ap (λ (q : List Region). length (items_at q i)) same,
      ap length (parent_items entries pages free reserved i to c.self.invariant h sp),
      ap length (own_items entries pages free reserved i to c.self.invariant h sp),
    ) in
    let p : List Bool = take c.args.n key in
    let new : List (List Item) = c.pour_and_part.new.pages in
    let after : List Entry = (g.D.Directory.listing c.rename.new.self).entries in
    let with_entry : IsWithEntry (remove entries i) (record { prefix = p; slot = slot_at entries i }) after = c.rename.ensures.entries in
    let bits : c.prefix_among-renamed.result.now.bits ≡ p = c.prefix_among-renamed.ensures in
    let parted : IsParted pages (slot_at entries i) to p new =
    subst (λ b. IsParted pages (slot_at entries i) to b new) bits
    (subst (λ s. IsParted pages s to c.prefix_among-renamed.result.now.bits new) c.slot_of-from.ensures
    (subst (λ ps. IsParted ps from to c.prefix_among-renamed.result.now.bits new) lent c.pour_and_part.ensures)) in
    let there : Contains (keys_at (regions_of entries pages) r) key =
    subst (Contains (keys_at (regions_of entries pages) r)) key_is
    (Contains-get_or (keys_at (regions_of entries pages) r) c.args.j [] (omega (arith, within, keys_length (items_at (regions_of entries pages) r)))) in
    let longer : length (prefix_at entries sp.place) < c.args.n =
    omega (
      arith,
      c.requires.longer sp.place is_parent,
      ap (λ (q : List Region). length (region_at q sp.place).prefix) same,
      ap length (prefix_of_entry entries pages sp.place p_in),
    ) in
    let size : length new ≡ length pages = parted_length pages (slot_at entries i) to p new parted in
    let back : take c.self.inside.pages.len (new ++ drop (length new) pages) ≡ new =
    whole_back new pages c.self.inside.pages.len size (omega (arith, c.self.inside.pages.ok.0)) in
    let both = recut_end entries pages free reserved i to c.self.invariant h sp r c.args.n key new after few which there longer long with_entry parted in
    let done : List Region = regions_of after (take c.self.inside.pages.len (new ++ drop (length new) pages)) in
    subst (λ k. IsRecut c.args.self.now.regions i (take c.args.n k) done) (sym now_is)
    (subst (λ (q : List Region). IsRecut q i p done) same
    (subst (λ ps. IsRecut (regions_of entries pages) i p (regions_of after ps)) (sym back) both.1))
