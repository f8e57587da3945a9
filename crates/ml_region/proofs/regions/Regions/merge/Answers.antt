use Rattle.std.proofs.Common.{◌≡◌, ℕ, ◌+◌, ◌<◌, ◌≤◌, List, [], ◌∷◌, ◌++◌, length, set, take, drop, sym, ap, ◌∙◌, subst, arith}
use Rattle.std.specs.Prelude.{Contains, vec_capacity}
use Rattle.std.specs.List.{remove}
use Rattle.std.proofs.Math.ListN.{length-set}
use Rattle.ml_region.specs.Changes.{IsMerged}
use Rattle.ml_region.specs.inside.Moves.{IsPoured}
use Rattle.ml_region.specs.Prefixes.{IsRising, IsParent}
use Rattle.ml_region.specs.Listing.{Entry, IsSlotOfParent, prefix_at, slot_at}
use Rattle.ml_region.specs.Regions.{Region, RegionList, items_at, keys_of, region_at, region_prefixes}
use Rattle.ml_region.specs.inside.Stored.{page_at, regions_of, IsStored}
use Rattle.ml_region.specs.declared.item.Item.{Item}
use Rattle.ml_region.proofs.SortedElements.{whole_back}
use Rattle.ml_region.proofs.FoundItems.{page_rising}
use Rattle.ml_region.proofs.MergeSteps.{parent_is, parent_in_front, parent_within, own_items, parent_items, keys_differ, merge_end}
use Rattle.ml_region.proofs.StoredRegions.{regions_length, slot_within, slots_apart, listing_of}
use Rattle.ml_region.proofs.regions.Regions.merge.Goals as goal

pub slot_of-from-requires-clause-listing : goal.slot_of-from-requires-clause-listing
slot_of-from-requires-clause-listing g c =
    listing_of (g.D.Directory.listing c.self.inside.dir).entries c.self.inside.pages.items c.self.inside.free.items
    (vec_capacity c.self.inside.free) c.self.invariant

pub parent_slot-to-requires-clause-listing : goal.parent_slot-to-requires-clause-listing
parent_slot-to-requires-clause-listing g c =
    listing_of (g.D.Directory.listing c.self.inside.dir).entries c.self.inside.pages.items c.self.inside.free.items
    (vec_capacity c.self.inside.free) c.self.invariant

pub pour-requires-clause-from : goal.pour-requires-clause-from
pour-requires-clause-from g c =
    let entries : List Entry = (g.D.Directory.listing c.self.inside.dir).entries in
    let pages : List (List Item) = c.self.inside.pages.items in
    let free : List ℕ = c.self.inside.free.items in
    let reserved : ℕ = vec_capacity c.self.inside.free in
    let i : ℕ = c.args.i in
    let same : regions_of entries pages ≡ c.args.self.now.regions = ap (λ (v : RegionList). v.regions) c.self.view_is in
    let h : i < length entries = omega (arith, regions_length entries pages, ap length same, c.requires.within) in
    let from : ℕ = c.slot_of-from.result in
    let to : ℕ = c.parent_slot-to.result in
    let sp : IsSlotOfParent entries (prefix_at entries i) to = c.parent_slot-to.ensures in
    let lent : c.deref_mut.result.now ≡ pages = c.deref_mut.ensures.value in
    let front : sp.place < i = parent_in_front entries pages free reserved i to c.self.invariant h sp in
    let p_in : sp.place < length entries = parent_within entries pages free reserved i to c.self.invariant h sp in
    let inside : from < length pages = omega (arith, c.slot_of-from.ensures, slot_within entries free (length pages) i c.self.invariant.shared h) in
    subst (λ ps. from < length ps) (sym lent) inside

pub pour-requires-clause-to : goal.pour-requires-clause-to
pour-requires-clause-to g c =
    let entries : List Entry = (g.D.Directory.listing c.self.inside.dir).entries in
    let pages : List (List Item) = c.self.inside.pages.items in
    let free : List ℕ = c.self.inside.free.items in
    let reserved : ℕ = vec_capacity c.self.inside.free in
    let i : ℕ = c.args.i in
    let same : regions_of entries pages ≡ c.args.self.now.regions = ap (λ (v : RegionList). v.regions) c.self.view_is in
    let h : i < length entries = omega (arith, regions_length entries pages, ap length same, c.requires.within) in
    let from : ℕ = c.slot_of-from.result in
    let to : ℕ = c.parent_slot-to.result in
    let sp : IsSlotOfParent entries (prefix_at entries i) to = c.parent_slot-to.ensures in
    let lent : c.deref_mut.result.now ≡ pages = c.deref_mut.ensures.value in
    let front : sp.place < i = parent_in_front entries pages free reserved i to c.self.invariant h sp in
    let p_in : sp.place < length entries = parent_within entries pages free reserved i to c.self.invariant h sp in
    let inside : to < length pages = omega (arith, sp.same, slot_within entries free (length pages) sp.place c.self.invariant.shared p_in) in
    subst (λ ps. to < length ps) (sym lent) inside

pub pour-requires-clause-apart : goal.pour-requires-clause-apart
pour-requires-clause-apart g c =
    let entries : List Entry = (g.D.Directory.listing c.self.inside.dir).entries in
    let pages : List (List Item) = c.self.inside.pages.items in
    let free : List ℕ = c.self.inside.free.items in
    let reserved : ℕ = vec_capacity c.self.inside.free in
    let i : ℕ = c.args.i in
    let same : regions_of entries pages ≡ c.args.self.now.regions = ap (λ (v : RegionList). v.regions) c.self.view_is in
    let h : i < length entries = omega (arith, regions_length entries pages, ap length same, c.requires.within) in
    let from : ℕ = c.slot_of-from.result in
    let to : ℕ = c.parent_slot-to.result in
    let sp : IsSlotOfParent entries (prefix_at entries i) to = c.parent_slot-to.ensures in
    let lent : c.deref_mut.result.now ≡ pages = c.deref_mut.ensures.value in
    let front : sp.place < i = parent_in_front entries pages free reserved i to c.self.invariant h sp in
    let p_in : sp.place < length entries = parent_within entries pages free reserved i to c.self.invariant h sp in
    λ e. let one : i ≡ sp.place = slots_apart entries free (length pages) i sp.place c.self.invariant.shared h p_in
    (sym c.slot_of-from.ensures ∙ e ∙ sp.same) in omega arith

pub pour-requires-clause-few : goal.pour-requires-clause-few
pour-requires-clause-few g c =
    let entries : List Entry = (g.D.Directory.listing c.self.inside.dir).entries in
    let pages : List (List Item) = c.self.inside.pages.items in
    let free : List ℕ = c.self.inside.free.items in
    let reserved : ℕ = vec_capacity c.self.inside.free in
    let i : ℕ = c.args.i in
    let same : regions_of entries pages ≡ c.args.self.now.regions = ap (λ (v : RegionList). v.regions) c.self.view_is in
    let h : i < length entries = omega (arith, regions_length entries pages, ap length same, c.requires.within) in
    let from : ℕ = c.slot_of-from.result in
    let to : ℕ = c.parent_slot-to.result in
    let sp : IsSlotOfParent entries (prefix_at entries i) to = c.parent_slot-to.ensures in
    let lent : c.deref_mut.result.now ≡ pages = c.deref_mut.ensures.value in
    let front : sp.place < i = parent_in_front entries pages free reserved i to c.self.invariant h sp in
    let p_in : sp.place < length entries = parent_within entries pages free reserved i to c.self.invariant h sp in
    let few : length (page_at pages to) + length (page_at pages (slot_at entries i)) ≤ 31 =
    omega (
      arith,
      c.requires.few sp.place (subst (λ (q : List Region). IsParent (region_prefixes q) (region_at q i).prefix sp.place) same
          (parent_is entries pages free reserved i to c.self.invariant h sp)),
      ap (λ (q : List Region). length (items_at q sp.place)) same,
      ap (λ (q : List Region). length (items_at q i)) same,
      ap length (parent_items entries pages free reserved i to c.self.invariant h sp),
      ap length (own_items entries pages free reserved i to c.self.invariant h sp),
    ) in
    subst (λ ps. length (page_at ps to) + length (page_at ps from) ≤ 31) (sym lent)
    (subst (λ s. length (page_at pages to) + length (page_at pages s) ≤ 31) (sym c.slot_of-from.ensures) few)

pub pour-requires-clause-rising : goal.pour-requires-clause-rising
pour-requires-clause-rising g c =
    let entries : List Entry = (g.D.Directory.listing c.self.inside.dir).entries in
    let pages : List (List Item) = c.self.inside.pages.items in
    let free : List ℕ = c.self.inside.free.items in
    let reserved : ℕ = vec_capacity c.self.inside.free in
    let i : ℕ = c.args.i in
    let same : regions_of entries pages ≡ c.args.self.now.regions = ap (λ (v : RegionList). v.regions) c.self.view_is in
    let h : i < length entries = omega (arith, regions_length entries pages, ap length same, c.requires.within) in
    let from : ℕ = c.slot_of-from.result in
    let to : ℕ = c.parent_slot-to.result in
    let sp : IsSlotOfParent entries (prefix_at entries i) to = c.parent_slot-to.ensures in
    let lent : c.deref_mut.result.now ≡ pages = c.deref_mut.ensures.value in
    let front : sp.place < i = parent_in_front entries pages free reserved i to c.self.invariant h sp in
    let p_in : sp.place < length entries = parent_within entries pages free reserved i to c.self.invariant h sp in
    subst (λ ps. IsRising (keys_of (page_at ps to))) (sym lent)
    (subst (λ s. IsRising (keys_of (page_at pages s))) (sym sp.same) (page_rising entries pages free reserved sp.place c.self.invariant p_in))

pub pour-requires-clause-from_rising : goal.pour-requires-clause-from_rising
pour-requires-clause-from_rising g c =
    let entries : List Entry = (g.D.Directory.listing c.self.inside.dir).entries in
    let pages : List (List Item) = c.self.inside.pages.items in
    let free : List ℕ = c.self.inside.free.items in
    let reserved : ℕ = vec_capacity c.self.inside.free in
    let i : ℕ = c.args.i in
    let same : regions_of entries pages ≡ c.args.self.now.regions = ap (λ (v : RegionList). v.regions) c.self.view_is in
    let h : i < length entries = omega (arith, regions_length entries pages, ap length same, c.requires.within) in
    let from : ℕ = c.slot_of-from.result in
    let to : ℕ = c.parent_slot-to.result in
    let sp : IsSlotOfParent entries (prefix_at entries i) to = c.parent_slot-to.ensures in
    let lent : c.deref_mut.result.now ≡ pages = c.deref_mut.ensures.value in
    let front : sp.place < i = parent_in_front entries pages free reserved i to c.self.invariant h sp in
    let p_in : sp.place < length entries = parent_within entries pages free reserved i to c.self.invariant h sp in
    subst (λ ps. IsRising (keys_of (page_at ps from))) (sym lent)
    (subst (λ s. IsRising (keys_of (page_at pages s))) (sym c.slot_of-from.ensures) (page_rising entries pages free reserved i c.self.invariant h))

pub pour-requires-clause-different : goal.pour-requires-clause-different
pour-requires-clause-different g c =
    let entries : List Entry = (g.D.Directory.listing c.self.inside.dir).entries in
    let pages : List (List Item) = c.self.inside.pages.items in
    let free : List ℕ = c.self.inside.free.items in
    let reserved : ℕ = vec_capacity c.self.inside.free in
    let i : ℕ = c.args.i in
    let same : regions_of entries pages ≡ c.args.self.now.regions = ap (λ (v : RegionList). v.regions) c.self.view_is in
    let h : i < length entries = omega (arith, regions_length entries pages, ap length same, c.requires.within) in
    let from : ℕ = c.slot_of-from.result in
    let to : ℕ = c.parent_slot-to.result in
    let sp : IsSlotOfParent entries (prefix_at entries i) to = c.parent_slot-to.ensures in
    let lent : c.deref_mut.result.now ≡ pages = c.deref_mut.ensures.value in
    let front : sp.place < i = parent_in_front entries pages free reserved i to c.self.invariant h sp in
    let p_in : sp.place < length entries = parent_within entries pages free reserved i to c.self.invariant h sp in
    λ key own its. keys_differ entries pages free reserved i to c.self.invariant h sp key
    (subst (λ s. Contains (keys_of (page_at pages s)) key) c.slot_of-from.ensures (subst (λ ps. Contains (keys_of (page_at ps from)) key) lent own))
    (subst (λ ps. Contains (keys_of (page_at ps to)) key) lent its)

pub invariant_of-self : goal.invariant_of-self
invariant_of-self g c =
    let entries : List Entry = (g.D.Directory.listing c.self.inside.dir).entries in
    let pages : List (List Item) = c.self.inside.pages.items in
    let free : List ℕ = c.self.inside.free.items in
    let reserved : ℕ = vec_capacity c.self.inside.free in
    let i : ℕ = c.args.i in
    let same : regions_of entries pages ≡ c.args.self.now.regions = ap (λ (v : RegionList). v.regions) c.self.view_is in
    let h : i < length entries = omega (arith, regions_length entries pages, ap length same, c.requires.within) in
    let from : ℕ = c.slot_of-from.result in
    let to : ℕ = c.parent_slot-to.result in
    let sp : IsSlotOfParent entries (prefix_at entries i) to = c.parent_slot-to.ensures in
    let lent : c.deref_mut.result.now ≡ pages = c.deref_mut.ensures.value in
    let front : sp.place < i = parent_in_front entries pages free reserved i to c.self.invariant h sp in
    let p_in : sp.place < length entries = parent_within entries pages free reserved i to c.self.invariant h sp in
    let few : length (page_at pages to) + length (page_at pages (slot_at entries i)) ≤ 31 =
    omega (
      arith,
      c.requires.few sp.place (subst (λ (q : List Region). IsParent (region_prefixes q) (region_at q i).prefix sp.place) same
          (parent_is entries pages free reserved i to c.self.invariant h sp)),
      ap (λ (q : List Region). length (items_at q sp.place)) same,
      ap (λ (q : List Region). length (items_at q i)) same,
      ap length (parent_items entries pages free reserved i to c.self.invariant h sp),
      ap length (own_items entries pages free reserved i to c.self.invariant h sp),
    ) in
    let new : List (List Item) = c.pour.new.pages in
    let after : List Entry = (g.D.Directory.listing c.drop_prefix.new.self).entries in
    let poured : IsPoured pages (slot_at entries i) to new =
    subst (λ s. IsPoured pages s to new) c.slot_of-from.ensures (subst (λ ps. IsPoured ps from to new) lent c.pour.ensures) in
    let freed : c.push_reserved.new.self.items ≡ free ++ slot_at entries i ∷ [] =
    c.push_reserved.ensures.items ∙ ap (λ s. free ++ s ∷ []) c.slot_of-from.ensures in
    let size : length new ≡ length pages =
    ap length poured.same ∙ length-set (set pages (slot_at entries i) []) to poured.items ∙ length-set pages (slot_at entries i) [] in
    let back : take c.self.inside.pages.len (new ++ drop (length new) pages) ≡ new =
    whole_back new pages c.self.inside.pages.len size (omega (arith, c.self.inside.pages.ok.0)) in
    let both = merge_end entries pages free reserved i to c.self.invariant h sp new few poured in
    let first : IsStored (remove entries i) new (free ++ slot_at entries i ∷ []) (vec_capacity c.push_reserved.new.self) =
    subst (λ n. IsStored (remove entries i) new (free ++ slot_at entries i ∷ []) n) (sym c.push_reserved.ensures.capacity) both.0 in
    subst (λ ps. IsStored after ps c.push_reserved.new.self.items (vec_capacity c.push_reserved.new.self)) (sym back)
    (subst (λ (es : List Entry). IsStored es new c.push_reserved.new.self.items (vec_capacity c.push_reserved.new.self)) (sym c.drop_prefix.ensures.entries)
    (subst (λ f. IsStored (remove entries i) new f (vec_capacity c.push_reserved.new.self)) (sym freed) first))

pub returns-clause-regions : goal.returns-clause-regions
returns-clause-regions g c =
    let entries : List Entry = (g.D.Directory.listing c.self.inside.dir).entries in
    let pages : List (List Item) = c.self.inside.pages.items in
    let free : List ℕ = c.self.inside.free.items in
    let reserved : ℕ = vec_capacity c.self.inside.free in
    let i : ℕ = c.args.i in
    let same : regions_of entries pages ≡ c.args.self.now.regions = ap (λ (v : RegionList). v.regions) c.self.view_is in
    let h : i < length entries = omega (arith, regions_length entries pages, ap length same, c.requires.within) in
    let from : ℕ = c.slot_of-from.result in
    let to : ℕ = c.parent_slot-to.result in
    let sp : IsSlotOfParent entries (prefix_at entries i) to = c.parent_slot-to.ensures in
    let lent : c.deref_mut.result.now ≡ pages = c.deref_mut.ensures.value in
    let front : sp.place < i = parent_in_front entries pages free reserved i to c.self.invariant h sp in
    let p_in : sp.place < length entries = parent_within entries pages free reserved i to c.self.invariant h sp in
    let few : length (page_at pages to) + length (page_at pages (slot_at entries i)) ≤ 31 =
    omega (
      arith,
      c.requires.few sp.place (subst (λ (q : List Region). IsParent (region_prefixes q) (region_at q i).prefix sp.place) same
          (parent_is entries pages free reserved i to c.self.invariant h sp)),
      ap (λ (q : List Region). length (items_at q sp.place)) same,
      ap (λ (q : List Region). length (items_at q i)) same,
      ap length (parent_items entries pages free reserved i to c.self.invariant h sp),
      ap length (own_items entries pages free reserved i to c.self.invariant h sp),
    ) in
    let new : List (List Item) = c.pour.new.pages in
    let after : List Entry = (g.D.Directory.listing c.drop_prefix.new.self).entries in
    let poured : IsPoured pages (slot_at entries i) to new =
    subst (λ s. IsPoured pages s to new) c.slot_of-from.ensures (subst (λ ps. IsPoured ps from to new) lent c.pour.ensures) in
    let freed : c.push_reserved.new.self.items ≡ free ++ slot_at entries i ∷ [] =
    c.push_reserved.ensures.items ∙ ap (λ s. free ++ s ∷ []) c.slot_of-from.ensures in
    let size : length new ≡ length pages =
    ap length poured.same ∙ length-set (set pages (slot_at entries i) []) to poured.items ∙ length-set pages (slot_at entries i) [] in
    let back : take c.self.inside.pages.len (new ++ drop (length new) pages) ≡ new =
    whole_back new pages c.self.inside.pages.len size (omega (arith, c.self.inside.pages.ok.0)) in
    let both = merge_end entries pages free reserved i to c.self.invariant h sp new few poured in
    subst (λ (q : List Region). IsMerged q i (regions_of after (take c.self.inside.pages.len (new ++ drop (length new) pages)))) same
    (subst (λ ps. IsMerged (regions_of entries pages) i (regions_of after ps)) (sym back)
    (subst (λ (es : List Entry). IsMerged (regions_of entries pages) i (regions_of es new)) (sym c.drop_prefix.ensures.entries) both.1))
