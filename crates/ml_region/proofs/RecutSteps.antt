-- The steps of a recut: a merge whose free page serves a cut.
use Rattle.std.proofs.Common.{◌≡◌, ◌⊎◌, inl, inr, ℕ, ◌+◌, ◌<◌, ◌≤◌, Bool, List, [], ◌++◌, length, get_or, set, take, sym, ap, subst, ◌∙◌, arith}
use Rattle.std.specs.Prelude.{Contains}
use Rattle.std.specs.List.{insert, remove}
use Rattle.std.proofs.Math.ListN.{length-set}
use Rattle.std.proofs.lemmas.List.{length-map, map-append, length-take-le, get_or-set_same}
use Rattle.std.proofs.lemmas.List.Edits.{length-remove, get_or-remove_below}
use Rattle.std.proofs.lemmas.List.Elements.{Contains-append_left, Contains-append_right}
use Rattle.std.proofs.lemmas.List.Sorted.{IsPermutation-map, Contains-permutation}
use Rattle.ml_region.specs.Prefixes.{IsParent}
use Rattle.ml_region.specs.Listing.{Entry, IsSlotOfParent, IsWithEntry, prefixes_of, slots_of, prefix_at, slot_at}
use Rattle.ml_region.specs.Regions.{Region, region_prefixes, region_at, items_at, keys_of, keys_at}
use Rattle.ml_region.specs.Changes.{IsMerged, IsCut, IsRecut, items_below, items_beside}
use Rattle.ml_region.specs.inside.Moves.{IsParted}
use Rattle.ml_region.specs.inside.Stored.{page_at, regions_of, IsStored}
use Rattle.ml_region.specs.declared.item.Item.{Item}
use Rattle.ml_region.proofs.ListInsertions.{map_remove}
use Rattle.ml_region.proofs.StoredRegions.{regions_length, slot_within}
use Rattle.ml_region.proofs.OwnerSearch.{one_parent}
use Rattle.ml_region.proofs.FoundItems.{items_of_page, prefix_of_entry}
use Rattle.ml_region.proofs.RegionCuts.{IsCutting}
use Rattle.ml_region.proofs.CutStored.{cut_stored}
use Rattle.ml_region.proofs.MergeSteps.{parent_is, parent_in_front, parent_within, own_items, parent_items, merge_end}

recut_of : (regions : List Region) (i : ℕ) (p : List Bool) (middle new : List Region) (q : ℕ) (m : IsMerged regions i middle) → m.parent ≡ q →
    IsCut middle q p new → IsRecut regions i p new
recut_of regions i p middle new q m e cut = record { middle = middle; merged = m; cut = subst (λ k. IsCut middle k p new) (sym e) cut }

pub parted_length : (pages : List (List Item)) (from to : ℕ) (p : List Bool) (new : List (List Item)) → IsParted pages from to p new → length new ≡ length pages
parted_length pages from to p new parted =
    let middle : List (List Item) = parted.middle in
    ap length parted.same ∙ length-set (set middle to (items_beside p (page_at middle to))) from (items_below p (page_at middle to))
    ∙ length-set middle to (items_beside p (page_at middle to)) ∙ ap length parted.poured.same
    ∙ length-set (set pages from []) to parted.poured.items ∙ length-set pages from []

module _ (entries : List Entry) (pages : List (List Item)) (free : List ℕ) (reserved i to : ℕ) (stored : IsStored entries pages free reserved)
    (h : i < length entries)
    (sp : IsSlotOfParent entries (prefix_at entries i) to) where
  pub recut_end : (r n : ℕ) (key : List Bool) (new : List (List Item)) (after : List Entry) →
      length (page_at pages to) + length (page_at pages (slot_at entries i)) ≤ 31
      → (r ≡ i) ⊎ (r ≡ sp.place) → Contains (keys_at (regions_of entries pages) r) key → length (prefix_at entries sp.place) < n → n ≤ length key
      → IsWithEntry (remove entries i) (record { prefix = take n key; slot = slot_at entries i }) after → IsParted pages (slot_at entries i) to (take n key) new
      → IsStored after new free reserved × IsRecut (regions_of entries pages) i (take n key) (regions_of after new)
  recut_end r n key new after few which there longer within w parted =
      let rs : List Region = regions_of entries pages in
      let from : ℕ = slot_at entries i in
      let p : List Bool = take n key in
      let q : ℕ = sp.place in
      let front : q < i = parent_in_front entries pages free reserved i to stored h sp in
      let q_in : q < length entries = parent_within entries pages free reserved i to stored h sp in
      let rest : List Entry = remove entries i in
      let middle : List (List Item) = parted.middle in
      let both = merge_end entries pages free reserved i to stored h sp middle few parted.poured in
      let mid : List Region = regions_of rest middle in
      let slot : slot_at rest q ≡ to =
      ap (λ ss. get_or ss q 0) (map_remove (λ (e : Entry). e.slot) entries i)
      ∙ get_or-remove_below (slots_of entries) i 0 q front (omega (arith, length-map entries (λ (e : Entry). e.slot))) ∙ sym sp.same in
      let prefix : prefix_at rest q ≡ prefix_at entries q =
      ap (λ ps. get_or ps q []) (map_remove (λ (e : Entry). e.prefix) entries i)
      ∙ get_or-remove_below (prefixes_of entries) i [] q front (omega (arith, length-map entries (λ (e : Entry). e.prefix))) in
      let q_rest : q < length rest = omega (arith, length-remove entries i h) in
      let page : items_at mid q ≡ parted.poured.items =
      items_of_page rest middle q q_rest ∙ ap (page_at middle) slot ∙ ap (λ ps. page_at ps to) parted.poured.same
      ∙ get_or-set_same (set pages from []) to parted.poured.items []
      (omega (arith, length-set pages from [], sp.same, slot_within entries free (length pages) q stored.shared q_in)) in
      let all : Contains (keys_of (page_at pages to ++ page_at pages from)) key =
      subst (λ ks. Contains ks key) (sym (map-append (λ (x : Item). x.key.bits) (page_at pages to) (page_at pages from)))
      (elim which [
        | inl e ↦
            Contains-append_right (keys_of (page_at pages to)) (keys_of (page_at pages from)) key
            (subst (λ xs. Contains (keys_of xs) key) (ap (items_at rs) e ∙ own_items entries pages free reserved i to stored h sp) there)
        | inr e ↦
            Contains-append_left (keys_of (page_at pages to)) (keys_of (page_at pages from)) key
            (subst (λ xs. Contains (keys_of xs) key) (ap (items_at rs) e ∙ parent_items entries pages free reserved i to stored h sp) there)
      ]) in
      let moved : Contains (keys_of parted.poured.items) key =
      Contains-permutation (keys_of (page_at pages to ++ page_at pages from)) (keys_of parted.poured.items) key
      (IsPermutation-map (λ (x : Item). x.key.bits) (page_at pages to ++ page_at pages from) parted.poured.items parted.poured.all) all in
      let long : length p ≡ n = length-take-le n key within in
      let cut : IsCutting mid q key p = record {
        within = omega (arith, regions_length rest middle);
        there = subst (λ xs. Contains (keys_of xs) key) (sym page) moved;
        begins = ap (λ m. take m key) long;
        longer = omega (arith, long, ap length (prefix_of_entry rest middle q q_rest), ap length prefix);
      } in
      let ends = cut_stored rest middle free reserved from q w.place key p both.0 cut w.fits in
      let pages_are : new ≡ set (set middle (slot_at rest q) (items_beside p (page_at middle (slot_at rest q)))) from
      (items_below p (page_at middle (slot_at rest q))) =
      parted.same ∙ ap (λ s. set (set middle s (items_beside p (page_at middle s))) from (items_below p (page_at middle s))) (sym slot) in
      let whole : IsStored after new free reserved =
      subst (λ (e : List Entry). IsStored e new free reserved) (sym w.same)
      (subst (λ ps. IsStored (insert rest w.place (record { prefix = p; slot = from })) ps free reserved) (sym pages_are) ends.0) in
      let cut_is : IsCut mid q p (regions_of after new) =
      subst (λ (e : List Entry). IsCut mid q p (regions_of e new)) (sym w.same)
      (subst (λ ps. IsCut mid q p (regions_of (insert rest w.place (record { prefix = p; slot = from })) ps)) (sym pages_are) ends.1) in (
        whole,
        recut_of rs i p mid (regions_of after new) q both.1
            (one_parent (region_prefixes rs) (region_at rs i).prefix both.1.parent q stored.placed.rising both.1.is_parent
            (parent_is entries pages free reserved i to stored h sp)) cut_is,
      )

  pub same_parent : (r : ℕ) → IsParent (region_prefixes (regions_of entries pages)) (region_at (regions_of entries pages) i).prefix r → r ≡ sp.place
  same_parent r p =
      one_parent (region_prefixes (regions_of entries pages)) (region_at (regions_of entries pages) i).prefix r sp.place stored.placed.rising p
      (parent_is entries pages free reserved i to stored h sp)
