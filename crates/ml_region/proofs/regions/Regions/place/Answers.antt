use Rattle.std.proofs.Common.{◌≡◌, ℕ, ◌<◌, List, [], length, set, sym, ap, ◌∙◌, subst, arith}
use Rattle.std.specs.Prelude.{vec_capacity}
use Rattle.std.specs.List.{insert}
use Rattle.std.proofs.lemmas.List.{get_or_read}
use Rattle.ml_region.specs.Changes.{IsPut}
use Rattle.ml_region.specs.Prefixes.{IsRising, IsOwner}
use Rattle.ml_region.specs.Listing.{Entry}
use Rattle.ml_region.specs.Regions.{Region, RegionList, IsApart, items_at, keys_of, region_prefixes}
use Rattle.ml_region.specs.inside.Stored.{page_at, regions_of, IsStored, IsFirstFrom}
use Rattle.ml_region.specs.declared.item.Item.{Item}
use Rattle.ml_region.proofs.RegionItems.{keys_length}
use Rattle.ml_region.proofs.ItemChanges.{owner_inside, owner_rising, owner_few, put_item}
use Rattle.ml_region.proofs.regions.Regions.place.Goals as goal

pub index-requires : goal.index-requires
index-requires g c =
    let entries : List Entry = (g.D.Directory.listing c.self.inside.dir).entries in
    let pages : List (List Item) = c.self.inside.pages.items in
    let free : List ℕ = c.self.inside.free.items in
    let reserved : ℕ = vec_capacity c.self.inside.free in
    let slot : ℕ = c.owner-slot.result in
    let same : regions_of entries pages ≡ c.args.self.now.regions = ap (λ (v : RegionList). v.regions) c.self.view_is in
    let inside : slot < length pages = owner_inside entries pages free reserved c.args.item.key.bits slot c.self.invariant c.owner-slot.ensures in
    omega (arith, inside, c.self.inside.pages.ok.0)

pub first_from-j-requires : goal.first_from-j-requires
first_from-j-requires g c =
    let entries : List Entry = (g.D.Directory.listing c.self.inside.dir).entries in
    let pages : List (List Item) = c.self.inside.pages.items in
    let free : List ℕ = c.self.inside.free.items in
    let reserved : ℕ = vec_capacity c.self.inside.free in
    let slot : ℕ = c.owner-slot.result in
    let same : regions_of entries pages ≡ c.args.self.now.regions = ap (λ (v : RegionList). v.regions) c.self.view_is in
    let inside : slot < length pages = owner_inside entries pages free reserved c.args.item.key.bits slot c.self.invariant c.owner-slot.ensures in
    let first : c.index.result.now ≡ page_at pages slot = get_or_read pages slot c.index.result.now inside c.index.ensures [] in
    subst (λ xs. IsRising (keys_of xs)) (sym first) (owner_rising entries pages free reserved c.args.item.key.bits slot c.self.invariant c.owner-slot.ensures)

pub index_mut-requires : goal.index_mut-requires
index_mut-requires g c =
    let entries : List Entry = (g.D.Directory.listing c.self.inside.dir).entries in
    let pages : List (List Item) = c.self.inside.pages.items in
    let free : List ℕ = c.self.inside.free.items in
    let reserved : ℕ = vec_capacity c.self.inside.free in
    let slot : ℕ = c.owner-slot.result in
    let same : regions_of entries pages ≡ c.args.self.now.regions = ap (λ (v : RegionList). v.regions) c.self.view_is in
    let inside : slot < length pages = owner_inside entries pages free reserved c.args.item.key.bits slot c.self.invariant c.owner-slot.ensures in
    omega (arith, inside, c.self.inside.pages.ok.0)

pub put-requires-clause-within : goal.put-requires-clause-within
put-requires-clause-within g c =
    let entries : List Entry = (g.D.Directory.listing c.self.inside.dir).entries in
    let pages : List (List Item) = c.self.inside.pages.items in
    let free : List ℕ = c.self.inside.free.items in
    let reserved : ℕ = vec_capacity c.self.inside.free in
    let slot : ℕ = c.owner-slot.result in
    let same : regions_of entries pages ≡ c.args.self.now.regions = ap (λ (v : RegionList). v.regions) c.self.view_is in
    let inside : slot < length pages = owner_inside entries pages free reserved c.args.item.key.bits slot c.self.invariant c.owner-slot.ensures in
    let first : c.index.result.now ≡ page_at pages slot = get_or_read pages slot c.index.result.now inside c.index.ensures [] in
    let second : c.index_mut.result.now ≡ page_at pages slot = get_or_read pages slot c.index_mut.result.now inside c.index_mut.ensures.value [] in
    omega (arith, c.first_from-j.ensures.within, keys_length c.index.result.now, ap length (first ∙ sym second))

pub put-requires-clause-few : goal.put-requires-clause-few
put-requires-clause-few g c =
    let entries : List Entry = (g.D.Directory.listing c.self.inside.dir).entries in
    let pages : List (List Item) = c.self.inside.pages.items in
    let free : List ℕ = c.self.inside.free.items in
    let reserved : ℕ = vec_capacity c.self.inside.free in
    let slot : ℕ = c.owner-slot.result in
    let same : regions_of entries pages ≡ c.args.self.now.regions = ap (λ (v : RegionList). v.regions) c.self.view_is in
    let inside : slot < length pages = owner_inside entries pages free reserved c.args.item.key.bits slot c.self.invariant c.owner-slot.ensures in
    let second : c.index_mut.result.now ≡ page_at pages slot = get_or_read pages slot c.index_mut.result.now inside c.index_mut.ensures.value [] in
    let few : length (page_at pages slot) < 31 =
    owner_few entries pages free reserved c.args.item.key.bits slot c.self.invariant c.owner-slot.ensures
    (λ i o. subst (λ (q : List Region). length (items_at q i) < 31) (sym same)
    (c.requires.few i (subst (λ (q : List Region). IsOwner (region_prefixes q) c.args.item.key.bits i) same o))) in
    subst (λ xs. length xs < 31) (sym second) few

pub invariant_of-self : goal.invariant_of-self
invariant_of-self g c =
    let entries : List Entry = (g.D.Directory.listing c.self.inside.dir).entries in
    let pages : List (List Item) = c.self.inside.pages.items in
    let free : List ℕ = c.self.inside.free.items in
    let reserved : ℕ = vec_capacity c.self.inside.free in
    let slot : ℕ = c.owner-slot.result in
    let same : regions_of entries pages ≡ c.args.self.now.regions = ap (λ (v : RegionList). v.regions) c.self.view_is in
    let inside : slot < length pages = owner_inside entries pages free reserved c.args.item.key.bits slot c.self.invariant c.owner-slot.ensures in
    let first : c.index.result.now ≡ page_at pages slot = get_or_read pages slot c.index.result.now inside c.index.ensures [] in
    let second : c.index_mut.result.now ≡ page_at pages slot = get_or_read pages slot c.index_mut.result.now inside c.index_mut.ensures.value [] in
    let few : length (page_at pages slot) < 31 =
    owner_few entries pages free reserved c.args.item.key.bits slot c.self.invariant c.owner-slot.ensures
    (λ i o. subst (λ (q : List Region). length (items_at q i) < 31) (sym same)
    (c.requires.few i (subst (λ (q : List Region). IsOwner (region_prefixes q) c.args.item.key.bits i) same o))) in
    let apart : IsApart (regions_of entries pages) c.args.item.key.bits =
    subst (λ (q : List Region). IsApart q c.args.item.key.bits) (sym same) c.requires.apart in
    let at : IsFirstFrom (keys_of (page_at pages slot)) c.args.item.key.bits c.first_from-j.result =
    subst (λ xs. IsFirstFrom (keys_of xs) c.args.item.key.bits c.first_from-j.result) first c.first_from-j.ensures in
    let new : c.put.new.self ≡ insert (page_at pages slot) c.first_from-j.result c.args.item =
    c.put.ensures ∙ ap (λ xs. insert xs c.first_from-j.result c.args.item) second in
    let both = put_item entries pages free reserved slot c.first_from-j.result c.args.item c.self.invariant c.owner-slot.ensures at few apart in
    subst (λ xs. IsStored entries (set pages slot xs) free reserved) (sym new) both.0

pub returns-clause-regions : goal.returns-clause-regions
returns-clause-regions g c =
    let entries : List Entry = (g.D.Directory.listing c.self.inside.dir).entries in
    let pages : List (List Item) = c.self.inside.pages.items in
    let free : List ℕ = c.self.inside.free.items in
    let reserved : ℕ = vec_capacity c.self.inside.free in
    let slot : ℕ = c.owner-slot.result in
    let same : regions_of entries pages ≡ c.args.self.now.regions = ap (λ (v : RegionList). v.regions) c.self.view_is in
    let inside : slot < length pages = owner_inside entries pages free reserved c.args.item.key.bits slot c.self.invariant c.owner-slot.ensures in
    let first : c.index.result.now ≡ page_at pages slot = get_or_read pages slot c.index.result.now inside c.index.ensures [] in
    let second : c.index_mut.result.now ≡ page_at pages slot = get_or_read pages slot c.index_mut.result.now inside c.index_mut.ensures.value [] in
    let few : length (page_at pages slot) < 31 =
    owner_few entries pages free reserved c.args.item.key.bits slot c.self.invariant c.owner-slot.ensures
    (λ i o. subst (λ (q : List Region). length (items_at q i) < 31) (sym same)
    (c.requires.few i (subst (λ (q : List Region). IsOwner (region_prefixes q) c.args.item.key.bits i) same o))) in
    let apart : IsApart (regions_of entries pages) c.args.item.key.bits =
    subst (λ (q : List Region). IsApart q c.args.item.key.bits) (sym same) c.requires.apart in
    let at : IsFirstFrom (keys_of (page_at pages slot)) c.args.item.key.bits c.first_from-j.result =
    subst (λ xs. IsFirstFrom (keys_of xs) c.args.item.key.bits c.first_from-j.result) first c.first_from-j.ensures in
    let new : c.put.new.self ≡ insert (page_at pages slot) c.first_from-j.result c.args.item =
    c.put.ensures ∙ ap (λ xs. insert xs c.first_from-j.result c.args.item) second in
    let both = put_item entries pages free reserved slot c.first_from-j.result c.args.item c.self.invariant c.owner-slot.ensures at few apart in
    subst (λ (q : List Region). IsPut q c.args.item (regions_of entries (set pages slot c.put.new.self))) same
    (subst (λ xs. IsPut (regions_of entries pages) c.args.item (regions_of entries (set pages slot xs))) (sym new) both.1)
