use Rattle.std.proofs.Common.{◌≡◌, ◌<◌, List, [], length, sym, ap, ◌∙◌, subst, arith}
use Rattle.std.specs.Prelude.{vec_capacity}
use Rattle.std.proofs.lemmas.List.{get_or_read}
use Rattle.ml_region.specs.Prefixes.{IsRising}
use Rattle.ml_region.specs.Listing.{Entry, slot_at}
use Rattle.ml_region.specs.Regions.{Region, RegionList, HasNoKey, IsFound, keys_of}
use Rattle.ml_region.specs.inside.Stored.{page_at, regions_of}
use Rattle.ml_region.specs.declared.item.Item.{Item}
use Rattle.ml_region.proofs.StoredRegions.{prefixes_length, slot_within}
use Rattle.ml_region.proofs.FoundItems.{nowhere_stored, found_stored, page_rising, key_of_item}
use Rattle.ml_region.proofs.regions.Regions.find.Goals as goal

pub index-page-requires : goal.index-page-requires
index-page-requires g c =
    let entries : List Entry = (g.D.Directory.listing c.self.inside.dir).entries in
    let pages : List (List Item) = c.self.inside.pages.items in
    let h : c.owner.ensures.place < length entries = omega (arith, c.owner.ensures.owner.within, prefixes_length entries) in
    omega (
      arith,
      c.owner.ensures.same,
      slot_within entries c.self.inside.free.items (length pages) c.owner.ensures.place c.self.invariant.shared h,
      c.self.inside.pages.ok.0,
    )

pub find-requires : goal.find-requires
find-requires g c =
    let entries : List Entry = (g.D.Directory.listing c.self.inside.dir).entries in
    let pages : List (List Item) = c.self.inside.pages.items in
    let h : c.owner.ensures.place < length entries = omega (arith, c.owner.ensures.owner.within, prefixes_length entries) in
    let inside : c.owner.result < length pages =
    omega (arith, c.owner.ensures.same, slot_within entries c.self.inside.free.items (length pages) c.owner.ensures.place c.self.invariant.shared h) in
    let page : c.index-page.result.now ≡ page_at pages (slot_at entries c.owner.ensures.place) =
    get_or_read pages c.owner.result c.index-page.result.now inside c.index-page.ensures [] ∙ ap (page_at pages) c.owner.ensures.same in
    subst (λ xs. IsRising (keys_of xs)) (sym page) (page_rising entries pages c.self.inside.free.items
    (vec_capacity c.self.inside.free) c.owner.ensures.place c.self.invariant h)

pub returns-in_err-j : goal.returns-in_err-j
returns-in_err-j g c =
    let entries : List Entry = (g.D.Directory.listing c.self.inside.dir).entries in
    let pages : List (List Item) = c.self.inside.pages.items in
    let same : regions_of entries pages ≡ c.args.self.now.regions = ap (λ (v : RegionList). v.regions) c.self.view_is in
    let h : c.owner.ensures.place < length entries = omega (arith, c.owner.ensures.owner.within, prefixes_length entries) in
    let inside : c.owner.result < length pages =
    omega (arith, c.owner.ensures.same, slot_within entries c.self.inside.free.items (length pages) c.owner.ensures.place c.self.invariant.shared h) in
    let page : c.index-page.result.now ≡ page_at pages (slot_at entries c.owner.ensures.place) =
    get_or_read pages c.owner.result c.index-page.result.now inside c.index-page.ensures [] ∙ ap (page_at pages) c.owner.ensures.same in
    let none : HasNoKey c.args.self.now.regions c.args.key.now.bits =
    subst (λ (q : List Region). HasNoKey q c.args.key.now.bits) same
    (nowhere_stored entries pages c.self.inside.free.items
    (vec_capacity c.self.inside.free) c.owner.ensures.place c.args.key.now.bits c.index-page.result.now c.self.invariant
    c.owner.ensures.owner page c.in_err-j.ensures) in
    rw c.from_residual.ensures none

pub returns : goal.returns
returns g c =
    let entries : List Entry = (g.D.Directory.listing c.self.inside.dir).entries in
    let pages : List (List Item) = c.self.inside.pages.items in
    let same : regions_of entries pages ≡ c.args.self.now.regions = ap (λ (v : RegionList). v.regions) c.self.view_is in
    let h : c.owner.ensures.place < length entries = omega (arith, c.owner.ensures.owner.within, prefixes_length entries) in
    let inside : c.owner.result < length pages =
    omega (arith, c.owner.ensures.same, slot_within entries c.self.inside.free.items (length pages) c.owner.ensures.place c.self.invariant.shared h) in
    let page : c.index-page.result.now ≡ page_at pages (slot_at entries c.owner.ensures.place) =
    get_or_read pages c.owner.result c.index-page.result.now inside c.index-page.ensures [] ∙ ap (page_at pages) c.owner.ensures.same in
    let key : c.item.result.now.key.bits ≡ c.args.key.now.bits =
    ap (λ (x : Item). x.key.bits) c.item.ensures ∙ sym (key_of_item c.index-page.result.now c.in_ok-j.j c.item.result.now c.in_ok-j.ensures.0)
    ∙ c.in_ok-j.ensures.1 in
    subst (λ (q : List Region). IsFound q c.args.key.now.bits c.item.result.now) same
    (found_stored entries pages c.owner.ensures.place c.in_ok-j.j c.args.key.now.bits c.index-page.result.now c.item.result.now h page c.in_ok-j.ensures.0
    c.item.ensures key)
