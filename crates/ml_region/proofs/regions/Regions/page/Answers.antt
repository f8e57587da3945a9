use Rattle.std.proofs.Common.{◌≡◌, ◌<◌, List, [], length, sym, ap, ◌∙◌, arith}
use Rattle.std.specs.Prelude.{vec_capacity}
use Rattle.std.proofs.lemmas.List.{get_or_read}
use Rattle.ml_region.specs.Listing.{Entry}
use Rattle.ml_region.specs.Regions.{Region, RegionList, items_at}
use Rattle.ml_region.specs.inside.Stored.{page_at, regions_of}
use Rattle.ml_region.specs.declared.item.Item.{Item}
use Rattle.ml_region.proofs.StoredRegions.{regions_length, slot_within, listing_of}
use Rattle.ml_region.proofs.FoundItems.{items_of_page}
use Rattle.ml_region.proofs.regions.Regions.page.Goals as goal

pub slot_of-requires-clause-listing : goal.slot_of-requires-clause-listing
slot_of-requires-clause-listing g c =
    listing_of (g.D.Directory.listing c.self.inside.dir).entries c.self.inside.pages.items c.self.inside.free.items
    (vec_capacity c.self.inside.free) c.self.invariant

pub index-requires : goal.index-requires
index-requires g c =
    let entries : List Entry = (g.D.Directory.listing c.self.inside.dir).entries in
    let pages : List (List Item) = c.self.inside.pages.items in
    let same : regions_of entries pages ≡ c.args.self.now.regions = ap (λ (v : RegionList). v.regions) c.self.view_is in
    let h : c.args.i < length entries = omega (arith, regions_length entries pages, ap length same, c.requires) in
    omega (arith, c.slot_of.ensures, slot_within entries c.self.inside.free.items (length pages) c.args.i c.self.invariant.shared h, c.self.inside.pages.ok.0)

pub returns : goal.returns
returns g c =
    let entries : List Entry = (g.D.Directory.listing c.self.inside.dir).entries in
    let pages : List (List Item) = c.self.inside.pages.items in
    let same : regions_of entries pages ≡ c.args.self.now.regions = ap (λ (v : RegionList). v.regions) c.self.view_is in
    let h : c.args.i < length entries = omega (arith, regions_length entries pages, ap length same, c.requires) in
    let inside : c.slot_of.result < length pages =
    omega (arith, c.slot_of.ensures, slot_within entries c.self.inside.free.items (length pages) c.args.i c.self.invariant.shared h) in
    get_or_read pages c.slot_of.result c.index.result.now inside c.index.ensures [] ∙ ap (page_at pages) c.slot_of.ensures
    ∙ sym (items_of_page entries pages c.args.i h) ∙ ap (λ (q : List Region). items_at q c.args.i) same
