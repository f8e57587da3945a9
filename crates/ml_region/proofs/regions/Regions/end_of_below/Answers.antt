use Rattle.std.proofs.Common.{◌≡◌, ◌<◌, List, length, sym, ap, ◌∙◌, subst, arith}
use Rattle.std.specs.Prelude.{vec_capacity}
use Rattle.ml_region.specs.Below.{IsEndOfBelow}
use Rattle.ml_region.specs.Listing.{Entry}
use Rattle.ml_region.specs.Regions.{Region, RegionList, region_at, region_prefixes}
use Rattle.ml_region.specs.inside.Stored.{regions_of}
use Rattle.ml_region.specs.declared.item.Item.{Item}
use Rattle.ml_region.proofs.StoredRegions.{regions_length, listing_of, regions_prefixes}
use Rattle.ml_region.proofs.FoundItems.{prefix_of_entry}
use Rattle.ml_region.proofs.regions.Regions.end_of_below.Goals as goal

pub end_of_begun-requires-clause-listing : goal.end_of_begun-requires-clause-listing
end_of_begun-requires-clause-listing g c =
    listing_of (g.D.Directory.listing c.self.inside.dir).entries c.self.inside.pages.items c.self.inside.free.items
    (vec_capacity c.self.inside.free) c.self.invariant

pub end_of_begun-requires-clause-prefix : goal.end_of_begun-requires-clause-prefix
end_of_begun-requires-clause-prefix g c =
    let entries : List Entry = (g.D.Directory.listing c.self.inside.dir).entries in
    let pages : List (List Item) = c.self.inside.pages.items in
    let same : regions_of entries pages ≡ c.args.self.now.regions = ap (λ (v : RegionList). v.regions) c.self.view_is in
    let h : c.args.i < length entries = omega (arith, regions_length entries pages, ap length same, c.requires) in
    c.prefix.ensures.bits ∙ ap (λ (q : List Region). (region_at q c.args.i).prefix) (sym same) ∙ prefix_of_entry entries pages c.args.i h

pub returns : goal.returns
returns g c =
    let entries : List Entry = (g.D.Directory.listing c.self.inside.dir).entries in
    let pages : List (List Item) = c.self.inside.pages.items in
    let same : regions_of entries pages ≡ c.args.self.now.regions = ap (λ (v : RegionList). v.regions) c.self.view_is in
    subst (λ ps. IsEndOfBelow ps c.args.i c.end_of_begun.result) (sym (regions_prefixes entries pages) ∙ ap region_prefixes same) c.end_of_begun.ensures
