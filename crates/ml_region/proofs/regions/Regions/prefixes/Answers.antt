use Rattle.std.proofs.Common.{◌≡◌, List, sym, ap, ◌∙◌, subst}
use Rattle.std.specs.Prelude.{vec_capacity}
use Rattle.ml_region.specs.Prefixes.{AreRooted}
use Rattle.ml_region.specs.Listing.{Entry}
use Rattle.ml_region.specs.Regions.{RegionList, region_prefixes}
use Rattle.ml_region.specs.inside.Stored.{regions_of}
use Rattle.ml_region.specs.declared.item.Item.{Item}
use Rattle.ml_region.proofs.ListingChanges.{listing_rooted}
use Rattle.ml_region.proofs.StoredRegions.{listing_of, regions_prefixes}
use Rattle.ml_region.proofs.regions.Regions.prefixes.Goals as goal

pub returns-clause-same : goal.returns-clause-same
returns-clause-same g c =
    let entries : List Entry = (g.D.Directory.listing c.self.inside.dir).entries in
    let pages : List (List Item) = c.self.inside.pages.items in
    let same : regions_of entries pages ≡ c.args.self.now.regions = ap (λ (v : RegionList). v.regions) c.self.view_is in
    sym (regions_prefixes entries pages) ∙ ap region_prefixes same

pub returns-clause-rooted : goal.returns-clause-rooted
returns-clause-rooted g c =
    let entries : List Entry = (g.D.Directory.listing c.self.inside.dir).entries in
    let pages : List (List Item) = c.self.inside.pages.items in
    let same : regions_of entries pages ≡ c.args.self.now.regions = ap (λ (v : RegionList). v.regions) c.self.view_is in
    subst AreRooted (sym (regions_prefixes entries pages) ∙ ap region_prefixes same)
    (listing_rooted entries (listing_of entries pages c.self.inside.free.items (vec_capacity c.self.inside.free) c.self.invariant))
