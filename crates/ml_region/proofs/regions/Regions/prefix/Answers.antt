use Rattle.std.proofs.Common.{◌≡◌, ◌<◌, List, length, sym, ap, ◌∙◌, arith}
use Rattle.ml_region.specs.Listing.{Entry}
use Rattle.ml_region.specs.Regions.{Region, RegionList, region_at}
use Rattle.ml_region.specs.inside.Stored.{regions_of}
use Rattle.ml_region.specs.declared.item.Item.{Item}
use Rattle.ml_region.proofs.StoredRegions.{regions_length}
use Rattle.ml_region.proofs.FoundItems.{prefix_of_entry}
use Rattle.ml_region.proofs.regions.Regions.prefix.Goals as goal

pub returns-clause-bits : goal.returns-clause-bits
returns-clause-bits g c =
    let entries : List Entry = (g.D.Directory.listing c.self.inside.dir).entries in
    let pages : List (List Item) = c.self.inside.pages.items in
    let same : regions_of entries pages ≡ c.args.self.now.regions = ap (λ (v : RegionList). v.regions) c.self.view_is in
    let h : c.args.i < length entries = omega (arith, regions_length entries pages, ap length same, c.requires) in
    c.in-Some.ensures.prefix.1 ∙ sym (prefix_of_entry entries pages c.args.i h) ∙ ap (λ (q : List Region). (region_at q c.args.i).prefix) same

pub returns-clause-room : goal.returns-clause-room
returns-clause-room g c =
    let room : (g.D.Directory.listing c.self.inside.dir).room ≡ c.args.self.now.room = ap (λ (v : RegionList). v.room) c.self.view_is in
    omega (arith, room, c.in-Some.ensures.room)
