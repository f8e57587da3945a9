use Rattle.std.proofs.Common.{◌≡◌, List, length, ap, arith}
use Rattle.ml_region.specs.Regions.{Region, items_at, region_at, region_prefixes}
use Rattle.ml_region.proofs.OwnerSearch.{one_parent}
use Rattle.ml_region_rows.proofs.region_rows.merged.Goals as goal

pub merge-requires-clause-few : goal.merge-requires-clause-few
merge-requires-clause-few c = λ q p.
    let regions : List Region = c.args.regions.now.regions in
    let same : q ≡ c.in-Some.parent =
    one_parent (region_prefixes regions) (region_at regions c.args.i).prefix q c.in-Some.parent c.len-len.ensures.well_placed.rising p c.in-Some.ensures in
    omega (arith, ap (λ k. length (items_at regions k)) same)
