use Rattle.std.proofs.Common.{◌≡◌, ◌<◌, length, sym, subst, arith}
use Rattle.std.proofs.lemmas.Bool.{ltb-true}
use Rattle.ml_region.specs.Regions.{items_at, region_prefixes}
use Rattle.ml_region.proofs.OwnerSearch.{one_owner}
use Rattle.ml_region_rows.proofs.region_rows.has_place.Goals as goal

pub returns : goal.returns
returns c t i own =
    let same : i ≡ c.owner_of-owner.result = one_owner (region_prefixes c.args.regions.now.regions) c.args.key.now.bits i c.owner_of-owner.result
    c.len.ensures.well_placed.rising own c.owner_of-owner.ensures in
    subst (λ k. length (items_at c.args.regions.now.regions k) < 31) (sym same) (omega (arith, ltb-true _ _ t, c.count.ensures))
