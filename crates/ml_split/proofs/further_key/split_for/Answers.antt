use Rattle.std.proofs.Common.{List, Bool, take}
use Rattle.std.proofs.lemmas.Result.{on_ok_weaker}
use Rattle.ml_region.specs.Changes.{IsCut}
use Rattle.ml_region.specs.Prefixes.{bits_at}
use Rattle.ml_region.specs.Regions.{Region, keys_at}
use Rattle.ml_split.proofs.RegionSizes.{split_for_few}
use Rattle.ml_split.proofs.further_key.split_for.Goals as goal

pub returns-clause-few : goal.returns-clause-few
returns-clause-few g c few =
    let old : List Region = c.args.regions.now.regions in
    let prefix : List Bool = take c.item_for-place.result.bits (bits_at (keys_at old c.args.i) c.item_for-place.result.key) in
    on_ok_weaker c.cut.result
    (λ (cut : IsCut old c.args.i prefix c.cut.new.self.regions).
    split_for_few old c.args.i c.args.key.now.bits c.cut.new.self.regions c.len-well_placed.ensures.well_placed c.requires.region
    (record { prefix = prefix; split = c.item_for-place.ensures.split; fair = c.item_for-place.ensures.fair; cut = cut }) few)
    c.cut.ensures.ok
