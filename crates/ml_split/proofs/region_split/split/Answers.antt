use Rattle.ml_split.proofs.RegionSizes.{split_few}
use Rattle.ml_split.proofs.region_split.split.Goals as goal

pub returns-clause-few : goal.returns-clause-few
returns-clause-few g c =
    split_few c.args.regions.now.regions c.args.i _ _ _ c.len-well_placed.ensures.well_placed c.requires.region c.place_in-place.ensures.fair
    c.in_ok-cut.ensures.ok
