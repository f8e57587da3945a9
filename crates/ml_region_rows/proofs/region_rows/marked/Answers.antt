use Rattle.ml_region.proofs.ItemPlaces.{found_key_is_there}
use Rattle.ml_region_rows.proofs.region_rows.marked.Goals as goal

pub mark-requires : goal.mark-requires
mark-requires c = found_key_is_there c.args.regions.now.regions c.args.key.now.bits _ c.in-Some.ensures
