use Rattle.ml_region.proofs.ItemPlaces.{owner_may_hold}
use Rattle.ml_region.proofs.laws.owners_of_fitting_keys_may_hold_them.Goals as goal

pub returns : goal.returns
returns c = owner_may_hold
