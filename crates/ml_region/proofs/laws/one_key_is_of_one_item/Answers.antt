use Rattle.ml_region.proofs.ItemPlaces.{one_item, found_in_owner}
use Rattle.ml_region.proofs.laws.one_key_is_of_one_item.Goals as goal

pub returns-clause-item : goal.returns-clause-item
returns-clause-item c = one_item

pub returns-clause-owner : goal.returns-clause-owner
returns-clause-owner c = found_in_owner
