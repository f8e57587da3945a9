-- The law of heads and their arguments.
use Rattle.ml_match.proofs.HeadClashes.{matched_by_arguments}
use Rattle.ml_match.proofs.laws.heads_are_matched_by_their_arguments.Goals as goal

pub returns : goal.returns
returns c = matched_by_arguments
