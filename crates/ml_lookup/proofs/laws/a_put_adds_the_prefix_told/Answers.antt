use Rattle.ml_lookup.proofs.ToldPrefixes.{none_comes, told_comes, told_divides}
use Rattle.ml_lookup.proofs.laws.a_put_adds_the_prefix_told.Goals as goal

pub returns : goal.returns
returns c = record { told = told_comes; none = none_comes; divides = told_divides }
