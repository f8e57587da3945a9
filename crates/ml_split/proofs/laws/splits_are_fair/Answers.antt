use Rattle.ml_split.proofs.SplitWalk.{Goes, rule_ends, one_split, is_fair}
use Rattle.ml_split.proofs.laws.splits_are_fair.Goals as goal

pub returns-clause-ends : goal.returns-clause-ends
returns-clause-ends c keys old = let goes : Goes keys old = rule_ends keys old in (goes.bits, goes.goes)

pub returns-clause-one : goal.returns-clause-one
returns-clause-one c = one_split

pub returns-clause-fair : goal.returns-clause-fair
returns-clause-fair c = is_fair
